use Rattle.std.proofs.Common.{◌∙◌, ap, Bool, true, false}
use Rattle.emit_module.specs.Fixed.{FAILED, OVERFLOW, REFUSED, TIMES, WAIT, WHOLE}
use Rattle.emit_statements.specs.Sources.{seen}
use Rattle.emit_module.specs.Modules.{fails_somewhere, has_calls, refuses_somewhere, shortens_somewhere, text_if, times_somewhere, waits_somewhere}
use Rattle.base_io.proofs.Writing.{wrote_both, wrote_fails, wrote_longer, wrote_same}
use Rattle.emit_module.proofs.module.write_functions.Goals as goal

pub returns-in_err-write_piece : goal.returns-in_err-write_piece
returns-in_err-write_piece g c =
    wrote_fails _ c.from_residual.ensures.0 (wrote_longer (text_if (shortens_somewhere (seen c.args.source.now)) WHOLE) (wrote_longer (text_if (refuses_somewhere (seen c.args.source.now) true) FAILED) (wrote_longer (text_if (refuses_somewhere (seen c.args.source.now) false) REFUSED) (wrote_longer (text_if (fails_somewhere (seen c.args.source.now)) OVERFLOW) (wrote_longer (text_if (times_somewhere (seen c.args.source.now)) TIMES) (wrote_longer (text_if (waits_somewhere c.args.source.now.monitor.now) WAIT) (wrote_same _ (c.text_if.ensures ∙ ap (λ (b : Bool). text_if b c.lock_bytes.result.now) c.has_calls.ensures ∙ ap (text_if (has_calls c.args.source.now.tree.now)) c.lock_bytes.ensures) c.in_err-write_piece.ensures)))))))

pub returns-in_err-write_piece-2 : goal.returns-in_err-write_piece-2
returns-in_err-write_piece-2 g c =
    wrote_fails _ c.from_residual-in_err-write_piece-2.ensures.0 (wrote_longer (text_if (shortens_somewhere (seen c.args.source.now)) WHOLE) (wrote_longer (text_if (refuses_somewhere (seen c.args.source.now) true) FAILED) (wrote_longer (text_if (refuses_somewhere (seen c.args.source.now) false) REFUSED) (wrote_longer (text_if (fails_somewhere (seen c.args.source.now)) OVERFLOW) (wrote_longer (text_if (times_somewhere (seen c.args.source.now)) TIMES) (wrote_both (wrote_same _ (c.text_if.ensures ∙ ap (λ (b : Bool). text_if b c.lock_bytes.result.now) c.has_calls.ensures ∙ ap (text_if (has_calls c.args.source.now.tree.now)) c.lock_bytes.ensures) c.in_ok-write_piece.ensures) (wrote_same _ (c.text_if-2.ensures ∙ ap (λ (b : Bool). text_if b c.wait_bytes.result.now) c.waits_somewhere.ensures ∙ ap (text_if (waits_somewhere c.args.source.now.monitor.now)) c.wait_bytes.ensures) c.in_err-write_piece-2.ensures)))))))

pub returns-in_err-write_times : goal.returns-in_err-write_times
returns-in_err-write_times g c =
    wrote_fails _ c.from_residual-in_err-write_times.ensures.0 (wrote_longer (text_if (shortens_somewhere (seen c.args.source.now)) WHOLE) (wrote_longer (text_if (refuses_somewhere (seen c.args.source.now) true) FAILED) (wrote_longer (text_if (refuses_somewhere (seen c.args.source.now) false) REFUSED) (wrote_longer (text_if (fails_somewhere (seen c.args.source.now)) OVERFLOW) (wrote_both (wrote_both (wrote_same _ (c.text_if.ensures ∙ ap (λ (b : Bool). text_if b c.lock_bytes.result.now) c.has_calls.ensures ∙ ap (text_if (has_calls c.args.source.now.tree.now)) c.lock_bytes.ensures) c.in_ok-write_piece.ensures) (wrote_same _ (c.text_if-2.ensures ∙ ap (λ (b : Bool). text_if b c.wait_bytes.result.now) c.waits_somewhere.ensures ∙ ap (text_if (waits_somewhere c.args.source.now.monitor.now)) c.wait_bytes.ensures) c.in_ok-write_piece-2.ensures)) c.in_err-write_times.ensures)))))

pub returns-in_err-write_piece-3 : goal.returns-in_err-write_piece-3
returns-in_err-write_piece-3 g c =
    wrote_fails _ c.from_residual-in_err-write_piece-3.ensures.0 (wrote_longer (text_if (shortens_somewhere (seen c.args.source.now)) WHOLE) (wrote_longer (text_if (refuses_somewhere (seen c.args.source.now) true) FAILED) (wrote_longer (text_if (refuses_somewhere (seen c.args.source.now) false) REFUSED) (wrote_both (wrote_both (wrote_both (wrote_same _ (c.text_if.ensures ∙ ap (λ (b : Bool). text_if b c.lock_bytes.result.now) c.has_calls.ensures ∙ ap (text_if (has_calls c.args.source.now.tree.now)) c.lock_bytes.ensures) c.in_ok-write_piece.ensures) (wrote_same _ (c.text_if-2.ensures ∙ ap (λ (b : Bool). text_if b c.wait_bytes.result.now) c.waits_somewhere.ensures ∙ ap (text_if (waits_somewhere c.args.source.now.monitor.now)) c.wait_bytes.ensures) c.in_ok-write_piece-2.ensures)) c.in_ok-write_times.ensures) (wrote_same _ (c.text_if-3.ensures ∙ ap (λ (b : Bool). text_if b c.overflow_bytes.result.now) c.fails_somewhere.ensures ∙ ap (text_if (fails_somewhere (seen c.args.source.now))) c.overflow_bytes.ensures) c.in_err-write_piece-3.ensures)))))

pub returns-in_err-write_refused : goal.returns-in_err-write_refused
returns-in_err-write_refused g c =
    wrote_fails _ c.from_residual-in_err-write_refused.ensures.0 (wrote_longer (text_if (shortens_somewhere (seen c.args.source.now)) WHOLE) (wrote_longer (text_if (refuses_somewhere (seen c.args.source.now) true) FAILED) (wrote_both (wrote_both (wrote_both (wrote_both (wrote_same _ (c.text_if.ensures ∙ ap (λ (b : Bool). text_if b c.lock_bytes.result.now) c.has_calls.ensures ∙ ap (text_if (has_calls c.args.source.now.tree.now)) c.lock_bytes.ensures) c.in_ok-write_piece.ensures) (wrote_same _ (c.text_if-2.ensures ∙ ap (λ (b : Bool). text_if b c.wait_bytes.result.now) c.waits_somewhere.ensures ∙ ap (text_if (waits_somewhere c.args.source.now.monitor.now)) c.wait_bytes.ensures) c.in_ok-write_piece-2.ensures)) c.in_ok-write_times.ensures) (wrote_same _ (c.text_if-3.ensures ∙ ap (λ (b : Bool). text_if b c.overflow_bytes.result.now) c.fails_somewhere.ensures ∙ ap (text_if (fails_somewhere (seen c.args.source.now))) c.overflow_bytes.ensures) c.in_ok-write_piece-3.ensures)) c.in_err-write_refused.ensures)))

pub returns-in_err-write_failed : goal.returns-in_err-write_failed
returns-in_err-write_failed g c =
    wrote_fails _ c.from_residual-in_err-write_failed.ensures.0 (wrote_longer (text_if (shortens_somewhere (seen c.args.source.now)) WHOLE) (wrote_both (wrote_both (wrote_both (wrote_both (wrote_both (wrote_same _ (c.text_if.ensures ∙ ap (λ (b : Bool). text_if b c.lock_bytes.result.now) c.has_calls.ensures ∙ ap (text_if (has_calls c.args.source.now.tree.now)) c.lock_bytes.ensures) c.in_ok-write_piece.ensures) (wrote_same _ (c.text_if-2.ensures ∙ ap (λ (b : Bool). text_if b c.wait_bytes.result.now) c.waits_somewhere.ensures ∙ ap (text_if (waits_somewhere c.args.source.now.monitor.now)) c.wait_bytes.ensures) c.in_ok-write_piece-2.ensures)) c.in_ok-write_times.ensures) (wrote_same _ (c.text_if-3.ensures ∙ ap (λ (b : Bool). text_if b c.overflow_bytes.result.now) c.fails_somewhere.ensures ∙ ap (text_if (fails_somewhere (seen c.args.source.now))) c.overflow_bytes.ensures) c.in_ok-write_piece-3.ensures)) c.in_ok-write_refused.ensures) c.in_err-write_failed.ensures))

pub returns : goal.returns
returns g c =
    wrote_both (wrote_both (wrote_both (wrote_both (wrote_both (wrote_both (wrote_same _ (c.text_if.ensures ∙ ap (λ (b : Bool). text_if b c.lock_bytes.result.now) c.has_calls.ensures ∙ ap (text_if (has_calls c.args.source.now.tree.now)) c.lock_bytes.ensures) c.in_ok-write_piece.ensures) (wrote_same _ (c.text_if-2.ensures ∙ ap (λ (b : Bool). text_if b c.wait_bytes.result.now) c.waits_somewhere.ensures ∙ ap (text_if (waits_somewhere c.args.source.now.monitor.now)) c.wait_bytes.ensures) c.in_ok-write_piece-2.ensures)) c.in_ok-write_times.ensures) (wrote_same _ (c.text_if-3.ensures ∙ ap (λ (b : Bool). text_if b c.overflow_bytes.result.now) c.fails_somewhere.ensures ∙ ap (text_if (fails_somewhere (seen c.args.source.now))) c.overflow_bytes.ensures) c.in_ok-write_piece-3.ensures)) c.in_ok-write_refused.ensures) c.in_ok-write_failed.ensures) (wrote_same _ (c.text_if-4.ensures ∙ ap (λ (b : Bool). text_if b c.whole_bytes.result.now) c.shortens_somewhere.ensures ∙ ap (text_if (shortens_somewhere (seen c.args.source.now))) c.whole_bytes.ensures) c.write_piece-4.ensures)
