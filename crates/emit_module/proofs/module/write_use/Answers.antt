use Rattle.std.proofs.Common.{◌∙◌, ap, Bool}
use Rattle.emit_statements.specs.Sources.{seen}
use Rattle.emit_module.specs.Modules.{times_somewhere, use_by, use_times, waits_somewhere}
use Rattle.base_io.proofs.Writing.{wrote_both, wrote_fails, wrote_longer, wrote_same}
use Rattle.emit_module.proofs.module.write_use.Goals as goal

pub returns-in_err-write_piece : goal.returns-in_err-write_piece
returns-in_err-write_piece g c =
    wrote_fails _ c.from_residual.ensures.0 (wrote_longer (use_times (times_somewhere (seen c.args.source.now))) (wrote_same _ (c.use_bytes.ensures ∙ ap (λ (w : Bool). use_by w c.has_calls.result) c.waits_somewhere.ensures ∙ ap (use_by (waits_somewhere c.args.source.now.monitor.now)) c.has_calls.ensures) c.in_err-write_piece.ensures))

pub returns : goal.returns
returns g c =
    wrote_both (wrote_same _ (c.use_bytes.ensures ∙ ap (λ (w : Bool). use_by w c.has_calls.result) c.waits_somewhere.ensures ∙ ap (use_by (waits_somewhere c.args.source.now.monitor.now)) c.has_calls.ensures) c.in_ok-write_piece.ensures) (wrote_same _ (c.use_times.ensures ∙ ap use_times c.times_somewhere.ensures) c.write_piece-2.ensures)
