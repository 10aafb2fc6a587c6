use Rattle.std.proofs.Common.{codes}
use Rattle.emit_code.specs.Code.{overflow_notes}
use Rattle.emit_expressions.specs.declared.scope.Reach.TheVariants as reaches
use Rattle.emit_statements.specs.Sources.{answer_of}
use Rattle.emit_statements.specs.Statements.{failing_text, fails_at, forget_text, given_text, let_text, method_seen, own_call}
use Rattle.base_io.proofs.Writing.{wrote_both, wrote_fails, wrote_longer}
use Rattle.emit_statements.proofs.working.write_work.Goals as goal

pub returns-in_err-write_hand : goal.returns-in_err-write_hand
returns-in_err-write_hand g c =
    wrote_fails _ c.from_residual.ensures.0 (wrote_longer (codes "        inner.state = next;\n") (wrote_longer (forget_text (overflow_notes c.args.it.now.source.now.monitor.now c.args.block)) (wrote_longer (given_text (answer_of c.args.it.now.source.now.monitor.now c.args.block)) (wrote_longer (codes "        let result = f(&mut inner.data") (wrote_longer (failing_text (fails_at (method_seen c.args.it.now) c.args.block)) (wrote_longer (own_call (method_seen c.args.it.now) (codes "run") c.args.block reaches.Lent) (wrote_longer (codes "next.") (wrote_longer (let_text (answer_of c.args.it.now.source.now.monitor.now c.args.block)) (wrote_longer (codes "        let mut next = inner.state;\n") c.in_err-write_hand.ensures)))))))))

pub returns-in_err-write_piece : goal.returns-in_err-write_piece
returns-in_err-write_piece g c =
    wrote_fails _ c.from_residual-in_err-write_piece.ensures.0 (wrote_longer (codes "        inner.state = next;\n") (wrote_longer (forget_text (overflow_notes c.args.it.now.source.now.monitor.now c.args.block)) (wrote_longer (given_text (answer_of c.args.it.now.source.now.monitor.now c.args.block)) (wrote_longer (codes "        let result = f(&mut inner.data") (wrote_longer (failing_text (fails_at (method_seen c.args.it.now) c.args.block)) (wrote_longer (own_call (method_seen c.args.it.now) (codes "run") c.args.block reaches.Lent) (wrote_longer (codes "next.") (wrote_longer (let_text (answer_of c.args.it.now.source.now.monitor.now c.args.block)) (wrote_both c.in_ok-write_hand.ensures c.in_err-write_piece.ensures)))))))))

pub returns-in_err-write_let : goal.returns-in_err-write_let
returns-in_err-write_let g c =
    wrote_fails _ c.from_residual-in_err-write_let.ensures.0 (wrote_longer (codes "        inner.state = next;\n") (wrote_longer (forget_text (overflow_notes c.args.it.now.source.now.monitor.now c.args.block)) (wrote_longer (given_text (answer_of c.args.it.now.source.now.monitor.now c.args.block)) (wrote_longer (codes "        let result = f(&mut inner.data") (wrote_longer (failing_text (fails_at (method_seen c.args.it.now) c.args.block)) (wrote_longer (own_call (method_seen c.args.it.now) (codes "run") c.args.block reaches.Lent) (wrote_longer (codes "next.") (wrote_both (wrote_both c.in_ok-write_hand.ensures c.in_ok-write_piece.ensures) c.in_err-write_let.ensures))))))))

pub returns-in_err-write_piece-2 : goal.returns-in_err-write_piece-2
returns-in_err-write_piece-2 g c =
    wrote_fails _ c.from_residual-in_err-write_piece-2.ensures.0 (wrote_longer (codes "        inner.state = next;\n") (wrote_longer (forget_text (overflow_notes c.args.it.now.source.now.monitor.now c.args.block)) (wrote_longer (given_text (answer_of c.args.it.now.source.now.monitor.now c.args.block)) (wrote_longer (codes "        let result = f(&mut inner.data") (wrote_longer (failing_text (fails_at (method_seen c.args.it.now) c.args.block)) (wrote_longer (own_call (method_seen c.args.it.now) (codes "run") c.args.block reaches.Lent) (wrote_both (wrote_both (wrote_both c.in_ok-write_hand.ensures c.in_ok-write_piece.ensures) c.in_ok-write_let.ensures) c.in_err-write_piece-2.ensures)))))))

pub returns-in_err-write_own_call : goal.returns-in_err-write_own_call
returns-in_err-write_own_call g c =
    wrote_fails _ c.from_residual-in_err-write_own_call.ensures.0 (wrote_longer (codes "        inner.state = next;\n") (wrote_longer (forget_text (overflow_notes c.args.it.now.source.now.monitor.now c.args.block)) (wrote_longer (given_text (answer_of c.args.it.now.source.now.monitor.now c.args.block)) (wrote_longer (codes "        let result = f(&mut inner.data") (wrote_longer (failing_text (fails_at (method_seen c.args.it.now) c.args.block)) (wrote_both (wrote_both (wrote_both (wrote_both c.in_ok-write_hand.ensures c.in_ok-write_piece.ensures) c.in_ok-write_let.ensures) c.in_ok-write_piece-2.ensures) c.in_err-write_own_call.ensures))))))

pub returns-in_err-write_failing : goal.returns-in_err-write_failing
returns-in_err-write_failing g c =
    wrote_fails _ c.from_residual-in_err-write_failing.ensures.0 (wrote_longer (codes "        inner.state = next;\n") (wrote_longer (forget_text (overflow_notes c.args.it.now.source.now.monitor.now c.args.block)) (wrote_longer (given_text (answer_of c.args.it.now.source.now.monitor.now c.args.block)) (wrote_longer (codes "        let result = f(&mut inner.data") (wrote_both (wrote_both (wrote_both (wrote_both (wrote_both c.in_ok-write_hand.ensures c.in_ok-write_piece.ensures) c.in_ok-write_let.ensures) c.in_ok-write_piece-2.ensures) c.in_ok-write_own_call.ensures) c.in_err-write_failing.ensures)))))

pub returns-in_err-write_piece-3 : goal.returns-in_err-write_piece-3
returns-in_err-write_piece-3 g c =
    wrote_fails _ c.from_residual-in_err-write_piece-3.ensures.0 (wrote_longer (codes "        inner.state = next;\n") (wrote_longer (forget_text (overflow_notes c.args.it.now.source.now.monitor.now c.args.block)) (wrote_longer (given_text (answer_of c.args.it.now.source.now.monitor.now c.args.block)) (wrote_both (wrote_both (wrote_both (wrote_both (wrote_both (wrote_both c.in_ok-write_hand.ensures c.in_ok-write_piece.ensures) c.in_ok-write_let.ensures) c.in_ok-write_piece-2.ensures) c.in_ok-write_own_call.ensures) c.in_ok-write_failing.ensures) c.in_err-write_piece-3.ensures))))

pub returns-in_err-write_given : goal.returns-in_err-write_given
returns-in_err-write_given g c =
    wrote_fails _ c.from_residual-in_err-write_given.ensures.0 (wrote_longer (codes "        inner.state = next;\n") (wrote_longer (forget_text (overflow_notes c.args.it.now.source.now.monitor.now c.args.block)) (wrote_both (wrote_both (wrote_both (wrote_both (wrote_both (wrote_both (wrote_both c.in_ok-write_hand.ensures c.in_ok-write_piece.ensures) c.in_ok-write_let.ensures) c.in_ok-write_piece-2.ensures) c.in_ok-write_own_call.ensures) c.in_ok-write_failing.ensures) c.in_ok-write_piece-3.ensures) c.in_err-write_given.ensures)))

pub returns-in_err-write_forget : goal.returns-in_err-write_forget
returns-in_err-write_forget g c =
    wrote_fails _ c.from_residual-in_err-write_forget.ensures.0 (wrote_longer (codes "        inner.state = next;\n") (wrote_both (wrote_both (wrote_both (wrote_both (wrote_both (wrote_both (wrote_both (wrote_both c.in_ok-write_hand.ensures c.in_ok-write_piece.ensures) c.in_ok-write_let.ensures) c.in_ok-write_piece-2.ensures) c.in_ok-write_own_call.ensures) c.in_ok-write_failing.ensures) c.in_ok-write_piece-3.ensures) c.in_ok-write_given.ensures) c.in_err-write_forget.ensures))

pub returns : goal.returns
returns g c =
    wrote_both (wrote_both (wrote_both (wrote_both (wrote_both (wrote_both (wrote_both (wrote_both (wrote_both c.in_ok-write_hand.ensures c.in_ok-write_piece.ensures) c.in_ok-write_let.ensures) c.in_ok-write_piece-2.ensures) c.in_ok-write_own_call.ensures) c.in_ok-write_failing.ensures) c.in_ok-write_piece-3.ensures) c.in_ok-write_given.ensures) c.in_ok-write_forget.ensures) c.write_piece-4.ensures
