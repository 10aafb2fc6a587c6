use Rattle.std.proofs.Common.{codes}
use Rattle.emit_method.specs.Lasting.{after_call, answers_by, before_call, ending_call, waiting_call}
use Rattle.emit_statements.specs.Statements.{method_seen}
use Rattle.base_io.proofs.Writing.{wrote_both, wrote_fails, wrote_longer}
use Rattle.emit_method.proofs.lasting.write_lasting_lines.Goals as goal

pub returns-in_err-write_piece : goal.returns-in_err-write_piece
returns-in_err-write_piece g c =
    wrote_fails _ c.from_residual.ensures.0 (wrote_longer (codes "\n") (wrote_longer (ending_call (method_seen c.args.it.now)) (wrote_longer (codes "        self.") (wrote_longer (after_call (answers_by c.args.it.now.works c.args.it.now.answer) c.args.it.now.fails) (wrote_longer (waiting_call (method_seen c.args.it.now)) (wrote_longer (before_call (answers_by c.args.it.now.works c.args.it.now.answer)) c.in_err-write_piece.ensures))))))

pub returns-in_err-write_before : goal.returns-in_err-write_before
returns-in_err-write_before g c =
    wrote_fails _ c.from_residual-in_err-write_before.ensures.0 (wrote_longer (codes "\n") (wrote_longer (ending_call (method_seen c.args.it.now)) (wrote_longer (codes "        self.") (wrote_longer (after_call (answers_by c.args.it.now.works c.args.it.now.answer) c.args.it.now.fails) (wrote_longer (waiting_call (method_seen c.args.it.now)) (wrote_both c.in_ok-write_piece.ensures c.in_err-write_before.ensures))))))

pub returns-in_err-write_waiting_call : goal.returns-in_err-write_waiting_call
returns-in_err-write_waiting_call g c =
    wrote_fails _ c.from_residual-in_err-write_waiting_call.ensures.0 (wrote_longer (codes "\n") (wrote_longer (ending_call (method_seen c.args.it.now)) (wrote_longer (codes "        self.") (wrote_longer (after_call (answers_by c.args.it.now.works c.args.it.now.answer) c.args.it.now.fails) (wrote_both (wrote_both c.in_ok-write_piece.ensures c.in_ok-write_before.ensures) c.in_err-write_waiting_call.ensures)))))

pub returns-in_err-write_after : goal.returns-in_err-write_after
returns-in_err-write_after g c =
    wrote_fails _ c.from_residual-in_err-write_after.ensures.0 (wrote_longer (codes "\n") (wrote_longer (ending_call (method_seen c.args.it.now)) (wrote_longer (codes "        self.") (wrote_both (wrote_both (wrote_both c.in_ok-write_piece.ensures c.in_ok-write_before.ensures) c.in_ok-write_waiting_call.ensures) c.in_err-write_after.ensures))))

pub returns-in_err-write_piece-2 : goal.returns-in_err-write_piece-2
returns-in_err-write_piece-2 g c =
    wrote_fails _ c.from_residual-in_err-write_piece-2.ensures.0 (wrote_longer (codes "\n") (wrote_longer (ending_call (method_seen c.args.it.now)) (wrote_both (wrote_both (wrote_both (wrote_both c.in_ok-write_piece.ensures c.in_ok-write_before.ensures) c.in_ok-write_waiting_call.ensures) c.in_ok-write_after.ensures) c.in_err-write_piece-2.ensures)))

pub returns-in_err-write_ending_call : goal.returns-in_err-write_ending_call
returns-in_err-write_ending_call g c =
    wrote_fails _ c.from_residual-in_err-write_ending_call.ensures.0 (wrote_longer (codes "\n") (wrote_both (wrote_both (wrote_both (wrote_both (wrote_both c.in_ok-write_piece.ensures c.in_ok-write_before.ensures) c.in_ok-write_waiting_call.ensures) c.in_ok-write_after.ensures) c.in_ok-write_piece-2.ensures) c.in_err-write_ending_call.ensures))

pub returns : goal.returns
returns g c =
    wrote_both (wrote_both (wrote_both (wrote_both (wrote_both (wrote_both c.in_ok-write_piece.ensures c.in_ok-write_before.ensures) c.in_ok-write_waiting_call.ensures) c.in_ok-write_after.ensures) c.in_ok-write_piece-2.ensures) c.in_ok-write_ending_call.ensures) c.write_piece-3.ensures
