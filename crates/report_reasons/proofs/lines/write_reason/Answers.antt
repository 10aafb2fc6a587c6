use Rattle.std.proofs.Common.{codes}
use Rattle.base_io.proofs.Writing.{wrote_both, wrote_fails, wrote_longer}
use Rattle.report_reasons.specs.ReasonText.{answer_text}
use Rattle.report_reasons.proofs.lines.write_reason.Goals as goal

pub returns-in_err-write_piece : goal.returns-in_err-write_piece
returns-in_err-write_piece g c =
    wrote_fails _ c.from_residual.ensures.0 (wrote_longer (codes "\n") (wrote_longer (answer_text c.args.tree.now c.args.monitor.now c.args.reason.now.thing c.args.reason.now.answer) c.in_err-write_piece.ensures))

pub returns-in_err-write_answer : goal.returns-in_err-write_answer
returns-in_err-write_answer g c = wrote_fails _ c.from_residual-in_err-write_answer.ensures.0 (wrote_longer (codes "\n") (wrote_both c.in_ok-write_piece.ensures c.in_err-write_answer.ensures))

pub returns : goal.returns
returns g c = wrote_both (wrote_both c.in_ok-write_piece.ensures c.in_ok-write_answer.ensures) c.write_piece-2.ensures
