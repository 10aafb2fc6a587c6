use Rattle.std.proofs.Common.{codes}
use Rattle.machine_events.specs.PlanText.{candidate_text}
use Rattle.base_io.proofs.Writing.{wrote_both, wrote_fails, wrote_longer}
use Rattle.report_text.proofs.plan.write_keep.Goals as goal

pub returns-in_err-write_piece : goal.returns-in_err-write_piece
returns-in_err-write_piece g c =
    wrote_fails _ c.from_residual.ensures.0 (wrote_longer (codes "\n") (wrote_longer (candidate_text c.args.fields.now c.args.candidate) c.in_err-write_piece.ensures))

pub returns-in_err-write_candidate : goal.returns-in_err-write_candidate
returns-in_err-write_candidate g c =
    wrote_fails _ c.from_residual-in_err-write_candidate.ensures.0 (wrote_longer (codes "\n") (wrote_both c.in_ok-write_piece.ensures c.in_err-write_candidate.ensures))

pub returns : goal.returns
returns g c = wrote_both (wrote_both c.in_ok-write_piece.ensures c.in_ok-write_candidate.ensures) c.write_piece-2.ensures
