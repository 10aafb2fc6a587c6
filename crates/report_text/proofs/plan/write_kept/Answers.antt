use Rattle.machine_events.specs.PlanText.{kept_text}
use Rattle.base_io.proofs.Rows.{flat_map-next, flat_map-parts}
use Rattle.base_io.proofs.Writing.{wrote_both, wrote_same, wrote_until}
use Rattle.report_text.proofs.plan.write_kept.Goals as goal

pub loop-candidate-preserved : goal.loop-candidate-preserved
loop-candidate-preserved g c =
    wrote_same _ (flat_map-next (kept_text c.args.fields.now) c.args.kept.now c.loop-candidate.candidate-index _ c.loop-candidate-test.true) (wrote_both c.loop-candidate.invariant c.in_ok-write_keep.ensures)

pub returns-in_err-write_keep : goal.returns-in_err-write_keep
returns-in_err-write_keep g c =
    wrote_until _ _ _ (flat_map-parts (kept_text c.args.fields.now) c.args.kept.now c.loop-candidate.candidate-index _ c.loop-candidate-test.true) c.from_residual.ensures.0 c.loop-candidate.invariant c.in_err-write_keep.ensures
