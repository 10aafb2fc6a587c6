use Rattle.std.proofs.Common.{refl}
use Rattle.base_pen.proofs.Putting.{adds_next}
use Rattle.report_tally.specs.CountedTexts.{still_owed_text}
use Rattle.report_tally.proofs.writing.put_still_owed.Goals as goal

pub loop-proof-preserved : goal.loop-proof-preserved
loop-proof-preserved g c =
    adds_next (still_owed_text c.args.monitor.now c.args.columns.now) c.args.proofs.now c.loop-proof.proof-index c.proof-item.result _ c.loop-proof-test.true c.proof-item.is refl c.loop-proof.invariant c.put_if_still_owed.ensures
