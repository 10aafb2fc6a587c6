use Rattle.expresso_reports.proofs.Explained.{backed_for, count_explained}
use Rattle.expresso_reports.proofs.explain.count_explanation_of.Goals as goal

pub counted_reasons-requires-clause-backed : goal.counted_reasons-requires-clause-backed
counted_reasons-requires-clause-backed c =
    let counted = c.in_ok-counted.ensures in
    backed_for c.args.monitor.now c.in_ok-placed.field-0.plan c.in_ok-counted.counted.plan c.in_ok-counted.counted.columns counted.counted.kept counted.backed

pub broadcast_reasons-requires-clause-backed : goal.broadcast_reasons-requires-clause-backed
broadcast_reasons-requires-clause-backed c =
    let counted = c.in_ok-counted.ensures in
    backed_for c.args.monitor.now c.in_ok-placed.field-0.plan c.in_ok-counted.counted.plan c.in_ok-counted.counted.columns counted.counted.kept counted.backed

pub returns : goal.returns
returns c =
    let counted = c.in_ok-counted.ensures in
    count_explained c.args.monitor.now c.in_ok-placed.field-0.plan c.in_ok-counted.counted c.in_ok-reasons.reasons.items c.in_ok-broadcasts.broadcasts.items
    c.in_ok-placed.ensures.placement counted.plan counted.counted counted.exact counted.backed counted.fits counted.lawful counted.omits
    c.in_ok-reasons.ensures.things c.in_ok-reasons.ensures.each c.in_ok-broadcasts.ensures.broadcasts c.in_ok-broadcasts.ensures.each
