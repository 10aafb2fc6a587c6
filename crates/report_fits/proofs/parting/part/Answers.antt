use Rattle.std.proofs.Common.{arith}
use Rattle.report_fits.proofs.PartedTexts.{not_parted, one_more_place, parted_at}
use Rattle.report_fits.proofs.parting.part.Goals as goal

pub loop-place-init : goal.loop-place-init
loop-place-init c before low here = absurd (omega (arith, low))

pub returns-then-has_fit_at : goal.returns-then-has_fit_at
returns-then-has_fit_at c =
    parted_at c.args.bytes.now c.split_at.result.0.now c.split_at.result.1.now c.loop-place.place c.loop-place-test.true c.split_at.ensures.front c.split_at.ensures.back
    c.loop-place.invariant (c.has_fit_at.ensures.0 c.if-has_fit_at.true)

pub loop-place-preserved : goal.loop-place-preserved
loop-place-preserved c = one_more_place c.args.bytes.now c.loop-place.place c.has_fit_at.result c.loop-place.invariant c.has_fit_at.ensures c.if-has_fit_at.false

pub returns : goal.returns
returns c =
    not_parted c.args.bytes.now c.split_at-2.result.0.now c.split_at-2.result.1.now c.loop-place.place c.loop-place-test.false c.split_at-2.ensures.front c.split_at-2.ensures.back
    c.loop-place.invariant
