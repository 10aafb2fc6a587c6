use Rattle.std.proofs.Common.{arith}
use Rattle.expresso_reports.proofs.fits.reasons_of.Goals as goal

pub returns : goal.returns
returns c =
    let are = c.in_ok-reasons.ensures in
    record { are = are; few = omega (arith, are.count, c.blocks-blocks.ensures.rule.few_blocks) }
