use Rattle.std.proofs.Common.{true, false}
use Rattle.expresso_reports.proofs.Fitted.{explain_ended}
use Rattle.expresso_reports.proofs.fits.explain_fits.Goals as goal

pub returns-then-count-clause-ended : goal.returns-then-count-clause-ended
returns-then-count-clause-ended g c = explain_ended c.args.file.now c.args.count true true _ _ _ _ _ c.if-count.true c.explain_counted_fits.ensures.ended

pub returns-else-count-clause-ended : goal.returns-else-count-clause-ended
returns-else-count-clause-ended g c = explain_ended c.args.file.now c.args.count false true _ _ _ _ _ c.if-count.false c.explain_placed_fits.ensures.ended
