use Rattle.plan_fits.proofs.MadeQuestions.{one_more_fit}
use Rattle.plan_fits.proofs.fit.fits_of.Goals as goal

pub loop-block-preserved : goal.loop-block-preserved
loop-block-preserved c =
    one_more_fit c.args.monitor.now c.args.kept.now c.loop-block.fits.items c.push.new.self.items c.in_ok-fit_of.field-0 c.loop-block.block c.loop-block.invariant.0 c.loop-block.invariant.1
    c.in_ok-fit_of.ensures c.in_ok-push.ensures.items
