use Rattle.report_fits.proofs.Checks.{one_more_reason}
use Rattle.report_fits.proofs.reasons.fit_reasons.Goals as goal

pub loop-block-preserved : goal.loop-block-preserved
loop-block-preserved c =
    one_more_reason c.args.monitor.now c.args.kept.now c.loop-block.found.items c.push.new.self.items c.in_ok-fit_reason.field-0 c.loop-block.block c.loop-block.invariant
    c.in_ok-fit_reason.ensures c.in_ok-push.ensures.items
