use Rattle.std.proofs.Common.{arith}
use Rattle.lang_monitor.specs.declared.claim.Claim.TheVariants as claims
use Rattle.plan_claims.specs.Backing.{waits_at}
use Rattle.report_verdict.proofs.Gathered.{filtered_more}
use Rattle.report_verdict.proofs.claims.push_class.Goals as goal

pub loop-index-preserved : goal.loop-index-preserved
loop-index-preserved c =
    filtered_more (claims.One c.args.condition) (waits_at c.args.monitor.now c.args.condition) 0 c.loop-index.index c.loop-index.index c.args.claims.now.items c.loop-index.claims.items
    c.push_if.new.claims.items c.waits_at.result (omega arith) c.waits_at.ensures c.loop-index.invariant c.in_ok-push_if.ensures
