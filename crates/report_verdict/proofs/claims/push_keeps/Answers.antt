use Rattle.std.proofs.Common.{arith}
use Rattle.lang_monitor.specs.declared.claim.Claim.TheVariants as claims
use Rattle.report_verdict.proofs.Gathered.{mapped_more}
use Rattle.report_verdict.proofs.claims.push_keeps.Goals as goal

pub loop-index-preserved : goal.loop-index-preserved
loop-index-preserved c =
    mapped_more (claims.Keeps c.args.candidate) 0 c.loop-index.index c.loop-index.index c.args.claims.now.items c.loop-index.claims.items
    c.push.new.self.items (omega arith) c.loop-index.invariant c.in_ok-push.ensures.items
