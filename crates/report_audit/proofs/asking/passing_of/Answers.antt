use Rattle.std.proofs.Common.{refl}
use Rattle.report_audit.specs.CountedFindings.{is_passing}
use Rattle.report_audit.proofs.Asked.{filtered_turn}
use Rattle.report_audit.proofs.asking.passing_of.Goals as goal

pub loop-claim-preserved : goal.loop-claim-preserved
loop-claim-preserved c =
    filtered_turn (is_passing c.args.plan.now c.args.condition) c.loop-claim.some.items c.push_if.new.claims.items c.args.claims.now c.loop-claim.claim-index _ _ c.is_passing-test.result
    c.loop-claim-test.true refl c.is_passing-test.ensures c.loop-claim.invariant c.in_ok-push_if.ensures
