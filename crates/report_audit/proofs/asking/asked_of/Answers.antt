use Rattle.std.proofs.Common.{refl}
use Rattle.report_audit.specs.Findings.{is_asked}
use Rattle.report_audit.proofs.Asked.{filtered_turn}
use Rattle.report_audit.proofs.asking.asked_of.Goals as goal

pub loop-claim-preserved : goal.loop-claim-preserved
loop-claim-preserved c =
    filtered_turn (is_asked c.args.plan.now) c.loop-claim.asked.items c.push_if.new.claims.items c.args.claims.now c.loop-claim.claim-index _ _ c.is_asked-test.result
    c.loop-claim-test.true refl c.is_asked-test.ensures c.loop-claim.invariant c.in_ok-push_if.ensures
