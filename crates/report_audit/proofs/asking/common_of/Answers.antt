use Rattle.std.proofs.Common.{refl}
use Rattle.report_audit.specs.CountedFindings.{is_common}
use Rattle.report_audit.proofs.Asked.{filtered_turn}
use Rattle.report_audit.proofs.asking.common_of.Goals as goal

pub loop-claim-preserved : goal.loop-claim-preserved
loop-claim-preserved c =
    filtered_turn is_common c.loop-claim.some.items c.push_if.new.claims.items c.args.claims.now c.loop-claim.claim-index _ _ c.is_common-test.result
    c.loop-claim-test.true refl c.is_common-test.ensures c.loop-claim.invariant c.in_ok-push_if.ensures
