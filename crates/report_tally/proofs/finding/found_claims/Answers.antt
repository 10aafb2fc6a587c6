use Rattle.std.proofs.Common.{List, sym, subst, refl}
use Rattle.lang_monitor.specs.declared.claim.Claim.{Claim}
use Rattle.report_tally.proofs.OneLines.{IsWalking, walked, walking_more, walking_start}
use Rattle.report_tally.proofs.finding.found_claims.Goals as goal

pub loop-index-init : goal.loop-index-init
loop-index-init c =
    subst (λ (found : List Claim). IsWalking c.args.monitor.now c.args.claims.now c.args.bytes.now 0 found c.args.bytes.now) (sym c.new-found.ensures.items)
    (walking_start c.args.monitor.now c.args.claims.now c.args.bytes.now)

pub loop-index-preserved : goal.loop-index-preserved
loop-index-preserved c =
    walking_more c.args.monitor.now c.args.claims.now c.args.bytes.now c.loop-index.index c.loop-index.found.items c.take_line.new.found.items c.loop-index.rest.now c.in_ok-rest.rest.now _ _
    c.conditions-conditions.ensures.rule c.requires c.loop-index-test.true refl c.in_ok-rest.ensures c.loop-index.invariant

pub returns : goal.returns
returns c = walked c.args.monitor.now c.args.claims.now c.args.bytes.now c.loop-index.index c.loop-index.found.items c.loop-index.rest.now c.loop-index-test.false c.loop-index.invariant
