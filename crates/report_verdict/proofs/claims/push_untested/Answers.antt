use Rattle.std.proofs.Common.{arith}
use Rattle.plan_claims.specs.Backing.{untested_claims}
use Rattle.report_verdict.proofs.Gathered.{listed_more}
use Rattle.report_verdict.proofs.claims.push_untested.Goals as goal

pub loop-index-preserved : goal.loop-index-preserved
loop-index-preserved c =
    listed_more (untested_claims c.args.monitor.now) 0 c.loop-index.index c.loop-index.index c.args.lists.now _ c.index-lists-index.result c.notes.result.now c.args.claims.now.items
    c.loop-index.claims.items c.push_untested_of.new.claims.items c.loop-index-test.true (omega arith) c.notes.ensures.notes c.index-lists-index.is c.loop-index.invariant c.in_ok-push_untested_of.ensures
