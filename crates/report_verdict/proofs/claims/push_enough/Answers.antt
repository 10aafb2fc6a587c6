use Rattle.std.proofs.Common.{◌+◌, ◌++◌, List, ap, refl, ◌∙◌, arith}
use Rattle.std.specs.List.{flat_map, enumerate_from}
use Rattle.std.proofs.lemmas.List.{take_all}
use Rattle.machine_events.specs.declared.plan.CondKind.{CondKind}
use Rattle.plan_claims.specs.Backing.{kind_claims}
use Rattle.report_verdict.proofs.Gathered.{listed_more}
use Rattle.report_verdict.proofs.claims.push_enough.Goals as goal

pub loop-index-preserved : goal.loop-index-preserved
loop-index-preserved c =
    listed_more (kind_claims c.args.monitor.now) 1 c.loop-index.index (c.loop-index.index + 1) c.args.kinds.now _ _ _ c.args.claims.now.items
    c.loop-index.claims.items c.push_enough_of.new.claims.items c.loop-index-test.true (omega arith) refl refl c.loop-index.invariant c.in_ok-push_enough_of.ensures

pub returns : goal.returns
returns c =
    c.loop-index.invariant
    ∙ ap (λ (some : List CondKind). c.args.claims.now.items ++ flat_map (λ one. kind_claims c.args.monitor.now one.0 one.1) (enumerate_from 1 some))
    (take_all c.loop-index.index c.args.kinds.now c.loop-index-test.false)
