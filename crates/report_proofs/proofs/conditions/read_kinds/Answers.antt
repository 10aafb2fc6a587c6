use Rattle.std.proofs.Common.{◌≡◌, ◌+◌, List, [], ◌∷◌, ◌++◌, rules, sym, subst}
use Rattle.std.specs.List.{enumerate_from}
use Rattle.machine_events.specs.declared.plan.CondKind.{CondKind}
use Rattle.machine_events.specs.PlanText.{condition_text}
use Rattle.report_proofs.specs.Fronts.{Anything}
use Rattle.report_proofs.proofs.Fronts.{AreGoing, Found, going_start}
use Rattle.report_proofs.proofs.PlanParts.{kinds_end, kinds_more, kinds_stop, numbered_line}
use Rattle.report_proofs.proofs.conditions.read_kinds.Goals as goal

pub loop-index-init : goal.loop-index-init
loop-index-init c =
    subst (λ (kinds : List CondKind). AreGoing numbered_line Anything (enumerate_from 1 c.args.conditions.now) c.args.bytes.now 0 kinds c.args.bytes.now) (sym c.new-kinds.ensures.items)
    (going_start numbered_line Anything (enumerate_from 1 c.args.conditions.now) c.args.bytes.now)

pub returns-in-None : goal.returns-in-None
returns-in-None c =
    kinds_stop c.args.conditions.now c.args.bytes.now c.loop-index.index c.loop-index.kinds.items c.loop-index.rest.now c.index-conditions-index.result _ c.loop-index-test.true c.index-conditions-index.is
    c.loop-index.invariant
    (subst (Found Anything Anything (condition_text (c.loop-index.index + 1) c.index-conditions-index.result) c.loop-index.rest.now) c.in-None.is c.read_condition.ensures)

pub loop-index-preserved : goal.loop-index-preserved
loop-index-preserved c =
    let pushed : c.push.new.self.items ≡ c.loop-index.kinds.items ++ c.in-Some.kind ∷ [] = search rules in
    subst (λ (kinds : List CondKind). AreGoing numbered_line Anything (enumerate_from 1 c.args.conditions.now) c.args.bytes.now (c.loop-index.index + 1) kinds c.in-Some.left.now) (sym pushed)
    (kinds_more c.args.conditions.now c.args.bytes.now c.loop-index.index c.loop-index.kinds.items c.loop-index.rest.now c.index-conditions-index.result _ c.in-Some.kind c.in-Some.left.now c.loop-index-test.true
    c.index-conditions-index.is c.loop-index.invariant
    (subst (Found Anything Anything (condition_text (c.loop-index.index + 1) c.index-conditions-index.result) c.loop-index.rest.now) c.in-Some.is c.read_condition.ensures))

pub returns : goal.returns
returns c = kinds_end c.args.conditions.now c.args.bytes.now c.loop-index.index c.loop-index.kinds.items c.loop-index.rest.now c.loop-index-test.false c.loop-index.invariant
