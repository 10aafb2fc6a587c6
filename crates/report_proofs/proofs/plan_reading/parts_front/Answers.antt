use Rattle.std.proofs.Common.{subst}
use Rattle.std.specs.Prelude.{List}
use Rattle.lang_monitor.specs.declared.monitor.Condition.{Condition}
use Rattle.machine_events.specs.declared.plan.CondKind.{CondKind}
use Rattle.machine_events.specs.PlanText.{conditions_text}
use Rattle.report_proofs.specs.Fronts.{Anything, AreFor, IsFront, IsNoFront}
use Rattle.report_proofs.proofs.Fronts.{at_none, at_some}
use Rattle.report_proofs.proofs.PlanParts.{no_kinds, no_lists, parts_made}
use Rattle.report_proofs.proofs.plan_reading.parts_front.Goals as goal

pub returns-in_default : goal.returns-in_default
returns-in_default c =
    no_kinds c.args.monitor.now c.args.bytes.now c.in_ok-kept.bytes.now c.in_ok-kept.kept.items c.in_ok-kept.ensures
    (subst (λ (all : List Condition). IsNoFront (List CondKind) (AreFor all Anything) Anything (conditions_text all) c.in_ok-kept.bytes.now) c.conditions.ensures.conditions
    (at_none _ _ c.in_default.is c.in_ok-kinds.ensures))

pub returns-in_default-2 : goal.returns-in_default-2
returns-in_default-2 c =
    no_lists c.args.monitor.now c.args.bytes.now c.in_ok-kept.bytes.now c.in-Some.bytes.now c.in_ok-kept.kept.items c.in-Some.kinds.items c.in_ok-kept.ensures
    (subst (λ (all : List Condition). IsFront (List CondKind) (AreFor all Anything) Anything (conditions_text all) c.in_ok-kept.bytes.now c.in-Some.kinds.items c.in-Some.bytes.now) c.conditions.ensures.conditions
    (at_some _ _ c.in-Some.is c.in_ok-kinds.ensures))
    (at_none _ _ c.in_default-2.is c.in_ok-notes.ensures)

pub returns : goal.returns
returns c =
    parts_made c.args.monitor.now c.args.bytes.now c.in_ok-kept.bytes.now c.in-Some.bytes.now c.in-Some-2.bytes.now c.in_ok-kept.kept.items c.in-Some.kinds.items c.in-Some-2.notes.items
    (record { kept = c.of.result; kinds = c.of-2.result; notes = c.of-3.result }) c.of.ensures c.of-2.ensures c.of-3.ensures c.in_ok-kept.ensures
    (subst (λ (all : List Condition). IsFront (List CondKind) (AreFor all Anything) Anything (conditions_text all) c.in_ok-kept.bytes.now c.in-Some.kinds.items c.in-Some.bytes.now) c.conditions.ensures.conditions
    (at_some _ _ c.in-Some.is c.in_ok-kinds.ensures))
    (at_some _ _ c.in-Some-2.is c.in_ok-notes.ensures)
