use Rattle.std.proofs.Common.{subst}
use Rattle.machine_events.specs.declared.plan.CondKind.TheVariants as kinds
use Rattle.report_proofs.specs.Fronts.{IsAfter}
use Rattle.report_proofs.specs.inner.Reading.{line_of_kind}
use Rattle.report_proofs.proofs.PlanParts.{kind_front}
use Rattle.report_proofs.proofs.conditions.read_kind.Goals as goal

pub returns-in-Some : goal.returns-in-Some
returns-in-Some c =
    kind_front c.args.number c.args.shown.now c.args.bytes.now c.in-Some.rest.now kinds.Signal
    (subst (IsAfter c.args.bytes.now (line_of_kind c.args.number c.args.shown.now kinds.Signal)) c.in-Some.is c.after_condition.ensures)

pub returns-in-Some-after_condition : goal.returns-in-Some-after_condition
returns-in-Some-after_condition c =
    kind_front c.args.number c.args.shown.now c.args.bytes.now c.in-Some-after_condition.rest.now kinds.Broadcast
    (subst (IsAfter c.args.bytes.now (line_of_kind c.args.number c.args.shown.now kinds.Broadcast)) c.in-Some-after_condition.is c.after_condition-in-None.ensures)
