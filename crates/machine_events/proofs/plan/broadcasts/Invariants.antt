use Rattle.std.proofs.Common.{◌≡◌, ◌+◌, take}
use Rattle.machine_events.specs.Plans.{broadcasts_from}
use Rattle.machine_events.proofs.plan.broadcasts.Given as goal

abbrev pub invariant-loop-condition : goal.invariant-loop-condition
invariant-loop-condition l = record {
  counted : l.number ≡ l._condition-index + 1;
  made : l.notes.items ≡ broadcasts_from 1 (take l._condition-index l.conditions);
}
