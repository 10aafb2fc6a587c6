use Rattle.std.proofs.Common.{◌≡◌, map, take}
use Rattle.machine_events.specs.declared.plan.CondKind.TheVariants as kinds
use Rattle.machine_events.proofs.plan.all_broadcast.Given as goal

abbrev pub invariant-loop-condition : goal.invariant-loop-condition
invariant-loop-condition l = l.kinds.items ≡ map (λ condition. kinds.Broadcast) (take l._condition-index l.conditions)
