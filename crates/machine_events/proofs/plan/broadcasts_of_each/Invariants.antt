use Rattle.std.proofs.Common.{◌≡◌, map, take}
use Rattle.machine_events.specs.Plans.{broadcasts_from}
use Rattle.machine_events.proofs.plan.broadcasts_of_each.Given as goal

abbrev pub invariant-loop-block : goal.invariant-loop-block
invariant-loop-block l = l.all.items ≡ map (λ block. broadcasts_from 1 l.conditions) (take l._block-index l.blocks)
