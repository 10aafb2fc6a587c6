use Rattle.std.proofs.Common.{◌≡◌, take}
use Rattle.std.specs.List.{enumerate_from, flat_map}
use Rattle.plan_needs.specs.Needs.{broadcasts_of_block}
use Rattle.plan_needs.proofs.broadcasting.broadcasts_of.Given as goal

abbrev pub invariant-loop-index : goal.invariant-loop-index
invariant-loop-index l = l.all.items ≡ flat_map (λ one. broadcasts_of_block l.counted.columns one.0 one.1) (enumerate_from 0 (take l.index l.lists))
