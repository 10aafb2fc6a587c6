use Rattle.std.proofs.Common.{◌≡◌, map, take}
use Rattle.std.specs.List.{enumerate_from}
use Rattle.plan_counted.specs.Counted.{counted_notes}
use Rattle.plan_counted.proofs.placing.counted_lists.Given as goal

abbrev pub invariant-loop-index : goal.invariant-loop-index
invariant-loop-index l = l.made.items ≡ map (λ one. counted_notes l.columns one.0 one.1) (enumerate_from 0 (take l.index l.lists))
