use Rattle.std.proofs.Common.{◌≡◌, ◌++◌, take}
use Rattle.std.specs.List.{enumerate_from, flat_map}
use Rattle.plan_why.specs.Things.{notes_of_block}
use Rattle.plan_why.proofs.listing.push_all_notes.Given as goal

abbrev pub invariant-loop-index : goal.invariant-loop-index
invariant-loop-index l = l.things.items ≡ l.fn.things.items ++ flat_map (λ one. notes_of_block one.0 one.1) (enumerate_from 0 (take l.index l.lists))
