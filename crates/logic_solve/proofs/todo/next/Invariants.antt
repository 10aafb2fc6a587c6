use Rattle.std.proofs.Common.{◌≡◌, length}
use Rattle.logic_solve.specs.inner.Searches.{in_order}
use Rattle.logic_solve.proofs.todo.next.Given as goal

abbrev pub invariant-loop-parts : goal.invariant-loop-parts
invariant-loop-parts l = in_order l.fn.todo.items ≡ in_order l.todo.items

abbrev pub decreases-loop-parts : goal.decreases-loop-parts
decreases-loop-parts l = length l.todo.items
