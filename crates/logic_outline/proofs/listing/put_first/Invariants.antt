use Rattle.std.proofs.Common.{◌≡◌, ◌++◌, length, reverse}
use Rattle.logic_outline.proofs.listing.put_first.Given as goal

abbrev pub invariant-loop-cert : goal.invariant-loop-cert
invariant-loop-cert l = l.certs.items ++ reverse l.todo.items ≡ l.fn.certs ++ reverse l.fn.todo.items

abbrev pub decreases-loop-cert : goal.decreases-loop-cert
decreases-loop-cert l = length l.certs.items
