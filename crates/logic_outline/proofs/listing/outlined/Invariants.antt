use Rattle.std.proofs.Common.{◌≡◌, ◌++◌, length, reverse}
use Rattle.logic_outline.specs.Outlines.{outline_of, outlines_of}
use Rattle.logic_outline.proofs.listing.outlined.Given as goal

abbrev pub invariant-loop-cert : goal.invariant-loop-cert
invariant-loop-cert l = l.nodes.items ++ outlines_of (reverse l.todo.items) ≡ outline_of l.fn.cert

abbrev pub decreases-loop-cert : goal.decreases-loop-cert
decreases-loop-cert l = length (outlines_of (reverse l.todo.items))
