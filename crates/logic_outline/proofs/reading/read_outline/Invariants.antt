use Rattle.std.proofs.Common.{length, reverse}
use Rattle.logic_outline.proofs.ByNodes.{Ready}
use Rattle.logic_outline.proofs.reading.read_outline.Given as goal

abbrev pub invariant-loop-due : goal.invariant-loop-due
invariant-loop-due l = Ready l.bytes l.nodes.items l.left l.due (reverse l.later.items)

abbrev pub decreases-loop-due : goal.decreases-loop-due
decreases-loop-due l = length l.left
