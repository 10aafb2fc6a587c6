use Rattle.std.proofs.Common.{◌≤◌, drop, length}
use Rattle.logic_outline.proofs.BranchLemmas.{Puts}
use Rattle.logic_outline.proofs.acceptance.split.Given as goal

abbrev pub invariant-loop-left : goal.invariant-loop-left
invariant-loop-left l = record {
  puts : Puts l.at (drop l.left l.parts) l.fn.branches.items l.branches.items;
  within : l.left ≤ length l.parts;
}

abbrev pub decreases-loop-left : goal.decreases-loop-left
decreases-loop-left l = l.left
