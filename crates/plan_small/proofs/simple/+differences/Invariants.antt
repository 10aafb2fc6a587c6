use Rattle.std.proofs.Common.{◌≡◌, take, true}
use Rattle.std.specs.List.{list_all}
use Rattle.logic_linear.specs.Differences.{has_difference_rows}
use Rattle.plan_small.proofs.simple.+differences.Given as goal

abbrev pub invariant-have_difference_rows-loop-part : goal.invariant-have_difference_rows-loop-part
invariant-have_difference_rows-loop-part l = list_all has_difference_rows (take l.part-index l.parts) ≡ true
