use Rattle.std.proofs.Common.{◌≡◌, ◌≤◌, true, drop, length}
use Rattle.plan_fits.specs.Outside.{path_outside}
use Rattle.plan_fits.specs.Within.{is_way_within}
use Rattle.plan_fits.proofs.ways.path_outside.Given as goal

abbrev pub invariant-loop-left : goal.invariant-loop-left
invariant-loop-left l =
    (l.left ≤ length l.steps) × (is_way_within l.answer (drop l.left l.steps) ≡ true) × (l.made ≡ path_outside l.answer (drop l.left l.steps))

abbrev pub decreases-loop-left : goal.decreases-loop-left
decreases-loop-left l = l.left
