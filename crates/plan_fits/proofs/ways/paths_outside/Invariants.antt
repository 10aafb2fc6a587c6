use Rattle.std.proofs.Common.{◌≡◌, true, map, take}
use Rattle.std.specs.List.{list_all}
use Rattle.plan_fits.specs.Outside.{path_outside}
use Rattle.plan_fits.specs.Within.{is_way_within}
use Rattle.plan_fits.proofs.ways.paths_outside.Given as goal

abbrev pub invariant-loop-path : goal.invariant-loop-path
invariant-loop-path l =
    (list_all (is_way_within l.answer) (take l.path-index l.paths) ≡ true) × (l.parts.items ≡ map (path_outside l.answer) (take l.path-index l.paths))
