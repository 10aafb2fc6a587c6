use Rattle.std.proofs.Common.{◌≡◌, take, map, true}
use Rattle.std.specs.List.{list_all}
use Rattle.logic_linear.specs.Substitution.{is_formula_in_range}
use Rattle.logic_wp.proofs.ranges.+ranges.Given as goal

abbrev pub invariant-read_parts-loop-part : goal.invariant-read_parts-loop-part
invariant-read_parts-loop-part l =
    list_all (λ part. part) (map is_formula_in_range (take l.part-index l.parts)) ≡ true
