use Rattle.std.proofs.Common.{◌≡◌, ◌++◌, take}
use Rattle.std.specs.List.{flat_map}
use Rattle.plan_candidates.specs.inner.Numbers.{formula_numbers}
use Rattle.plan_candidates.proofs.bounds.+push_of_formula.Given as goal

abbrev pub invariant-push_of_parts-loop-part : goal.invariant-push_of_parts-loop-part
invariant-push_of_parts-loop-part l =
    l.numbers.items ≡ l.initial.numbers.items ++ flat_map (formula_numbers l.field) (take l.part-index l.parts)
