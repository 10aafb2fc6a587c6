use Rattle.std.proofs.Common.{◌≡◌, take, true}
use Rattle.logic_linear.specs.Substitution.{are_in_range}
use Rattle.logic_linear.proofs.formula.+copied.Given as goal

abbrev pub invariant-copied_parts-loop-part : goal.invariant-copied_parts-loop-part
invariant-copied_parts-loop-part l = record {
  same : l.copies.items ≡ take l.part-index l.parts;
  fits : are_in_range (take l.part-index l.parts) ≡ true;
}
