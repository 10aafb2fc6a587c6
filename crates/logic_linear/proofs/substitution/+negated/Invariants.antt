use Rattle.std.proofs.Common.{◌≡◌, take, map, true}
use Rattle.logic_linear.specs.Negation.{negation}
use Rattle.logic_linear.specs.Substitution.{are_in_range}
use Rattle.logic_linear.proofs.substitution.+negated.Given as goal

abbrev pub invariant-negated_parts-loop-part : goal.invariant-negated_parts-loop-part
invariant-negated_parts-loop-part l = record {
  same : l.made.items ≡ map (negation) (take l.part-index l.parts);
  fits : are_in_range (map (negation) (take l.part-index l.parts)) ≡ true;
}
