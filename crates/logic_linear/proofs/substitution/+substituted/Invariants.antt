use Rattle.std.proofs.Common.{◌≡◌, take, map, true}
use Rattle.logic_linear.specs.Substitution.{are_in_range, substituted}
use Rattle.logic_linear.proofs.substitution.+substituted.Given as goal

abbrev pub invariant-substituted_parts-loop-part : goal.invariant-substituted_parts-loop-part
invariant-substituted_parts-loop-part l = record {
  same : l.made.items ≡ map (substituted l.put) (take l.part-index l.parts);
  fits : are_in_range (map (substituted l.put) (take l.part-index l.parts)) ≡ true;
}
