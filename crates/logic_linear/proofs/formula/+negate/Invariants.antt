use Rattle.std.proofs.Common.{◌≡◌, map, take}
use Rattle.logic_linear.specs.Negation.{negation}
use Rattle.logic_linear.proofs.formula.+negate.Given as goal

abbrev pub invariant-negate_parts-loop-part : goal.invariant-negate_parts-loop-part
invariant-negate_parts-loop-part l = l.negations.items ≡ map negation (take l.part-index l.parts)
