use Rattle.std.proofs.Common.{◌≡◌, map, take}
use Rattle.logic_linear.specs.Negation.{negative_term}
use Rattle.plan_count.proofs.forms.negatives.Given as goal

abbrev pub invariant-loop-term : goal.invariant-loop-term
invariant-loop-term l = l.turned.items ≡ map negative_term (take l.term-index l.terms)
