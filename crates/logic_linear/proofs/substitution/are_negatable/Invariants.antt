use Rattle.std.proofs.Common.{◌≡◌, take, map, true}
use Rattle.std.specs.List.{list_all}
use Rattle.logic_linear.specs.Negation.{negative_term}
use Rattle.logic_linear.specs.Substitution.{has_term_in_range}
use Rattle.logic_linear.proofs.substitution.are_negatable.Given as goal

abbrev pub invariant-loop-term : goal.invariant-loop-term
invariant-loop-term l = list_all has_term_in_range (map negative_term (take l.term-index l.terms)) ≡ true
