use Rattle.std.proofs.Common.{◌≡◌, take, true}
use Rattle.std.specs.List.{list_all}
use Rattle.logic_linear.specs.Negation.{can_negate_term}
use Rattle.plan_fits.proofs.outside.can_turn_all.Given as goal

abbrev pub invariant-loop-term : goal.invariant-loop-term
invariant-loop-term l = list_all can_negate_term (take l.term-index l.terms) ≡ true
