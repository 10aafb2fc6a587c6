use Rattle.logic_linear.proofs.NegationLemmas.{negation_flips}
use Rattle.logic_linear.proofs.laws.negation_is_exact.Goals as goal

pub returns : goal.returns
returns c = negation_flips
