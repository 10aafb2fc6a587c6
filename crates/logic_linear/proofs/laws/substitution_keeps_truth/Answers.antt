use Rattle.logic_linear.proofs.SubstitutionLemmas.{substitution_keeps}
use Rattle.logic_linear.proofs.laws.substitution_keeps_truth.Goals as goal

pub returns : goal.returns
returns c = substitution_keeps
