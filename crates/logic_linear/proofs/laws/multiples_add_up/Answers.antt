use Rattle.logic_linear.proofs.SumLemmas.{sum_value}
use Rattle.logic_linear.proofs.laws.multiples_add_up.Goals as goal

pub returns : goal.returns
returns c = sum_value
