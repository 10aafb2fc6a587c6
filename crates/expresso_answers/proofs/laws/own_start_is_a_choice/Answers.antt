use Rattle.expresso_answers.proofs.OwnStart.{opened_own, own_is_start}
use Rattle.expresso_answers.proofs.laws.own_start_is_a_choice.Goals as goal

pub returns-clause-may : goal.returns-clause-may
returns-clause-may c = own_is_start

pub returns-clause-same : goal.returns-clause-same
returns-clause-same c = opened_own
