use Rattle.machine_implicit.proofs.OneSituation.{one_situation, ends_hold_no_guard}
use Rattle.machine_implicit.proofs.laws.one_situation.Goals as goal

pub returns-clause-one : goal.returns-clause-one
returns-clause-one c = one_situation

pub returns-clause-ends : goal.returns-clause-ends
returns-clause-ends c = ends_hold_no_guard
