use Rattle.lang_base.proofs.Least.{none_is_least, some_is_least}
use Rattle.lang_base.proofs.laws.least_is_least.Goals as goal

pub returns-clause-one : goal.returns-clause-one
returns-clause-one g c = λ order. some_is_least order

pub returns-clause-none : goal.returns-clause-none
returns-clause-none g c = λ order. none_is_least order
