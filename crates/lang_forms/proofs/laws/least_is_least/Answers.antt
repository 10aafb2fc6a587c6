use Rattle.lang_forms.proofs.LeastLaws.{none_is_least, some_is_least}
use Rattle.lang_forms.proofs.laws.least_is_least.Goals as goal

pub returns-clause-one : goal.returns-clause-one
returns-clause-one c = some_is_least

pub returns-clause-none : goal.returns-clause-none
returns-clause-none c = none_is_least
