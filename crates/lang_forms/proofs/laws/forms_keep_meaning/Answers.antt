use Rattle.lang_forms.proofs.SenseValues.{ints_keep_meaning, bools_keep_meaning}
use Rattle.lang_forms.proofs.laws.forms_keep_meaning.Goals as goal

pub returns-clause-ints : goal.returns-clause-ints
returns-clause-ints c = ints_keep_meaning

pub returns-clause-bools : goal.returns-clause-bools
returns-clause-bools c = bools_keep_meaning
