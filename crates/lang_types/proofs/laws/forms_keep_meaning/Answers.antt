use Rattle.lang_types.proofs.KeptMeanings.{guards_keep, values_keep}
use Rattle.lang_types.proofs.laws.forms_keep_meaning.Goals as goal

pub returns-clause-guards : goal.returns-clause-guards
returns-clause-guards c = guards_keep

pub returns-clause-values : goal.returns-clause-values
returns-clause-values c = values_keep
