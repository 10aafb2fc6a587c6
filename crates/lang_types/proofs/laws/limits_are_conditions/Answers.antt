use Rattle.lang_types.proofs.LimitLaws.{as_written}
use Rattle.lang_types.proofs.laws.limits_are_conditions.Goals as goal

pub returns : goal.returns
returns c = as_written
