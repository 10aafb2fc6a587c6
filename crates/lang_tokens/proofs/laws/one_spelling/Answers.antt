use Rattle.lang_tokens.proofs.Cutting.{one_reading, stuck_is_none}
use Rattle.lang_tokens.proofs.laws.one_spelling.Goals as goal

pub returns-clause-one : goal.returns-clause-one
returns-clause-one c = one_reading

pub returns-clause-stuck : goal.returns-clause-stuck
returns-clause-stuck c = stuck_is_none
