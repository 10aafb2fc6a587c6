use Rattle.logic_wp.proofs.QueryLaws.{satisfied_is_invalid}
use Rattle.logic_wp.proofs.laws.satisfied_query_is_invalid.Goals as goal

pub returns : goal.returns
returns c = satisfied_is_invalid
