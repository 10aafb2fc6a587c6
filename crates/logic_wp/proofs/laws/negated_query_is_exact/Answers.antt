use Rattle.logic_wp.proofs.QueryLaws.{query_exact}
use Rattle.logic_wp.proofs.laws.negated_query_is_exact.Goals as goal

pub returns : goal.returns
returns c = query_exact
