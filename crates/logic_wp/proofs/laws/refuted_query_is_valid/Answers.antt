use Rattle.logic_wp.proofs.QueryLaws.{refuted_is_valid}
use Rattle.logic_wp.proofs.laws.refuted_query_is_valid.Goals as goal

pub returns : goal.returns
returns c = refuted_is_valid
