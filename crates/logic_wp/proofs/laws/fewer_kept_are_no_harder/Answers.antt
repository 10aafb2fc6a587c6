use Rattle.logic_wp.proofs.FewerKept.{fewer_no_harder, fewer_within}
use Rattle.logic_wp.proofs.laws.fewer_kept_are_no_harder.Goals as goal

pub returns-clause-within : goal.returns-clause-within
returns-clause-within c = fewer_within

pub returns-clause-plain : goal.returns-clause-plain
returns-clause-plain c = fewer_no_harder
