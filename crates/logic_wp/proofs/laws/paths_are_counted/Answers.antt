use Rattle.logic_wp.proofs.PathNumbers.{paths_counted}
use Rattle.logic_wp.proofs.laws.paths_are_counted.Goals as goal

pub returns : goal.returns
returns c = paths_counted
