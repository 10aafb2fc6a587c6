use Rattle.logic_elim.proofs.EliminationLemmas.{solved_back, solved_on}
use Rattle.logic_elim.proofs.laws.elimination_keeps_solutions.Goals as goal

pub returns : goal.returns
returns c = λ place rows. (solved_back place rows, solved_on place rows)
