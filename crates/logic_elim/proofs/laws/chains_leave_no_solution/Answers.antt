use Rattle.logic_elim.proofs.Soundness.{no_solution}
use Rattle.logic_elim.proofs.laws.chains_leave_no_solution.Goals as goal

pub returns : goal.returns
returns c = λ combines rows closes solution. no_solution combines rows closes solution
