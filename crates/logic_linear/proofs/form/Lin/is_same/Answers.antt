use Rattle.logic_linear.proofs.LinearLemmas.{same_linear_decides}
use Rattle.logic_linear.proofs.form.Lin.is_same.Goals as goal

pub returns : goal.returns
returns c = rw c.eq.ensures (same_linear_decides c.args.self.now c.args.other.now)
