use Rattle.emit_code.proofs.Functions.{data_follow}
use Rattle.emit_code.proofs.laws.data_follow_the_run.Goals as goal

pub returns : goal.returns
returns g c = data_follow
