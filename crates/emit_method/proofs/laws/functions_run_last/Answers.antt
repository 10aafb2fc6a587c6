use Rattle.emit_method.proofs.Last.{run_last}
use Rattle.emit_method.proofs.laws.functions_run_last.Goals as goal

pub returns : goal.returns
returns c = run_last
