use Rattle.emit_code.proofs.Functions.{ran_once}
use Rattle.emit_code.proofs.laws.functions_run_once.Goals as goal

pub returns : goal.returns
returns c = ran_once
