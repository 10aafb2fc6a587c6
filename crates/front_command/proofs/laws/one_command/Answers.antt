use Rattle.front_command.proofs.Words.{one_taken}
use Rattle.front_command.proofs.laws.one_command.Goals as goal

pub returns : goal.returns
returns c = one_taken
