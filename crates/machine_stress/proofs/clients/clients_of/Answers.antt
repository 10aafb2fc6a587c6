use Rattle.std.proofs.Common.{rules}
use Rattle.machine_stress.specs.LargeInput.{clients_of}
use Rattle.machine_stress.proofs.clients.clients_of.Goals as goal

pub returns : goal.returns
unfolding clients_of
returns c = search rules
