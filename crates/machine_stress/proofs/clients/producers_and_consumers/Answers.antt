use Rattle.std.proofs.Common.{sym, subst}
use Rattle.machine_implicit.specs.Scripted.{AreClients}
use Rattle.machine_stress.proofs.ClientRules.{are_clients}
use Rattle.machine_stress.proofs.clients.producers_and_consumers.Goals as goal

pub of-requires : goal.of-requires
of-requires c = subst AreClients (sym c.in_ok-clients.ensures) are_clients
