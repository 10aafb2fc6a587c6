use Rattle.machine_implicit.specs.inner.Progress.{NoneActs}
use Rattle.machine_implicit.proofs.rounds.first_actor.Given as goal

abbrev pub invariant-loop-client : goal.invariant-loop-client
invariant-loop-client l = NoneActs l.monitor l.clients l.run l.from l.client
