use Rattle.machine_simulate.specs.inner.Turns.{NoneReady}
use Rattle.machine_simulate.proofs.by_rounds.first_ready.Given as goal

abbrev pub invariant-loop-client : goal.invariant-loop-client
invariant-loop-client l = NoneReady l.free l.from l.client
