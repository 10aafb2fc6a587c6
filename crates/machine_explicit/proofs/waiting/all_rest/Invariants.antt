use Rattle.machine_explicit.specs.inner.Waiting.{AllRest}
use Rattle.machine_explicit.proofs.waiting.all_rest.Given as goal

abbrev pub invariant-loop-client : goal.invariant-loop-client
invariant-loop-client l = AllRest l.scripts l.positions l.client
