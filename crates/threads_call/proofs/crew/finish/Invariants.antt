use Rattle.threads_call.specs.inner.Callings.{IsPlace}
use Rattle.threads_call.proofs.crew.finish.Given as goal

abbrev pub invariant-loop : goal.invariant-loop
invariant-loop g l = IsPlace l.hall.monitor l.caller
