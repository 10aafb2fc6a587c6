use Rattle.threads_call.specs.inner.Callings.{IsCalling}
use Rattle.threads_call.proofs.crew.call_all.Given as goal

abbrev pub invariant-loop : goal.invariant-loop
invariant-loop g l = IsCalling l.hall l.calling
