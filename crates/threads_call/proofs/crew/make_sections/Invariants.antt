use Rattle.threads_call.specs.inner.Callings.{IsPlace}
use Rattle.threads_call.proofs.crew.make_sections.Given as goal

abbrev pub invariant-loop-client : goal.invariant-loop-client
invariant-loop-client g l = IsPlace l.hall.monitor l.caller
