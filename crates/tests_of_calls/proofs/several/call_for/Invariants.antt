use Rattle.tests_of_calls.specs.inner.Places.{IsPlace}
use Rattle.tests_of_calls.proofs.several.call_for.Given as goal

abbrev pub invariant-loop : goal.invariant-loop
invariant-loop g l = IsPlace l.hall.monitor l.caller
