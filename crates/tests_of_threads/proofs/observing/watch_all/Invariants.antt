use Rattle.tests_of_threads.specs.inner.Places.{IsPlace}
use Rattle.tests_of_threads.proofs.observing.watch_all.Given as goal

abbrev pub invariant-loop : goal.invariant-loop
invariant-loop l = IsPlace l.watch.shared l.pass
