use Rattle.shares.specs.inner.Places.{IsPlace}
use Rattle.shares.proofs.threads.serve.Given as goal

abbrev pub invariant-loop : goal.invariant-loop
invariant-loop g l = IsPlace l.shop.monitor l.caller
