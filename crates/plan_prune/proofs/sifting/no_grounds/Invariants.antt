use Rattle.std.proofs.Common.{◌≡◌, length}
use Rattle.plan_prune.proofs.sifting.no_grounds.Given as goal

abbrev pub invariant-loop : goal.invariant-loop
invariant-loop l = length l.grounds.items ≡ l.counter
