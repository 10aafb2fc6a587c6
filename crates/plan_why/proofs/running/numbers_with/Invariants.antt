use Rattle.std.proofs.Common.{◌≡◌, ◌∷◌, take}
use Rattle.plan_why.proofs.running.numbers_with.Given as goal

abbrev pub invariant-loop-one : goal.invariant-loop-one
invariant-loop-one l = l.all.items ≡ l.fn.first ∷ take l.one-index l.numbers
