use Rattle.std.proofs.Common.{◌≡◌, ◌+◌, ◌++◌, drop}
use Rattle.plan_fits.specs.Outside.{bounds_from}
use Rattle.plan_fits.proofs.bounds.push_from.Given as goal

abbrev pub invariant-loop-number : goal.invariant-loop-number
invariant-loop-number l =
    l.bounds.items ++ bounds_from (l.first + l.number) (drop l.number l.kinds) ≡ l.fn.bounds.items ++ bounds_from l.first l.kinds
