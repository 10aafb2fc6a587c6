use Rattle.std.proofs.Common.{◌≡◌, take}
use Rattle.plan_counted.specs.Counted.{counted_kinds}
use Rattle.plan_counted.proofs.placing.counted_kinds.Given as goal

abbrev pub invariant-loop-index : goal.invariant-loop-index
invariant-loop-index l = l.made.items ≡ counted_kinds (take l.index l.kinds) l.columns
