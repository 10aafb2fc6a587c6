use Rattle.std.proofs.Common.{◌≡◌, take}
use Rattle.std.specs.List.{filter}
use Rattle.plan_why.specs.inner.Running.{is_other}
use Rattle.plan_why.proofs.running.others_of.Given as goal

abbrev pub invariant-loop-other : goal.invariant-loop-other
invariant-loop-other l = l.others.items ≡ filter (is_other l.place) (take l.other-index l.flags)
