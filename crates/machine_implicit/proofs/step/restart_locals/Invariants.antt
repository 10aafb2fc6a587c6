use Rattle.std.proofs.Common.{◌≡◌, take}
use Rattle.machine_implicit.proofs.step.restart_locals.Given as goal

abbrev pub invariant-loop-value : goal.invariant-loop-value
invariant-loop-value l = l.locals ≡ take l.value-index l.value-items
