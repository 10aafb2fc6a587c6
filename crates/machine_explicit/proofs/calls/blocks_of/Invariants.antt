use Rattle.std.proofs.Common.{◌≡◌, ◌≤◌, ◌*◌, sum_by, take}
use Rattle.machine_implicit.specs.Scripted.{blocks_in}
use Rattle.machine_explicit.proofs.calls.blocks_of.Given as goal

abbrev pub invariant-loop-call : goal.invariant-loop-call
invariant-loop-call l = (l.blocks ≡ sum_by (blocks_in l.monitor) (take l.call-index l.calls)) × (l.blocks ≤ 4 * l.call-index)
