use Rattle.std.proofs.Common.{◌≡◌, replicate}
use Rattle.machine_explicit.proofs.Rounds.{empty_ring}
use Rattle.machine_explicit.proofs.rings.Rings.open.Given as goal

abbrev pub invariant-loop-ring : goal.invariant-loop-ring
invariant-loop-ring l = l.rings.items ≡ replicate l._ring empty_ring
