use Rattle.std.proofs.Common.{◌≡◌, ◌++◌, drop, take}
use Rattle.circular_buffer.specs.Buffer.{buffer}
use Rattle.machine_explicit.specs.inner.Rings.{without}
use Rattle.machine_explicit.proofs.rings.take_out.Given as goal

abbrev pub invariant-loop-turn : goal.invariant-loop-turn
invariant-loop-turn l = l.ring ≡ buffer (drop l._turn l.fn.ring.items ++ without l.client (take l._turn l.fn.ring.items)) l.fn.ring.capacity
