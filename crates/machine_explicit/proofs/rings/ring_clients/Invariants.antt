use Rattle.std.proofs.Common.{ℕ, take}
use Rattle.std.specs.Prelude.{Contains}
use Rattle.machine_explicit.specs.inner.Waiting.{AreBits}
use Rattle.machine_explicit.proofs.rings.ring_clients.Given as goal

abbrev pub invariant-loop-place : goal.invariant-loop-place
invariant-loop-place l = AreBits (λ (client : ℕ). Contains (take l.place l.ring.items) client) l.clients.bits
