use Rattle.std.proofs.Common.{ℕ, List, subst, arith}
use Rattle.std.specs.Prelude.{Contains}
use Rattle.std.proofs.lemmas.List.{take_all}
use Rattle.machine_explicit.specs.inner.Waiting.{AreBits}
use Rattle.machine_explicit.proofs.Bits.{more_bits}
use Rattle.machine_explicit.proofs.rings.ring_clients.Goals as goal

pub loop-place-preserved : goal.loop-place-preserved
loop-place-preserved c =
    rw c.with-clients.ensures (more_bits c.args.ring.now.items c.loop-place.place c.loop-place.clients.bits c.client_at-one.result.bits (omega (arith, c.loop-place-test.true, c.len-place-end.ensures.len)) c.loop-place.invariant c.client_at-one.ensures)

pub returns : goal.returns
returns c =
    subst (λ (items : List ℕ). AreBits (λ (client : ℕ). Contains items client) c.loop-place.clients.bits)
    (take_all c.loop-place.place c.args.ring.now.items (omega (arith, c.loop-place-test.false, c.len-place-end.ensures.len))) c.loop-place.invariant
