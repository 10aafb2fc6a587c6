-- The blocks that a thing is about, one after the other.
use Rattle.std.proofs.Common.{◌≡◌, ◌⊎◌, inl, inr, ℕ, zero, suc, ◌+◌, ◌<◌, Bool, true, false, List, [], ◌∷◌, length, Option, Some, None, sym, subst, arith, ap, refl, ◌∙◌}
use Rattle.std.specs.Prelude.{slice_get}
use Rattle.std.specs.Option.{IsSomeAnd}
use Rattle.lang_monitor.specs.declared.monitor.Block.{Block}
use Rattle.lang_monitor.specs.MonitorParts.{MonitorParts}
use Rattle.plan_why.specs.declared.reason.Thing.{Thing}
use Rattle.plan_why.specs.Things.{is_block_of, IsBlockOf}

pub other_block : (monitor : MonitorParts) (thing : Thing) (block : ℕ) (held : Block) (test : Bool) → slice_get monitor.blocks block ≡ Some held → test ≡ is_block_of thing block held.condition → test ≡ false → IsBlockOf monitor thing block → ⊥
other_block monitor thing block held test there is other about =
    let same : is_block_of thing block held.condition ≡ true = subst (λ (found : Option Block). IsSomeAnd found (λ one. is_block_of thing block one.condition ≡ true)) there about in
    let clash : true ≡ false = sym same ∙ sym is ∙ other in
    cc

pub is_about : (monitor : MonitorParts) (thing : Thing) (block : ℕ) (held : Block) (test : Bool) → slice_get monitor.blocks block ≡ Some held → test ≡ is_block_of thing block held.condition → test ≡ true → IsBlockOf monitor thing block
is_about monitor thing block held test there is same = subst (λ (found : Option Block). IsSomeAnd found (λ one. is_block_of thing block one.condition ≡ true)) (sym there) (sym is ∙ same)

-- a block before the next number is one before this number, or this one
pub before_or_this : (block count : ℕ) → block < count + 1 → (block < count) ⊎ (count ≡ block)
before_or_this zero zero h = inr refl
before_or_this zero (suc count) h = inl (omega arith)
before_or_this (suc block) zero h = absurd (omega arith)
before_or_this (suc block) (suc count) h = again (before_or_this block count (omega arith))
  where
    again : (block < count) ⊎ (count ≡ block) → (suc block < suc count) ⊎ (suc count ≡ suc block)
    again (inl l) = inl (omega arith)
    again (inr e) = inr (ap suc e)

there_is : {X : Type 0} (xs : List X) (i : ℕ) (x : X) → slice_get xs i ≡ Some x → i < length xs
there_is [] i x e = absurd cc
there_is (first ∷ xs) zero x e = omega arith
there_is (first ∷ xs) (suc i) x e = let less = there_is xs i x e in omega arith

pub block_within : (monitor : MonitorParts) (thing : Thing) (block : ℕ) → IsBlockOf monitor thing block → block < length monitor.blocks
block_within monitor thing block about = by (slice_get monitor.blocks block) refl about
  where
    by : (found : Option Block) → slice_get monitor.blocks block ≡ found → IsSomeAnd found (λ held. is_block_of thing block held.condition ≡ true) → block < length monitor.blocks
    by None is about = absurd about
    by (Some held) is about = there_is monitor.blocks block held is
