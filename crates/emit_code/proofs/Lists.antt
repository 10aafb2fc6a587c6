-- Lists in which one element is replaced.
use Rattle.std.proofs.Common.{◌≡◌, ℕ, zero, suc, ◌⊎◌, List, [], ◌∷◌, Option, Some, None, refl, sym, ap, arith, inl, inr}
use Rattle.std.specs.Prelude.{slice_get, slice_set, option_map}
use Rattle.std.proofs.lemmas.Option.{none-some, same_Some}

-- what stands there afterwards: the new one, or what stood there before
pub came : {X : Type 0} (xs : List X) (i : ℕ) (new : X) (j : ℕ) (x : X) → slice_get (slice_set xs i new) j ≡ Some x
    → ((j ≡ i) × (x ≡ new)) ⊎ ((j ≡ i → ⊥) × (slice_get xs j ≡ Some x))
came [] i new j x at = absurd (none-some x at)
came (first ∷ more) zero new zero x at = inl (refl, sym (same_Some new x at))
came (first ∷ more) zero new (suc j) x at = inr ((λ same. omega (arith, same)), at)
came (first ∷ more) (suc i) new zero x at = inr ((λ same. omega (arith, same)), at)
came (first ∷ more) (suc i) new (suc j) x at = elim (came more i new j x at) [
  | inl here ↦ inl (ap suc here.0, here.1)
  | inr there ↦ inr ((λ same. there.0 (omega (arith, same))), there.1)
]

pub set_self : {X : Type 0} (xs : List X) (i : ℕ) (x : X) → slice_get xs i ≡ Some x → slice_set xs i x ≡ xs
set_self [] i x at = refl
set_self (first ∷ more) zero x at = ap (λ one. one ∷ more) (sym (same_Some first x at))
set_self (first ∷ more) (suc i) x at = ap (λ rest. first ∷ rest) (set_self more i x at)

pub set_here : {X : Type 0} (xs : List X) (i : ℕ) (x y : X) → slice_get xs i ≡ Some y → slice_get (slice_set xs i x) i ≡ Some x
set_here [] i x y at = absurd (none-some y at)
set_here (first ∷ more) zero x y at = refl
set_here (first ∷ more) (suc i) x y at = set_here more i x y at

pub set_other : {X : Type 0} (xs : List X) (i : ℕ) (new : X) (j : ℕ) → (j ≡ i → ⊥) → slice_get (slice_set xs i new) j ≡ slice_get xs j
set_other [] i new j differs = refl
set_other (first ∷ more) zero new zero differs = absurd (differs refl)
set_other (first ∷ more) zero new (suc j) differs = refl
set_other (first ∷ more) (suc i) new zero differs = refl
set_other (first ∷ more) (suc i) new (suc j) differs = set_other more i new j (λ same. differs (ap suc same))

pub option_some : {A B : Type 0} (f : A → B) (o : Option A) (b : B) → option_map f o ≡ Some b → (a : A) × (o ≡ Some a) × (f a ≡ b)
option_some f None b is = absurd (none-some b is)
option_some f (Some a) b is = (a, refl, same_Some (f a) b is)
