-- As many different numbers below a bound as the bound at most.
use Rattle.std.proofs.Common.{◌≡◌, ◌==◌, ℕ, zero, suc, ◌<◌, ◌≤◌, ◌⊎◌, Bool, true, false, cond, refl, sym, ◌∙◌, arith, inl, inr}
use Rattle.std.proofs.lemmas.Bool.{eqb-true, eqb-false}

abbrev pub IsInto : (ℕ → ℕ) → ℕ → ℕ → Type 0
IsInto f n m = (i : ℕ) → i < n → f i < m

abbrev pub IsOneToOne : (ℕ → ℕ) → ℕ → Type 0
IsOneToOne f n = (i j : ℕ) → i < n → j < n → f i ≡ f j → i ≡ j

-- where f is the greatest, it is what f is at the last place instead
abbrev avoiding : (ℕ → ℕ) → ℕ → ℕ → ℕ → ℕ
avoiding f greatest last i = cond (f i == greatest) (f last) (f i)

avoids_by : (x y greatest : ℕ) (test : Bool) → (x == greatest) ≡ test → ((x ≡ greatest) × (cond test y x ≡ y)) ⊎ ((x ≡ greatest → ⊥) × (cond test y x ≡ x))
avoids_by x y greatest true is = inl (eqb-true x greatest is, refl)
avoids_by x y greatest false is = inr (eqb-false x greatest is, refl)

avoids : (x y greatest : ℕ) → ((x ≡ greatest) × (cond (x == greatest) y x ≡ y)) ⊎ ((x ≡ greatest → ⊥) × (cond (x == greatest) y x ≡ x))
avoids x y greatest = avoids_by x y greatest (x == greatest) refl

into_less : (f : ℕ → ℕ) (n m : ℕ) → IsInto f (suc n) (suc m) → IsOneToOne f (suc n) → IsInto (avoiding f m n) n m
into_less f n m into one i below =
    let here = into i (omega (arith, below)) in
    let last = into n (omega arith) in
    let apart : f i ≡ f n → ⊥ = λ same. let is = one i n (omega (arith, below)) (omega arith) same in omega (arith, below, is) in
    elim (avoids (f i) (f n) m) [
      | inl greatest ↦ below_greatest (f n) m (avoiding f m n i) last (λ is. apart (greatest.0 ∙ sym is)) greatest.1
      | inr less ↦ below_greatest (f i) m (avoiding f m n i) here less.0 less.1
    ]
  where
    below_greatest : (x bound y : ℕ) → x < suc bound → (x ≡ bound → ⊥) → y ≡ x → y < bound
    below_greatest x bound y within differs is = omega (arith, within, differs, is)

one_less : (f : ℕ → ℕ) (n m : ℕ) → IsOneToOne f (suc n) → IsOneToOne (avoiding f m n) n
one_less f n m one i j first second same = elim (avoids (f i) (f n) m) [
  | inl here ↦ elim (avoids (f j) (f n) m) [
    | inl there ↦ one i j (omega (arith, first)) (omega (arith, second)) (here.0 ∙ sym there.0)
    | inr there ↦ absurd (omega (arith, second, one n j (omega arith) (omega (arith, second)) (sym here.1 ∙ same ∙ there.1)))
  ]
  | inr here ↦ elim (avoids (f j) (f n) m) [
    | inl there ↦ absurd (omega (arith, first, one i n (omega (arith, first)) (omega arith) (sym here.1 ∙ same ∙ there.1)))
    | inr there ↦ one i j (omega (arith, first)) (omega (arith, second)) (sym here.1 ∙ same ∙ there.1)
  ]
]

pub pigeonhole : (n m : ℕ) (f : ℕ → ℕ) → IsInto f n m → IsOneToOne f n → n ≤ m
pigeonhole zero m f into one = omega arith
pigeonhole (suc n) zero f into one = absurd (omega (arith, into n (omega arith)))
pigeonhole (suc n) (suc m) f into one = omega (arith, pigeonhole n m (avoiding f m n) (into_less f n m into one) (one_less f n m one))
