-- Values of sums of terms.
use Rattle.std.proofs.Common.{◌≡◌, ℕ, ◌*◌, ℤ, pos, ◌+ℤ◌, ◌*ℤ◌, Bool, true, false, cond, List, [], ◌∷◌, ◌++◌, sym, arith, ap, refl, ◌∙◌}
use Rattle.std.specs.Prelude.{nat_lt, ◌==◌}
use Rattle.std.specs.List.{flat_map}
use Rattle.std.specs.Ordering.{int_eq}
use Rattle.std.proofs.lemmas.Bool.Decides.{Decides-int_eq}
use Rattle.std.proofs.lemmas.Int.{ints}
use borrow.Author.Differences.{up, down, sum_is_lem, product_is}
use Rattle.logic_linear.specs.declared.form.Term.{Term}
use Rattle.logic_linear.specs.Linear.{Linear}
use Rattle.logic_linear.specs.Substitution.{times_at}
use Rattle.logic_linear.specs.Sums.{term_of, with_term, plus_multiple, combined_terms, sum_of_multiples}
use Rattle.logic_linear.specs.Truth.{Valuation, sum_of, value_of}
use Rattle.logic_linear.specs.inner.Merging.{multiple, merge_step, merged}

-- ---- products

pub times_add : (x a b : ℤ) → x *ℤ (a +ℤ b) ≡ x *ℤ a +ℤ x *ℤ b
times_add x a b = omega (arith, ints, ap (λ n. n * up x) (sum_is_lem a b), ap (λ n. n * down x) (sum_is_lem a b))

pub add_times : (a b x : ℤ) → (a +ℤ b) *ℤ x ≡ a *ℤ x +ℤ b *ℤ x
add_times a b x = omega (arith, ints, ap (λ n. n * up x) (sum_is_lem a b), ap (λ n. n * down x) (sum_is_lem a b))

pub times_assoc : (a b c : ℤ) → (a *ℤ b) *ℤ c ≡ a *ℤ (b *ℤ c)
times_assoc a b c =
    let ab = product_is a b in
    let bc = product_is b c in
    omega (
      arith,
      ints,
      ap (λ n. n * up c) ab.0,
      ap (λ n. n * down c) ab.0,
      ap (λ n. n * up c) ab.1,
      ap (λ n. n * down c) ab.1,
      ap (λ n. n * up a) bc.0,
      ap (λ n. n * down a) bc.0,
      ap (λ n. n * up a) bc.1,
      ap (λ n. n * down a) bc.1,
    )

pub zero_times : (a b : ℤ) → a ≡ pos 0 → a *ℤ b ≡ pos 0
zero_times a b h = rw h (omega (arith, ints))

-- ---- sums of terms

pub sum_of-append : (v : Valuation) (xs ys : List Term) → sum_of v (xs ++ ys) ≡ sum_of v xs +ℤ sum_of v ys
sum_of-append v [] ys = omega (arith, ints)
sum_of-append v (x ∷ xs) ys = let rest = sum_of-append v xs ys in omega (arith, ints)

plus_zero : (a : ℤ) → a ≡ a +ℤ pos 0
plus_zero a = omega (arith, ints)

pub sum_of-term_of : (v : Valuation) (place : ℕ) (times : ℤ) → sum_of v (term_of place times) ≡ times *ℤ v.number place
sum_of-term_of v place times = by_test (int_eq times (pos 0)) refl
  where
    by_test : (test : Bool) → int_eq times (pos 0) ≡ test → sum_of v (cond test [] (record { place = place; times = times } ∷ [])) ≡ times *ℤ v.number place
    by_test true h = sym (zero_times times (v.number place) ((Decides-int_eq times (pos 0)).0 h))
    by_test false h = sym (plus_zero _)

-- ---- terms with one more, and with multiples of others

sum_first : (t x x' s : ℤ) → t *ℤ x +ℤ (s +ℤ x') ≡ t *ℤ x +ℤ s +ℤ x'
sum_first t x x' s = omega (arith, ints)

with_here : (t u x s r : ℤ) → r ≡ (t +ℤ u) *ℤ x → r +ℤ s ≡ u *ℤ x +ℤ (t *ℤ x +ℤ s)
with_here t u x s r h = let e = add_times t u x in omega (arith, ints)

with_later : (a u s r : ℤ) → r ≡ u +ℤ s → a +ℤ r ≡ u +ℤ (a +ℤ s)
with_later a u s r h = omega (arith, ints)

pub with_term_value : (v : Valuation) (place : ℕ) (times : ℤ) (terms : List Term) → sum_of v (with_term place times terms) ≡ times *ℤ v.number place +ℤ sum_of v terms
with_term_value v place times [] = sum_of-term_of v place times ∙ plus_zero _
with_term_value v place times (term ∷ terms) = by_test (with_term_value v place times terms) (nat_lt place term.place) (place == term.place) refl
  where
    by_test : sum_of v (with_term place times terms) ≡ times *ℤ v.number place +ℤ sum_of v terms → (below same : Bool) → (place == term.place) ≡ same
        → sum_of v (cond below (term_of place times ++ (term ∷ terms)) (cond same (term_of place (term.times +ℤ times) ++ terms) (term ∷ with_term place times terms))) ≡ times *ℤ v.number place +ℤ sum_of v (term ∷ terms)
    by_test after true same e = sum_of-append v (term_of place times) (term ∷ terms) ∙ ap (λ n. n +ℤ sum_of v (term ∷ terms)) (sum_of-term_of v place times)
    by_test after false true e =
        let here : term.place ≡ place = grind arith in
        sum_of-append v (term_of place (term.times +ℤ times)) terms
        ∙ rw here (with_here term.times times (v.number place) (sum_of v terms) (sum_of v (term_of place (term.times +ℤ times))) (sum_of-term_of v place (term.times +ℤ times)))
    by_test after false false e = with_later (term.times *ℤ v.number term.place) (times *ℤ v.number place) (sum_of v terms) (sum_of v (with_term place times terms)) after

more_plus : (k t x s b r : ℤ) → r ≡ k *ℤ s +ℤ b → (k *ℤ t) *ℤ x +ℤ r ≡ k *ℤ (t *ℤ x +ℤ s) +ℤ b
more_plus k t x s b r h = let a = times_assoc k t x in let c = times_add k (t *ℤ x) s in omega (arith, ints)

none_plus : (k b : ℤ) → b ≡ k *ℤ pos 0 +ℤ b
none_plus k b = omega (arith, ints)

pub plus_multiple_value : (v : Valuation) (k : ℤ) (others terms : List Term) → sum_of v (plus_multiple k others terms) ≡ k *ℤ sum_of v others +ℤ sum_of v terms
plus_multiple_value v k [] terms = none_plus k (sum_of v terms)
plus_multiple_value v k (other ∷ others) terms =
    with_term_value v other.place (k *ℤ other.times) (plus_multiple k others terms)
    ∙ more_plus k other.times (v.number other.place) (sum_of v others) (sum_of v terms) _ (plus_multiple_value v k others terms)

both_sums : (l r : ℤ) → r +ℤ (l +ℤ pos 0) ≡ l +ℤ r
both_sums l r = omega (arith, ints)

pub combined_value : (v : Valuation) (a : ℤ) (left : List Term) (b : ℤ) (right : List Term) → sum_of v (combined_terms a left b right) ≡ a *ℤ sum_of v left +ℤ b *ℤ sum_of v right
combined_value v a left b right =
    plus_multiple_value v b right (plus_multiple a left []) ∙ ap (λ n. b *ℤ sum_of v right +ℤ n) (plus_multiple_value v a left [])
    ∙ both_sums (a *ℤ sum_of v left) (b *ℤ sum_of v right)

regroup_multiples : (a b s t c d : ℤ) → (a *ℤ s +ℤ b *ℤ t) +ℤ (a *ℤ c +ℤ b *ℤ d) ≡ a *ℤ (s +ℤ c) +ℤ b *ℤ (t +ℤ d)
regroup_multiples a b s t c d = let e = times_add a s c in let f = times_add b t d in omega (arith, ints)

-- The value of a sum of multiples is that sum of the values.
pub sum_value : (v : Valuation) (a : ℤ) (left : Linear) (b : ℤ) (right : Linear) → value_of v (sum_of_multiples a left b right) ≡ a *ℤ value_of v left +ℤ b *ℤ value_of v right
sum_value v a left b right =
    ap (λ n. n +ℤ (a *ℤ left.constant +ℤ b *ℤ right.constant)) (combined_value v a left.terms b right.terms)
    ∙ regroup_multiples a b (sum_of v left.terms) (sum_of v right.terms) left.constant right.constant

-- ---- the value of merged terms

more : (k t x s r : ℤ) → r ≡ k *ℤ s → (k *ℤ t) *ℤ x +ℤ r ≡ k *ℤ (t *ℤ x +ℤ s)
more k t x s r h = let a = times_assoc k t x in let b = times_add k (t *ℤ x) s in omega (arith, ints)

pub multiples_value : (v : Valuation) (k : ℤ) (others : List Term) → sum_of v (flat_map (multiple k) others) ≡ k *ℤ sum_of v others
multiples_value v k [] = omega (arith, ints)
multiples_value v k (other ∷ others) =
    sum_of-append v (multiple k other) (flat_map (multiple k) others)
    ∙ ap (λ n. n +ℤ sum_of v (flat_map (multiple k) others)) (sum_of-term_of v other.place (k *ℤ other.times))
    ∙ more k other.times (v.number other.place) (sum_of v others) _ (multiples_value v k others)

later : (k t x s a r l : ℤ) → l ≡ (k *ℤ t) *ℤ x → r ≡ a +ℤ k *ℤ s → l +ℤ r ≡ a +ℤ k *ℤ (t *ℤ x +ℤ s)
later k t x s a r l g h = let e = more k t x s (k *ℤ s) refl in omega (arith, ints)

both : (k t u x s c r l : ℤ) → l ≡ (u +ℤ k *ℤ t) *ℤ x → r ≡ c +ℤ k *ℤ s → l +ℤ r ≡ (u *ℤ x +ℤ c) +ℤ k *ℤ (t *ℤ x +ℤ s)
both k t u x s c r l g h = let e = more k t x s (k *ℤ s) refl in let f = add_times u (k *ℤ t) x in omega (arith, ints)

sooner : (a c r : ℤ) → r ≡ c → a +ℤ r ≡ a +ℤ c
sooner a c r h = ap (λ n. a +ℤ n) h

regroup : (a c m : ℤ) → a +ℤ (c +ℤ m) ≡ (a +ℤ c) +ℤ m
regroup a c m = omega (arith, ints)

none_other : (k a c r : ℤ) → r ≡ c +ℤ k *ℤ pos 0 → a +ℤ r ≡ (a +ℤ c) +ℤ k *ℤ pos 0
none_other k a c r h = omega (arith, ints)

step_value : (v : Valuation) (k : ℤ) (term : Term) (terms : List Term) (rest : List Term → List Term) → ((others : List Term) → sum_of v (rest others) ≡ sum_of v terms +ℤ k *ℤ sum_of v others)
    → (others : List Term) → sum_of v (merge_step k term rest others) ≡ (term.times *ℤ v.number term.place +ℤ sum_of v terms) +ℤ k *ℤ sum_of v others
step_value v k term terms rest is [] = none_other k _ _ _ (is [])
step_value v k term terms rest is (other ∷ others) = by_test (step_value v k term terms rest is others) (nat_lt other.place term.place) (other.place == term.place) refl
  where
    by_test : sum_of v (merge_step k term rest others) ≡ (term.times *ℤ v.number term.place +ℤ sum_of v terms) +ℤ k *ℤ sum_of v others → (below same : Bool) → (other.place == term.place) ≡ same
        → sum_of v (cond below (multiple k other ++ merge_step k term rest others) (cond same (term_of term.place (term.times +ℤ k *ℤ other.times) ++ rest others) (term ∷ rest (other ∷ others)))) ≡ (term.times *ℤ v.number term.place +ℤ sum_of v terms) +ℤ k *ℤ sum_of v (other ∷ others)
    by_test before true same e =
        sum_of-append v (multiple k other) (merge_step k term rest others)
        ∙ later k other.times (v.number other.place) (sum_of v others) (term.times *ℤ v.number term.place +ℤ sum_of v terms) (sum_of v (merge_step k term rest others)) (sum_of v (multiple k other)) (sum_of-term_of v other.place (k *ℤ other.times)) before
    by_test before false true e =
        let here : other.place ≡ term.place = grind arith in
        sum_of-append v (term_of term.place (term.times +ℤ k *ℤ other.times)) (rest others)
        ∙ rw here (both k other.times term.times (v.number term.place) (sum_of v others) (sum_of v terms) (sum_of v (rest others)) (sum_of v (term_of term.place (term.times +ℤ k *ℤ other.times))) (sum_of-term_of v term.place (term.times +ℤ k *ℤ other.times)) (is others))
    by_test before false false e = sooner (term.times *ℤ v.number term.place) (sum_of v terms +ℤ k *ℤ sum_of v (other ∷ others)) (sum_of v (rest (other ∷ others))) (is (other ∷ others)) ∙ regroup (term.times *ℤ v.number term.place) (sum_of v terms) (k *ℤ sum_of v (other ∷ others))

pub merged_value : (v : Valuation) (k : ℤ) (terms others : List Term) → sum_of v (merged k terms others) ≡ sum_of v terms +ℤ k *ℤ sum_of v others
merged_value v k [] others = multiples_value v k others ∙ sym (let z : ℤ = k *ℤ sum_of v others in zero_plus z)
  where
    zero_plus : (z : ℤ) → pos 0 +ℤ z ≡ z
    zero_plus z = omega (arith, ints)
merged_value v k (term ∷ terms) others = step_value v k term terms (merged k terms) (merged_value v k terms) others

-- ---- how many times a place counts, as a value

-- 1 at one place, and 0 elsewhere
abbrev pub only : ℕ → Valuation
only place = record { number = λ at. cond (at == place) (pos 1) (pos 0); flag = λ at. false }

once : (t s : ℤ) → t *ℤ pos 1 +ℤ s ≡ t +ℤ s
once t s = omega (arith, ints)

never : (t s : ℤ) → t *ℤ pos 0 +ℤ s ≡ s
never t s = omega (arith, ints)

pub times_value : (place : ℕ) (terms : List Term) → sum_of (only place) terms ≡ times_at place terms
times_value place [] = refl
times_value place (term ∷ terms) = by_test (times_value place terms) (term.place == place)
  where
    by_test : sum_of (only place) terms ≡ times_at place terms → (same : Bool) → term.times *ℤ cond same (pos 1) (pos 0) +ℤ sum_of (only place) terms ≡ cond same (term.times +ℤ times_at place terms) (times_at place terms)
    by_test rest true = ap (λ n. term.times *ℤ pos 1 +ℤ n) rest ∙ once term.times (times_at place terms)
    by_test rest false = ap (λ n. term.times *ℤ pos 0 +ℤ n) rest ∙ never term.times (times_at place terms)
