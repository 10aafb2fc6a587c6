-- What rows are worth at fractions.
use Rattle.std.proofs.Common.{◌≡◌, ℕ, ℤ, pos, neg_ℤ, ◌+ℤ◌, ◌*ℤ◌, Bool, true, false, cond, List, [], ◌∷◌, sym, arith, ap, refl, ◌∙◌}
use Rattle.std.specs.Prelude.{◌==◌}
use Rattle.std.proofs.lemmas.Int.{ints}
use Rattle.logic_linear.specs.declared.form.Term.{Term}
use Rattle.logic_linear.specs.Linear.{Linear}
use Rattle.logic_linear.specs.Substitution.{times_at}
use Rattle.logic_linear.specs.Sums.{sum_of_multiples}
use Rattle.logic_linear.specs.Truth.{Valuation, sum_of}
use Rattle.logic_linear.proofs.RisingLemmas.{others_of}
use Rattle.logic_linear.proofs.SubstitutionLemmas.{at_place, split_value}
use Rattle.logic_linear.proofs.SumLemmas.{times_add, add_times, times_assoc, combined_value}
use Rattle.logic_elim.specs.Eliminations.{sum_row}
use Rattle.logic_linear.specs.Fractions.{worth}
use Rattle.logic_elim.proofs.NumberLemmas.{times_swap, neg_times}

-- ---- sums

regroup : (a b s t x y : ℤ) → (a *ℤ s +ℤ b *ℤ t) +ℤ (a *ℤ x +ℤ b *ℤ y) ≡ a *ℤ (s +ℤ x) +ℤ b *ℤ (t +ℤ y)
regroup a b s t x y = let e = times_add a s x in let f = times_add b t y in omega (arith, ints)

constants : (a b x y d : ℤ) → (a *ℤ x +ℤ b *ℤ y) *ℤ d ≡ a *ℤ (x *ℤ d) +ℤ b *ℤ (y *ℤ d)
constants a b x y d = add_times (a *ℤ x) (b *ℤ y) d ∙ rw (times_assoc a x d, times_assoc b y d) refl

both_parts : (s t x y : ℤ) → s ≡ t → x ≡ y → s +ℤ x ≡ t +ℤ y
both_parts s t x y e f = rw (e, f) refl

pub sum_worth : (v : Valuation) (d a : ℤ) (left : Linear) (b : ℤ) (right : Linear) → worth v d (sum_of_multiples a left b right) ≡ a *ℤ worth v d left +ℤ b *ℤ worth v d right
sum_worth v d a left b right =
    both_parts _ _ _ _ (combined_value v a left.terms b right.terms) (constants a b left.constant right.constant d)
    ∙ regroup a b (sum_of v left.terms) (sum_of v right.terms) (left.constant *ℤ d) (right.constant *ℤ d)

-- ---- another number at a place, and all others so many times

abbrev pub times_all : ℤ → Valuation → Valuation
times_all k v = record { number = λ at. k *ℤ v.number at; flag = v.flag }

scaled_term : (k t x s r : ℤ) → r ≡ k *ℤ s → t *ℤ (k *ℤ x) +ℤ r ≡ k *ℤ (t *ℤ x +ℤ s)
scaled_term k t x s r h = both_parts _ _ _ _ (times_swap t k x) h ∙ sym (times_add k (t *ℤ x) s)

scaled_sum : (k : ℤ) (v : Valuation) (terms : List Term) → sum_of (times_all k v) terms ≡ k *ℤ sum_of v terms
scaled_sum k v [] = omega (arith, ints)
scaled_sum k v (term ∷ terms) = scaled_term k term.times (v.number term.place) (sum_of v terms) _ (scaled_sum k v terms)

-- What the row is worth without the variable.
abbrev pub rest_of : ℕ → Valuation → ℤ → Linear → ℤ
rest_of place v d row = sum_of v (others_of place row.terms) +ℤ row.constant *ℤ d

abbrev pub times_in : ℕ → Linear → ℤ
times_in place row = times_at place row.terms

scaled_whole : (t x k s c d r : ℤ) → r ≡ k *ℤ s → (t *ℤ x +ℤ r) +ℤ c *ℤ (k *ℤ d) ≡ t *ℤ x +ℤ k *ℤ (s +ℤ c *ℤ d)
scaled_whole t x k s c d r h = grouped (t *ℤ x) _ _ _ _ h (times_swap c k d) (times_add k s (c *ℤ d))
  where
    grouped : (p r q y z : ℤ) → r ≡ y → q ≡ z → {w : ℤ} → w ≡ y +ℤ z → (p +ℤ r) +ℤ q ≡ p +ℤ w
    grouped p r q y z e f g = rw (e, f, g) (omega (arith, ints))

pub chosen_worth : (place : ℕ) (x k : ℤ) (v : Valuation) (d : ℤ) (row : Linear) → worth (at_place place x (times_all k v)) (k *ℤ d) row ≡ times_in place row *ℤ x +ℤ k *ℤ rest_of place v d row
chosen_worth place x k v d row =
    ap (λ n. n +ℤ row.constant *ℤ (k *ℤ d)) (split_value (times_all k v) place x row.terms)
    ∙ scaled_whole (times_in place row) x k (sum_of v (others_of place row.terms)) row.constant d _ (scaled_sum k v (others_of place row.terms))

same_number : (place : ℕ) (v : Valuation) → at_place place (v.number place) v ≡ v
same_number place v = λ i. record { number = λ at. same at i; flag = v.flag }
  where
    same : (at : ℕ) → cond (at == place) (v.number place) (v.number at) ≡ v.number at
    same at = by_test (at == place) refl
      where
        by_test : (test : Bool) → (at == place) ≡ test → cond test (v.number place) (v.number at) ≡ v.number at
        by_test true e = ap v.number (let here : place ≡ at = grind arith in here)
        by_test false e = refl

group_three : (a b c : ℤ) → (a +ℤ b) +ℤ c ≡ a +ℤ (b +ℤ c)
group_three a b c = omega (arith, ints)

pub here_worth : (place : ℕ) (v : Valuation) (d : ℤ) (row : Linear) → worth v d row ≡ times_in place row *ℤ v.number place +ℤ rest_of place v d row
here_worth place v d row =
    ap (λ n. n +ℤ row.constant *ℤ d) (sym (ap (λ (u : Valuation). sum_of u row.terms) (same_number place v)) ∙ split_value v place (v.number place) row.terms)
    ∙ group_three (times_in place row *ℤ v.number place) (sum_of v (others_of place row.terms)) (row.constant *ℤ d)

-- ---- the sum in which the variable goes

no_variable : (t u n : ℤ) → neg_ℤ t *ℤ (u *ℤ n) +ℤ u *ℤ (t *ℤ n) ≡ pos 0
no_variable t u n = gone (neg_ℤ t *ℤ (u *ℤ n)) (u *ℤ (t *ℤ n)) (turned ∙ ap neg_ℤ (times_swap t u n))
  where
    turned : neg_ℤ t *ℤ (u *ℤ n) ≡ neg_ℤ (t *ℤ (u *ℤ n))
    turned = neg_times t (u *ℤ n)

    gone : (x y : ℤ) → x ≡ neg_ℤ y → x +ℤ y ≡ pos 0
    gone x y e = omega (arith, ints)

pair_rest : (t u n r s : ℤ) → neg_ℤ t *ℤ (u *ℤ n +ℤ r) +ℤ u *ℤ (t *ℤ n +ℤ s) ≡ neg_ℤ t *ℤ r +ℤ u *ℤ s
pair_rest t u n r s = let e = times_add (neg_ℤ t) (u *ℤ n) r in let f = times_add u (t *ℤ n) s in let g = no_variable t u n in
    left (neg_ℤ t *ℤ (u *ℤ n)) (u *ℤ (t *ℤ n)) (neg_ℤ t *ℤ r) (u *ℤ s) _ _ e f g
  where
    left : (a b c d x y : ℤ) → x ≡ a +ℤ c → y ≡ b +ℤ d → a +ℤ b ≡ pos 0 → x +ℤ y ≡ c +ℤ d
    left a b c d x y e f g = omega (arith, ints)

pub pair_worth : (place : ℕ) (v : Valuation) (d : ℤ) (upper lower : Linear) → worth v d (sum_row place upper lower) ≡ neg_ℤ (times_in place lower) *ℤ rest_of place v d upper +ℤ times_in place upper *ℤ rest_of place v d lower
pair_worth place v d upper lower =
    sum_worth v d (neg_ℤ (times_in place lower)) upper (times_in place upper) lower
    ∙ both_parts _ _ _ _ (ap (λ n. neg_ℤ (times_in place lower) *ℤ n) (here_worth place v d upper)) (ap (λ n. times_in place upper *ℤ n) (here_worth place v d lower))
    ∙ pair_rest (times_in place lower) (times_in place upper) (v.number place) (rest_of place v d upper) (rest_of place v d lower)
