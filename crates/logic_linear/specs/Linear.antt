-- Linear forms: sums of multiples of variables, and a constant.
use Rattle.std.specs.Prelude.{ℕ, ℤ, pos, ◌^◌, neg_ℤ, ◌<ℤ◌, ◌≤ℤ◌, ◌≢◌, ◌==◌, List, map, All, Bool}
use Rattle.std.specs.List.Sorted.{IsStrictlyIncreasing}
use Rattle.std.specs.Cmp.{IsEquivalence, and_equiv, int_eq_equiv, nat_eq_equiv, on_equiv}
use Rattle.std.specs.Cmp.Lexicographic.{lists_equiv, pointwise}
use Rattle.std.specs.Ordering.{int_eq, on, eq_of_both}
use Rattle.logic_linear.specs.declared.form.Term.{Term}

-- What contracts see of a form.
pub record Linear : Type 0 where
  pub terms : List Term
  pub constant : ℤ

-- The numbers of a form are from -FORM_BOUND to FORM_BOUND - 1.
abbrev pub FORM_BOUND : ℕ
FORM_BOUND = 2 ^ 95

-- A variable counts from -FORM_BOUND to FORM_BOUND - 1 times, and not 0 times.
pub record IsTerm (term : Term) : Type 0 where
  pub nonzero : term.times ≢ pos 0
  pub above : neg_ℤ (pos FORM_BOUND) ≤ℤ term.times
  pub below : term.times <ℤ pos FORM_BOUND

-- The place of a term's variable.
abbrev pub place_of : Term → ℕ
place_of term = term.place

-- The places rise strictly.
abbrev pub IsRising : List Term → Type 0
IsRising terms = IsStrictlyIncreasing (map place_of terms)

-- The rule of a form: the places rise strictly, and each number is in range.
pub record IsLinear (linear : Linear) : Type 0 where
  pub rising : IsRising linear.terms
  pub each : All IsTerm linear.terms
  pub above : neg_ℤ (pos FORM_BOUND) ≤ℤ linear.constant
  pub below : linear.constant <ℤ pos FORM_BOUND

-- Whether two terms are of the same place and number.
abbrev pub same_term : Term → Term → Bool
same_term = eq_of_both (on (λ term. term.place) ◌==◌) (on (λ term. term.times) int_eq)

-- Whether two forms have the same terms and constant.
abbrev pub same_linear : Linear → Linear → Bool
same_linear =
    eq_of_both (on (λ linear. linear.terms) (pointwise same_term))
    (on (λ linear. linear.constant) int_eq)

-- The test of two terms is an equivalence.
pub same_term_equiv : IsEquivalence same_term
same_term_equiv =
    and_equiv (on_equiv (λ term. term.place) nat_eq_equiv)
    (on_equiv (λ term. term.times) int_eq_equiv)

-- The test of two forms is an equivalence.
pub same_linear_equiv : IsEquivalence same_linear
same_linear_equiv =
    and_equiv (on_equiv (λ linear. linear.terms) (lists_equiv same_term_equiv))
    (on_equiv (λ linear. linear.constant) int_eq_equiv)
