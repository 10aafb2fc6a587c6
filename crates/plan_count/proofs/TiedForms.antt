-- The rows that tie a form to what it was worth, written out, are forms.
use Rattle.std.proofs.Common.{◌≡◌, ◌≢◌, ℕ, ◌+◌, ◌<◌, ◌≤◌, ◌^◌, ℤ, pos, neg_ℤ, ◌+ℤ◌, ◌-ℤ◌, ◌*ℤ◌, ◌≤ℤ◌, ◌<ℤ◌, Bool, true, false, not, cond, List, [], ◌∷◌, ◌++◌, map, append-nil, sym, ap, ap₂, subst, refl, ◌∙◌, arith}
use Rattle.std.specs.Prelude.{All, nat_lt, ◌==◌}
use Rattle.std.specs.List.Sorted.{IsStrictlyIncreasing}
use Rattle.std.specs.List.{list_all}
use Rattle.std.specs.Ordering.{int_eq}
use Rattle.std.proofs.lemmas.Bool.{and_from}
use Rattle.std.proofs.lemmas.Int.{ints}
use mir.Syntax.{w128}
use mir.Val.{to_z, of_z}
use Rattle.std.proofs.lemmas.List.Elements.{All-nil, All-cons, All-head, All-tail, All-push, All-weaker}
use Rattle.lang_base.specs.Numbers.{is_within}
use Rattle.logic_linear.specs.declared.form.Term.{Term}
use Rattle.logic_linear.specs.Linear.{Linear, IsLinear, IsTerm, place_of}
use Rattle.logic_linear.specs.Negation.{negative_term, can_negate_linear, can_negate_number, can_negate_term}
use Rattle.logic_linear.specs.Sums.{term_of, with_term, plus_multiple}
use Rattle.logic_linear.proofs.RisingLemmas.{RisesFrom, linear_rises, increasing_from_rises}
use Rattle.lang_monitor.specs.Inputs.{reads_term}
use Rattle.machine_events.specs.Counts.{zero_form}
use Rattle.machine_events.specs.CountClaims.{OLD, is_turned, minus, more_by, old_form}
use Rattle.plan_count.specs.inner.Rows.{IsCountable, IsFieldTerm, last_term, old_number}

-- ---- multiples written out

abbrev scaled : ℤ → Term → Term
scaled factor term = record { place = term.place; times = factor *ℤ term.times }

-- no term counts 0 times so often
abbrev Counts : ℤ → Term → Type 0
Counts factor term = int_eq (factor *ℤ term.times) (pos 0) ≡ false

abbrev AreCounted : ℤ → List Term → Type 0
AreCounted factor terms = All (Counts factor) terms

alone : (place : ℕ) (times : ℤ) (more : List Term) → int_eq times (pos 0) ≡ false
    → term_of place times ++ more ≡ record { place = place; times = times } ∷ more
alone place times more is = ap (λ (test : Bool). cond test [] (record { place = place; times = times } ∷ []) ++ more) is

-- the first of terms that rise stands before the others
in_front : (place : ℕ) (times : ℤ) (more : List Term) → RisesFrom (place + 1) more
    → int_eq times (pos 0) ≡ false
    → with_term place times more ≡ record { place = place; times = times } ∷ more
in_front place times [] rises is = sym (append-nil (term_of place times)) ∙ alone place times [] is
in_front place times (term ∷ terms) rises is = by_test (nat_lt place term.place) (let low = rises.0 in grind arith)
  where
    by_test : (test : Bool) → test ≡ true
        → cond test (term_of place times ++ (term ∷ terms)) (cond (place == term.place) (term_of place (term.times +ℤ times) ++ terms) (term ∷ with_term place times terms))
        ≡ record { place = place; times = times } ∷ (term ∷ terms)
    by_test true low = alone place times (term ∷ terms) is
    by_test false low = absurd cc

-- scaled terms rise as the terms do
scaled_rise : (factor : ℤ) (low : ℕ) (terms tail : List Term) → RisesFrom low (terms ++ tail)
    → RisesFrom low (map (scaled factor) terms ++ tail)
scaled_rise factor low [] tail rises = rises
scaled_rise factor low (term ∷ terms) tail rises = (rises.0, scaled_rise factor (term.place + 1) terms tail rises.1)

multiples : (factor : ℤ) (low : ℕ) (terms tail : List Term) → RisesFrom low (terms ++ tail)
    → AreCounted factor terms → plus_multiple factor terms tail ≡ map (scaled factor) terms ++ tail
multiples factor low [] tail rises counted = refl
multiples factor low (term ∷ terms) tail rises counted =
    ap (with_term term.place (factor *ℤ term.times)) (multiples factor (term.place + 1) terms tail rises.1 (All-tail (Counts factor) term terms counted))
    ∙ in_front term.place (factor *ℤ term.times) (map (scaled factor) terms ++ tail) (scaled_rise factor (term.place + 1) terms tail rises.1) (All-head (Counts factor) term terms counted)

-- the last of terms that rise stands after the others
at_end : (place : ℕ) (times : ℤ) (low : ℕ) (terms : List Term) → RisesFrom low terms
    → All (λ (term : Term). term.place < place) terms → int_eq times (pos 0) ≡ false
    → with_term place times terms ≡ terms ++ record { place = place; times = times } ∷ []
at_end place times low [] rises below is = ap (λ (test : Bool). cond test [] (record { place = place; times = times } ∷ [])) is
at_end place times low (term ∷ terms) rises below is =
    let here = All-head (λ (term : Term). term.place < place) term terms below in
    by_tests (nat_lt place term.place) (place == term.place) (grind arith) (grind arith)
    (at_end place times (term.place + 1) terms rises.1 (All-tail (λ (term : Term). term.place < place) term terms below) is)
  where
    by_tests : (before same : Bool) → before ≡ false → same ≡ false
        → with_term place times terms ≡ terms ++ record { place = place; times = times } ∷ []
        → cond before (term_of place times ++ (term ∷ terms)) (cond same (term_of place (term.times +ℤ times) ++ terms) (term ∷ with_term place times terms))
        ≡ term ∷ (terms ++ record { place = place; times = times } ∷ [])
    by_tests false false one two rest = ap (λ (all : List Term). term ∷ all) rest
    by_tests false true one two rest = absurd cc
    by_tests true same one two rest = absurd cc

-- ---- a form whose terms are of fields

rises_to_old : (times : ℤ) (low : ℕ) (terms : List Term) → low ≤ OLD → RisesFrom low terms
    → All IsFieldTerm terms → RisesFrom low (terms ++ last_term times ∷ [])
rises_to_old times low [] below rises fields = (below, tt)
rises_to_old times low (term ∷ terms) below rises fields =
    let field = (All-head IsFieldTerm term terms fields).field in
    (rises.0, rises_to_old times (term.place + 1) terms (grind arith) rises.1 (All-tail IsFieldTerm term terms fields))

before_old : (terms : List Term) → All IsFieldTerm terms → All (λ (term : Term). term.place < OLD) terms
before_old terms fields = All-weaker IsFieldTerm (λ (term : Term). term.place < OLD) (λ term is. by term is.field) terms fields
  where
    by : (term : Term) → reads_term term ≡ false → term.place < OLD
    by term is = grind arith

nothing_scaled : (terms : List Term) → map (scaled (pos 1)) terms ≡ terms
nothing_scaled [] = refl
nothing_scaled (term ∷ terms) = ap₂ (λ (one : Term) (all : List Term). one ∷ all) (λ i. record { place = term.place; times = plain term.times i }) (nothing_scaled terms)
  where
    plain : (z : ℤ) → pos 1 *ℤ z ≡ z
    plain z = omega (arith, ints)

turned_scaled : (terms : List Term) → map (scaled (neg_ℤ (pos 1))) terms ≡ map negative_term terms
turned_scaled [] = refl
turned_scaled (term ∷ terms) = ap₂ (λ (one : Term) (all : List Term). one ∷ all) (λ i. record { place = term.place; times = plain term.times i }) (turned_scaled terms)
  where
    plain : (z : ℤ) → neg_ℤ (pos 1) *ℤ z ≡ neg_ℤ z
    plain z = omega (arith, ints)

counted_once : (terms : List Term) → All IsTerm terms → AreCounted (pos 1) terms
counted_once terms each = All-weaker IsTerm (Counts (pos 1)) (λ term is. by term.times is.nonzero) terms each
  where
    by : (z : ℤ) → z ≢ pos 0 → int_eq (pos 1 *ℤ z) (pos 0) ≡ false
    by z is = grind (arith, ints, is)

counted_turned : (terms : List Term) → All IsTerm terms → AreCounted (neg_ℤ (pos 1)) terms
counted_turned terms each = All-weaker IsTerm (Counts (neg_ℤ (pos 1))) (λ term is. by term.times is.nonzero) terms each
  where
    by : (z : ℤ) → z ≢ pos 0 → int_eq (neg_ℤ (pos 1) *ℤ z) (pos 0) ≡ false
    by z is = grind (arith, ints, is)

-- ---- the three rows, written out

abbrev old_by : Bool → Linear
old_by turned = record { terms = last_term (old_number turned) ∷ []; constant = pos 0 }

less_terms : (turned : Bool) (form : Linear) → IsLinear form → IsCountable form
    → (minus form (old_by turned)).terms ≡ form.terms ++ last_term (old_number (not turned)) ∷ []
less_terms turned form rule is = by turned
  where
    once : plus_multiple (pos 1) form.terms [] ≡ form.terms
    once =
        multiples (pos 1) 0 form.terms [] (subst (RisesFrom 0) (sym (append-nil form.terms)) (linear_rises form rule)) (counted_once form.terms rule.each)
        ∙ append-nil (map (scaled (pos 1)) form.terms) ∙ nothing_scaled form.terms

    by : (turned : Bool) → (minus form (old_by turned)).terms ≡ form.terms ++ last_term (old_number (not turned)) ∷ []
    by false = ap (with_term OLD (neg_ℤ (pos 1) *ℤ pos 1)) once ∙ at_end OLD (neg_ℤ (pos 1)) 0 form.terms (linear_rises form rule) (before_old form.terms is.terms) refl
    by true = ap (with_term OLD (neg_ℤ (pos 1) *ℤ neg_ℤ (pos 1))) once ∙ at_end OLD (pos 1) 0 form.terms (linear_rises form rule) (before_old form.terms is.terms) refl

pub less_old_is : (form : Linear) → IsLinear form → IsCountable form
    → minus form (old_form form) ≡ record { terms = form.terms ++ last_term (old_number (not (is_turned form.terms))) ∷ []; constant = form.constant }
less_old_is form rule is = λ i. record { terms = less_terms (is_turned form.terms) form rule is i; constant = plain form.constant i }
  where
    plain : (z : ℤ) → pos 1 *ℤ z +ℤ neg_ℤ (pos 1) *ℤ pos 0 ≡ z
    plain z = omega (arith, ints)

old_terms : (turned : Bool) (form : Linear) → IsLinear form → IsCountable form
    → (minus (old_by turned) form).terms ≡ map negative_term form.terms ++ last_term (old_number turned) ∷ []
old_terms turned form rule is = by turned
  where
    to : (times : ℤ) → plus_multiple (neg_ℤ (pos 1)) form.terms (last_term times ∷ []) ≡ map negative_term form.terms ++ last_term times ∷ []
    to times =
        multiples (neg_ℤ (pos 1)) 0 form.terms (last_term times ∷ []) (rises_to_old times 0 form.terms (omega arith) (linear_rises form rule) is.terms) (counted_turned form.terms rule.each)
        ∙ ap (λ (all : List Term). all ++ last_term times ∷ []) (turned_scaled form.terms)

    by : (turned : Bool) → (minus (old_by turned) form).terms ≡ map negative_term form.terms ++ last_term (old_number turned) ∷ []
    by false = to (pos 1)
    by true = to (neg_ℤ (pos 1))

pub old_less_is : (form : Linear) (number : ℤ) → IsLinear form → IsCountable form
    → more_by number (minus (old_form form) form) ≡ record { terms = map negative_term form.terms ++ last_term (old_number (is_turned form.terms)) ∷ []; constant = number -ℤ form.constant }
old_less_is form number rule is = λ i. record { terms = old_terms (is_turned form.terms) form rule is i; constant = plain form.constant number i }
  where
    plain : (z number : ℤ) → (pos 1 *ℤ pos 0 +ℤ neg_ℤ (pos 1) *ℤ z) +ℤ number ≡ number -ℤ z
    plain z number = omega (arith, ints)

pub turned_is : (form : Linear) → IsLinear form → IsCountable form
    → minus zero_form form ≡ record { terms = map negative_term form.terms; constant = neg_ℤ form.constant }
turned_is form rule is = λ i. record { terms = terms_are i; constant = plain form.constant i }
  where
    plain : (z : ℤ) → pos 1 *ℤ pos 0 +ℤ neg_ℤ (pos 1) *ℤ z ≡ neg_ℤ z
    plain z = omega (arith, ints)

    terms_are : (minus zero_form form).terms ≡ map negative_term form.terms
    terms_are =
        multiples (neg_ℤ (pos 1)) 0 form.terms [] (subst (RisesFrom 0) (sym (append-nil form.terms)) (linear_rises form rule)) (counted_turned form.terms rule.each)
        ∙ append-nil (map (scaled (neg_ℤ (pos 1))) form.terms) ∙ turned_scaled form.terms

-- the difference is no number more
pub no_more : (form : Linear) → more_by (pos 0) form ≡ form
no_more form = λ i. record { terms = form.terms; constant = plain form.constant i }
  where
    plain : (z : ℤ) → z +ℤ pos 0 ≡ z
    plain z = omega (arith, ints)

-- ---- they are forms

negative_is : (term : Term) → IsTerm term → IsFieldTerm term → IsTerm (negative_term term)
negative_is term is field =
    let small = field.small in
    record { nonzero = omega (arith, ints, is.nonzero); above = small_above term.times small; below = small_below term.times small }
  where
    small_above : (z : ℤ) → is_within (2 ^ 31) z ≡ true → neg_ℤ (pos (2 ^ 95)) ≤ℤ neg_ℤ z
    small_above z small = grind (arith, ints)

    small_below : (z : ℤ) → is_within (2 ^ 31) z ≡ true → neg_ℤ z <ℤ pos (2 ^ 95)
    small_below z small = grind (arith, ints)

last_is : (turned : Bool) → IsTerm (last_term (old_number turned))
last_is true = record { nonzero = λ same. cc same; above = grind (arith, ints); below = grind (arith, ints) }
last_is false = record { nonzero = λ same. cc same; above = grind (arith, ints); below = grind (arith, ints) }

negatives_are : (terms : List Term) → All IsTerm terms → All IsFieldTerm terms → All IsTerm (map negative_term terms)
negatives_are [] each fields = All-nil IsTerm
negatives_are (term ∷ terms) each fields =
    All-cons IsTerm (negative_term term) (map negative_term terms)
    (negative_is term (All-head IsTerm term terms each) (All-head IsFieldTerm term terms fields))
    (negatives_are terms (All-tail IsTerm term terms each) (All-tail IsFieldTerm term terms fields))

negatives_rise : (low : ℕ) (terms tail : List Term) → RisesFrom low (terms ++ tail)
    → RisesFrom low (map negative_term terms ++ tail)
negatives_rise low [] tail rises = rises
negatives_rise low (term ∷ terms) tail rises = (rises.0, negatives_rise (term.place + 1) terms tail rises.1)

pub less_old_linear : (form : Linear) (turned : Bool) → IsLinear form → IsCountable form
    → IsLinear (record { terms = form.terms ++ last_term (old_number turned) ∷ []; constant = form.constant })
less_old_linear form turned rule is = record {
  rising = increasing_from_rises 0 (form.terms ++ last_term (old_number turned) ∷ []) (rises_to_old (old_number turned) 0 form.terms (omega arith) (linear_rises form rule) is.terms);
  each = All-push IsTerm form.terms (last_term (old_number turned)) rule.each (last_is turned);
  above = rule.above;
  below = rule.below;
}

pub old_less_linear : (form : Linear) (turned : Bool) (number : ℤ) → IsLinear form → IsCountable form → is_within 1 number ≡ true
    → IsLinear (record { terms = map negative_term form.terms ++ last_term (old_number turned) ∷ []; constant = number -ℤ form.constant })
old_less_linear form turned number rule is small = record {
  rising = increasing_from_rises 0 (map negative_term form.terms ++ last_term (old_number turned) ∷ [])
      (negatives_rise 0 form.terms (last_term (old_number turned) ∷ []) (rises_to_old (old_number turned) 0 form.terms (omega arith) (linear_rises form rule) is.terms));
  each = All-push IsTerm (map negative_term form.terms) (last_term (old_number turned)) (negatives_are form.terms rule.each is.terms) (last_is turned);
  above = above form.constant number is.constant small;
  below = below form.constant number is.constant small;
}
  where
    above : (z number : ℤ) → is_within (2 ^ 64) z ≡ true → is_within 1 number ≡ true → neg_ℤ (pos (2 ^ 95)) ≤ℤ (number -ℤ z)
    above z number one two = grind (arith, ints)

    below : (z number : ℤ) → is_within (2 ^ 64) z ≡ true → is_within 1 number ≡ true → (number -ℤ z) <ℤ pos (2 ^ 95)
    below z number one two = grind (arith, ints)

pub turned_linear : (form : Linear) → IsLinear form → IsCountable form
    → IsLinear (record { terms = map negative_term form.terms; constant = neg_ℤ form.constant })
turned_linear form rule is = record {
  rising = subst (λ (all : List Term). IsStrictlyIncreasing (map place_of all)) (append-nil (map negative_term form.terms)) (increasing_from_rises 0 (map negative_term form.terms ++ [])
      (negatives_rise 0 form.terms [] (subst (RisesFrom 0) (sym (append-nil form.terms)) (linear_rises form rule))));
  each = negatives_are form.terms rule.each is.terms;
  above = above form.constant is.constant;
  below = below form.constant is.constant;
}
  where
    above : (z : ℤ) → is_within (2 ^ 64) z ≡ true → neg_ℤ (pos (2 ^ 95)) ≤ℤ neg_ℤ z
    above z one = grind (arith, ints)

    below : (z : ℤ) → is_within (2 ^ 64) z ≡ true → neg_ℤ z <ℤ pos (2 ^ 95)
    below z one = grind (arith, ints)

-- ---- numbers of 128 bits are read as they are

low_of : (z : ℤ) → is_within (2 ^ 64) z ≡ true → neg_ℤ (pos (2 ^ 64)) ≤ℤ z
low_of z within = grind (arith, ints)

high_of : (z : ℤ) → is_within (2 ^ 64) z ≡ true → z ≤ℤ pos (2 ^ 64)
high_of z within = grind (arith, ints)

pub read_is : (z k : ℤ) → z ≡ k → is_within (2 ^ 64) k ≡ true → to_z w128 (of_z w128 z) ≡ k
read_is z k same within = ap (λ (x : ℤ). to_z w128 (of_z w128 x)) same ∙ plain k (low_of k within) (high_of k within)
  where
    plain : (k : ℤ) → neg_ℤ (pos (2 ^ 64)) ≤ℤ k → k ≤ℤ pos (2 ^ 64) → to_z w128 (of_z w128 k) ≡ k
    plain k low high = omega (arith, ints)

pub turned_read : (z k : ℤ) → z ≡ k → is_within (2 ^ 64) k ≡ true → to_z w128 (of_z w128 (pos 0 -ℤ to_z w128 (of_z w128 z))) ≡ neg_ℤ k
turned_read z k same within = ap (λ (x : ℤ). to_z w128 (of_z w128 (pos 0 -ℤ to_z w128 (of_z w128 x)))) same ∙ plain k (low_of k within) (high_of k within)
  where
    plain : (k : ℤ) → neg_ℤ (pos (2 ^ 64)) ≤ℤ k → k ≤ℤ pos (2 ^ 64) → to_z w128 (of_z w128 (pos 0 -ℤ to_z w128 (of_z w128 k))) ≡ neg_ℤ k
    plain k low high = omega (arith, ints)

pub less_read : (m z k : ℤ) → is_within 1 m ≡ true → z ≡ k → is_within (2 ^ 64) k ≡ true
    → to_z w128 (of_z w128 (to_z w128 (of_z w128 m) -ℤ to_z w128 (of_z w128 z))) ≡ m -ℤ k
less_read m z k small same within =
    ap (λ (x : ℤ). to_z w128 (of_z w128 (to_z w128 (of_z w128 m) -ℤ to_z w128 (of_z w128 x)))) same ∙ plain m k (low_one m small) (high_one m small) (low_of k within) (high_of k within)
  where
    low_one : (m : ℤ) → is_within 1 m ≡ true → neg_ℤ (pos 1) ≤ℤ m
    low_one m small = grind (arith, ints)

    high_one : (m : ℤ) → is_within 1 m ≡ true → m ≤ℤ pos 1
    high_one m small = grind (arith, ints)

    plain : (m k : ℤ) → neg_ℤ (pos 1) ≤ℤ m → m ≤ℤ pos 1 → neg_ℤ (pos (2 ^ 64)) ≤ℤ k → k ≤ℤ pos (2 ^ 64)
        → to_z w128 (of_z w128 (to_z w128 (of_z w128 m) -ℤ to_z w128 (of_z w128 k))) ≡ m -ℤ k
    plain m k low_m high_m low high = omega (arith, ints)

-- ---- they can be negated

can_times : (z : ℤ) → is_within (2 ^ 31) z ≡ true → can_negate_number z ≡ true
can_times z small = grind (arith, ints)

can_turned_times : (z : ℤ) → is_within (2 ^ 31) z ≡ true → can_negate_number (neg_ℤ z) ≡ true
can_turned_times z small = grind (arith, ints)

can_constant : (z : ℤ) → is_within (2 ^ 64) z ≡ true → can_negate_number z ≡ true
can_constant z small = grind (arith, ints)

can_turned : (z : ℤ) → is_within (2 ^ 64) z ≡ true → can_negate_number (neg_ℤ z) ≡ true
can_turned z small = grind (arith, ints)

can_less : (m z : ℤ) → is_within 1 m ≡ true → is_within (2 ^ 64) z ≡ true → can_negate_number (m -ℤ z) ≡ true
can_less m z small within = grind (arith, ints)

can_terms : (terms : List Term) → All IsFieldTerm terms → list_all can_negate_term terms ≡ true
can_terms [] fields = refl
can_terms (term ∷ terms) fields =
    and_from (can_negate_term term) (list_all can_negate_term terms) (can_times term.times (All-head IsFieldTerm term terms fields).small) (can_terms terms (All-tail IsFieldTerm term terms fields))

can_negatives : (terms tail : List Term) → All IsFieldTerm terms → list_all can_negate_term tail ≡ true
    → list_all can_negate_term (map negative_term terms ++ tail) ≡ true
can_negatives [] tail fields can = can
can_negatives (term ∷ terms) tail fields can =
    and_from (can_negate_term (negative_term term)) (list_all can_negate_term (map negative_term terms ++ tail))
    (can_turned_times term.times (All-head IsFieldTerm term terms fields).small) (can_negatives terms tail (All-tail IsFieldTerm term terms fields) can)

pub form_can : (form : Linear) → IsCountable form → can_negate_linear form ≡ true
form_can form is =
    and_from (list_all can_negate_term form.terms) (can_negate_number form.constant) (can_terms form.terms is.terms) (can_constant form.constant is.constant)

pub old_less_can : (form : Linear) (number : ℤ) → IsLinear form → IsCountable form → is_within 1 number ≡ true
    → can_negate_linear (more_by number (minus (old_form form) form)) ≡ true
old_less_can form number rule is small =
    ap can_negate_linear (old_less_is form number rule is)
    ∙ and_from (list_all can_negate_term (map negative_term form.terms ++ last_term (old_number (is_turned form.terms)) ∷ [])) (can_negate_number (number -ℤ form.constant))
    (can_negatives form.terms (last_term (old_number (is_turned form.terms)) ∷ []) is.terms (last_can (is_turned form.terms))) (can_less number form.constant small is.constant)
  where
    last_can : (turned : Bool) → list_all can_negate_term (last_term (old_number turned) ∷ []) ≡ true
    last_can true = refl
    last_can false = refl

pub turned_can : (form : Linear) → IsLinear form → IsCountable form → can_negate_linear (minus zero_form form) ≡ true
turned_can form rule is =
    ap can_negate_linear (turned_is form rule is)
    ∙ and_from (list_all can_negate_term (map negative_term form.terms)) (can_negate_number (neg_ℤ form.constant))
    (ap (list_all can_negate_term) (sym (append-nil (map negative_term form.terms))) ∙ can_negatives form.terms [] is.terms refl) (can_turned form.constant is.constant)
