-- A difference row stays one where it is negated, moved to a client that waits, or has a simple
-- form put in.
use Rattle.std.proofs.Common.{◌≡◌, ◌⊎◌, inl, inr, ℕ, ◌==◌, ℤ, pos, neg_ℤ, ◌+ℤ◌, Bool, true, false, not, cond, ◌&&◌, ◌||◌, List, [], ◌∷◌, map, refl, sym, subst}
use Rattle.std.specs.Prelude.{nat_lt}
use Rattle.std.specs.List.{filter}
use Rattle.std.specs.Ordering.{int_eq}
use Rattle.std.proofs.lemmas.Bool.Decides.{Decides-int_eq}
use Rattle.logic_linear.specs.declared.form.Term.{Term}
use Rattle.logic_linear.specs.Differences.{is_difference}
use Rattle.logic_linear.specs.Linear.{Linear}
use Rattle.logic_linear.specs.Negation.{negative_term, one_less}
use Rattle.logic_linear.specs.Substitution.{replaced, times_at, is_other}
use Rattle.logic_linear.specs.Sums.{plus_multiple, with_term}
use Rattle.lang_monitor.specs.Queries.{waiting_form, waiting_place, waiting_term}
use Rattle.logic_wp.specs.PlainClaims.{are_simple_terms}

abbrev up : ℕ → Term
up place = record { place = place; times = pos 1 }

abbrev down : ℕ → Term
down place = record { place = place; times = neg_ℤ (pos 1) }

-- the terms of a difference row
data AreDifferences : List Term → Type 0 where
  none : AreDifferences []
  plus : (place : ℕ) → AreDifferences (up place ∷ [])
  minus : (place : ℕ) → AreDifferences (down place ∷ [])
  plus_minus : (place other : ℕ) → AreDifferences (up place ∷ down other ∷ [])
  minus_plus : (place other : ℕ) → AreDifferences (down place ∷ up other ∷ [])

told : (form : Linear) → AreDifferences form.terms → is_difference form ≡ true
told form is = of is
  where
    of : {terms : List Term} → AreDifferences terms → is_difference (record { terms = terms; constant = pos 0 }) ≡ true
    of none = refl
    of (plus place) = refl
    of (minus place) = refl
    of (plus_minus place other) = refl
    of (minus_plus place other) = refl

same_number : (number other : ℤ) → int_eq number other ≡ true → number ≡ other
same_number number other e = (Decides-int_eq number other).0 e

one_of : (p m : Bool) → (false || ((p && true) || ((m && true) || ((p && false) || ((m && false) || false))))) ≡ true → (p ≡ true) ⊎ (m ≡ true)
one_of true m e = inl refl
one_of false true e = inr refl
one_of false false e = absurd cc

two_of : (p m q n : Bool) → (false || ((p && false) || ((m && false) || ((p && (n && true)) || ((m && (q && true)) || false))))) ≡ true
    → ((p ≡ true) × (n ≡ true)) ⊎ ((m ≡ true) × (q ≡ true))
two_of true m q true e = inl (refl, refl)
two_of true true true false e = inr (refl, refl)
two_of false true true n e = inr (refl, refl)
two_of true true false false e = absurd cc
two_of true false q false e = absurd cc
two_of false true false n e = absurd cc
two_of false false q n e = absurd cc

no_more : (a : Bool) → (a && false) ≡ false
no_more true = refl
no_more false = refl

no_more_of : (a b : Bool) → (a && (b && false)) ≡ false
no_more_of a true = no_more a
no_more_of a false = no_more a

never : (a b c d : Bool) → a ≡ false → b ≡ false → c ≡ false → d ≡ false → (false || (a || (b || (c || (d || false))))) ≡ true → ⊥
never true b c d e f g h is = absurd cc
never false true c d e f g h is = absurd cc
never false false true d e f g h is = absurd cc
never false false false true e f g h is = absurd cc
never false false false false e f g h is = absurd cc

of_both : {a b : ℤ} (term next : Term) → term.times ≡ a → next.times ≡ b → AreDifferences (record { place = term.place; times = a } ∷ record { place = next.place; times = b } ∷ [])
    → AreDifferences (term ∷ next ∷ [])
of_both {a} term next e f is =
    subst (λ (n : ℤ). AreDifferences (record { place = term.place; times = n } ∷ next ∷ [])) (sym e)
    (subst (λ (n : ℤ). AreDifferences (record { place = term.place; times = a } ∷ record { place = next.place; times = n } ∷ [])) (sym f) is)

differences : (terms : List Term) → is_difference (record { terms = terms; constant = pos 0 }) ≡ true → AreDifferences terms
differences [] e = none
differences (term ∷ []) e = elim (one_of (int_eq term.times (pos 1)) (int_eq term.times (neg_ℤ (pos 1))) e) [
  | inl p ↦ subst (λ (n : ℤ). AreDifferences (record { place = term.place; times = n } ∷ [])) (sym (same_number term.times (pos 1) p)) (plus term.place)
  | inr m ↦ subst (λ (n : ℤ). AreDifferences (record { place = term.place; times = n } ∷ [])) (sym (same_number term.times (neg_ℤ (pos 1)) m)) (minus term.place)
]
differences (term ∷ next ∷ []) e =
    elim (two_of (int_eq term.times (pos 1)) (int_eq term.times (neg_ℤ (pos 1))) (int_eq next.times (pos 1)) (int_eq next.times (neg_ℤ (pos 1))) e) [
      | inl both ↦ of_both term next (same_number term.times (pos 1) both.0) (same_number next.times (neg_ℤ (pos 1)) both.1) (plus_minus term.place next.place)
      | inr both ↦ of_both term next (same_number term.times (neg_ℤ (pos 1)) both.0) (same_number next.times (pos 1) both.1) (minus_plus term.place next.place)
    ]
differences (term ∷ next ∷ third ∷ more) e =
    let p = int_eq term.times (pos 1) in
    let m = int_eq term.times (neg_ℤ (pos 1)) in
    let q = int_eq next.times (pos 1) in
    let n = int_eq next.times (neg_ℤ (pos 1)) in
    absurd (never (p && false) (m && false) (p && (n && false)) (m && (q && false)) (no_more p) (no_more m) (no_more_of p n) (no_more_of m q) e)

-- ---- negated, and for a client that waits

negated_terms : {terms : List Term} → AreDifferences terms → AreDifferences (map negative_term terms)
negated_terms none = none
negated_terms (plus place) = minus place
negated_terms (minus place) = plus place
negated_terms (plus_minus place other) = minus_plus place other
negated_terms (minus_plus place other) = plus_minus place other

pub negated_row : (form : Linear) → is_difference form ≡ true → is_difference (one_less form) ≡ true
negated_row form e = told (one_less form) (negated_terms (differences form.terms e))

waiting_terms : {terms : List Term} → AreDifferences terms → AreDifferences (map waiting_term terms)
waiting_terms none = none
waiting_terms (plus place) = plus (waiting_place place)
waiting_terms (minus place) = minus (waiting_place place)
waiting_terms (plus_minus place other) = plus_minus (waiting_place place) (waiting_place other)
waiting_terms (minus_plus place other) = minus_plus (waiting_place place) (waiting_place other)

pub waiting_row : (form : Linear) → is_difference form ≡ true → is_difference (waiting_form form) ≡ true
waiting_row form e = told (waiting_form form) (waiting_terms (differences form.terms e))

-- ---- with another variable

-- none of it, added to a row
plus_none : {terms : List Term} (place : ℕ) → AreDifferences terms → AreDifferences (with_term place (pos 0) terms)
plus_none place none = none
plus_none place (plus at) = by_tests (nat_lt place at) (place == at)
  where
    by_tests : (less same : Bool) → AreDifferences (cond less (up at ∷ []) (cond same (up place ∷ []) (up at ∷ [])))
    by_tests true same = plus at
    by_tests false true = plus place
    by_tests false false = plus at
plus_none place (minus at) = by_tests (nat_lt place at) (place == at)
  where
    by_tests : (less same : Bool) → AreDifferences (cond less (down at ∷ []) (cond same (down place ∷ []) (down at ∷ [])))
    by_tests true same = minus at
    by_tests false true = minus place
    by_tests false false = minus at
plus_none place (plus_minus at other) = by_tests (nat_lt place at) (place == at) (nat_lt place other) (place == other)
  where
    by_tests : (less same less_next same_next : Bool)
        → AreDifferences (cond less (up at ∷ down other ∷ []) (cond same (up place ∷ down other ∷ [])
        (up at ∷ cond less_next (down other ∷ []) (cond same_next (down place ∷ []) (down other ∷ [])))))
    by_tests true same less_next same_next = plus_minus at other
    by_tests false true less_next same_next = plus_minus place other
    by_tests false false true same_next = plus_minus at other
    by_tests false false false true = plus_minus at place
    by_tests false false false false = plus_minus at other
plus_none place (minus_plus at other) = by_tests (nat_lt place at) (place == at) (nat_lt place other) (place == other)
  where
    by_tests : (less same less_next same_next : Bool)
        → AreDifferences (cond less (down at ∷ up other ∷ []) (cond same (down place ∷ up other ∷ [])
        (down at ∷ cond less_next (up other ∷ []) (cond same_next (up place ∷ []) (up other ∷ [])))))
    by_tests true same less_next same_next = minus_plus at other
    by_tests false true less_next same_next = minus_plus place other
    by_tests false false true same_next = minus_plus at other
    by_tests false false false true = minus_plus at place
    by_tests false false false false = minus_plus at other

-- the one, added to the other
plus_up : (place other : ℕ) → AreDifferences (with_term place (pos 1) (down other ∷ []))
plus_up place other = by_tests (nat_lt place other) (place == other)
  where
    by_tests : (less same : Bool) → AreDifferences (cond less (up place ∷ down other ∷ []) (cond same [] (down other ∷ up place ∷ [])))
    by_tests true same = plus_minus place other
    by_tests false true = none
    by_tests false false = minus_plus other place

plus_down : (place other : ℕ) → AreDifferences (with_term place (neg_ℤ (pos 1)) (up other ∷ []))
plus_down place other = by_tests (nat_lt place other) (place == other)
  where
    by_tests : (less same : Bool) → AreDifferences (cond less (down place ∷ up other ∷ []) (cond same [] (up other ∷ down place ∷ [])))
    by_tests true same = minus_plus place other
    by_tests false true = none
    by_tests false false = plus_minus other place

once : {terms : List Term} → AreDifferences terms → AreDifferences (plus_multiple (pos 1) terms [])
once none = none
once (plus place) = plus place
once (minus place) = minus place
once (plus_minus place other) = plus_up place other
once (minus_plus place other) = plus_down place other

-- ---- a simple form put in

-- a simple form has none, or one variable
data AreSimple : List Term → Type 0 where
  constant : AreSimple []
  variable : (place : ℕ) → AreSimple (up place ∷ [])

simple : (terms : List Term) → are_simple_terms terms ≡ true → AreSimple terms
simple [] e = constant
simple (term ∷ []) e = subst (λ (n : ℤ). AreSimple (record { place = term.place; times = n } ∷ [])) (sym (same_number term.times (pos 1) e)) (variable term.place)
simple (term ∷ next ∷ more) e = absurd cc

none_of : {bys terms : List Term} → AreSimple bys → AreDifferences terms → AreDifferences (plus_multiple (pos 0) bys terms)
none_of constant is = is
none_of (variable place) is = plus_none place is

up_of : {bys : List Term} → AreSimple bys → AreDifferences (plus_multiple (pos 1) bys [])
up_of constant = none
up_of (variable place) = plus place

down_of : {bys : List Term} → AreSimple bys → AreDifferences (plus_multiple (neg_ℤ (pos 1)) bys [])
down_of constant = none
down_of (variable place) = minus place

up_beside : {bys : List Term} (other : ℕ) → AreSimple bys → AreDifferences (plus_multiple (pos 1) bys (down other ∷ []))
up_beside other constant = minus other
up_beside other (variable place) = plus_up place other

down_beside : {bys : List Term} (other : ℕ) → AreSimple bys → AreDifferences (plus_multiple (neg_ℤ (pos 1)) bys (up other ∷ []))
down_beside other constant = plus other
down_beside other (variable place) = plus_down place other

put_in : {bys terms : List Term} (place : ℕ) → AreSimple bys → AreDifferences terms
    → AreDifferences (plus_multiple (times_at place terms) bys (plus_multiple (pos 1) (filter (is_other place) terms) []))
put_in place are none = none_of are none
put_in {bys} place are (plus at) = by_test (at == place)
  where
    by_test : (here : Bool) → AreDifferences (plus_multiple (cond here (pos 1) (pos 0)) bys (plus_multiple (pos 1) (cond (not here) (up at ∷ []) []) []))
    by_test true = up_of are
    by_test false = none_of are (plus at)
put_in {bys} place are (minus at) = by_test (at == place)
  where
    by_test : (here : Bool) → AreDifferences (plus_multiple (cond here (neg_ℤ (pos 1)) (pos 0)) bys (plus_multiple (pos 1) (cond (not here) (down at ∷ []) []) []))
    by_test true = down_of are
    by_test false = none_of are (minus at)
put_in {bys} place are (plus_minus at other) = by_tests (at == place) (other == place)
  where
    by_tests : (here there : Bool)
        → AreDifferences (plus_multiple (cond here (pos 1 +ℤ cond there (neg_ℤ (pos 1)) (pos 0)) (cond there (neg_ℤ (pos 1)) (pos 0))) bys
        (plus_multiple (pos 1) (cond (not here) (up at ∷ cond (not there) (down other ∷ []) []) (cond (not there) (down other ∷ []) [])) []))
    by_tests true true = none_of are none
    by_tests true false = up_beside other are
    by_tests false true = down_beside at are
    by_tests false false = none_of are (plus_up at other)
put_in {bys} place are (minus_plus at other) = by_tests (at == place) (other == place)
  where
    by_tests : (here there : Bool)
        → AreDifferences (plus_multiple (cond here (neg_ℤ (pos 1) +ℤ cond there (pos 1) (pos 0)) (cond there (pos 1) (pos 0))) bys
        (plus_multiple (pos 1) (cond (not here) (down at ∷ cond (not there) (up other ∷ []) []) (cond (not there) (up other ∷ []) [])) []))
    by_tests true true = none_of are none
    by_tests true false = down_beside other are
    by_tests false true = up_beside at are
    by_tests false false = none_of are (plus_down at other)

pub replaced_row : (place : ℕ) (by form : Linear) → are_simple_terms by.terms ≡ true → is_difference form ≡ true → is_difference (replaced place by form) ≡ true
replaced_row place by form e f = told (replaced place by form) (put_in place (simple by.terms e) (differences form.terms f))
