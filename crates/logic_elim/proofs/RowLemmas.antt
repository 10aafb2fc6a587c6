-- What is put among rows.
use Rattle.std.proofs.Common.{◌≡◌, ◌⊎◌, inl, inr, ℕ, zero, suc, ◌+◌, ◌<◌, ◌≤◌, ℤ, pos, ◌+ℤ◌, ◌*ℤ◌, ◌≤ℤ◌, ◌<ℤ◌, Bool, true, false, cond, ◌&&◌, ◌||◌, List, [], ◌∷◌, ◌++◌, length, get_or, take, drop, sym, subst, arith, ap, refl, ◌∙◌}
use Rattle.std.specs.Prelude.{int_le, slice_set}
use Rattle.std.specs.List.{list_any, filter, AllByRecursion as Each}
use Rattle.std.specs.Cmp.Lexicographic.{pointwise_decides}
use Rattle.std.proofs.lemmas.Int.{ints}
use Rattle.logic_linear.specs.declared.form.Term.{Term}
use Rattle.logic_linear.specs.Linear.{Linear, same_term}
use Rattle.logic_linear.specs.Truth.{Valuation, sum_of}
use Rattle.logic_elim.specs.declared.rows.Numbered.{Numbered}
use Rattle.logic_elim.specs.Rows.{is_as_tight, same_terms, says_nothing, with_row}
use Rattle.logic_linear.specs.Fractions.{HoldsOver}
use Rattle.logic_elim.specs.Steps.{Apart, RowsHold}
use Rattle.logic_elim.proofs.NumberLemmas.{times_comm, times_none, times_at_most, at_least_zero}

-- ---- lists

pub each_get : {X : Type 0} (P : X → Type 0) (xs : List X) (i : ℕ) (x : X) → i < length xs → x ≡ get_or xs i x → Each P xs → P x
each_get P [] i x h is all = absurd (omega arith)
each_get P (first ∷ xs) zero x h is all = subst P (sym is) all.0
each_get P (first ∷ xs) (suc i) x h is all = each_get P xs i x (omega arith) is all.1

pub each_push : {X : Type 0} (P : X → Type 0) (xs : List X) (x : X) → Each P xs → P x → Each P (xs ++ x ∷ [])
each_push P [] x all h = (h, tt)
each_push P (first ∷ xs) x all h = (all.0, each_push P xs x all.1 h)

pub each_append : {X : Type 0} (P : X → Type 0) (xs ys : List X) → Each P xs → Each P ys → Each P (xs ++ ys)
each_append P [] ys all more = more
each_append P (first ∷ xs) ys all more = (all.0, each_append P xs ys all.1 more)

pub each_first : {X : Type 0} (P : X → Type 0) (xs ys : List X) → Each P (xs ++ ys) → Each P xs
each_first P [] ys all = tt
each_first P (first ∷ xs) ys all = (all.0, each_first P xs ys all.1)

pub each_last : {X : Type 0} (P : X → Type 0) (xs ys : List X) → Each P (xs ++ ys) → Each P ys
each_last P [] ys all = all
each_last P (first ∷ xs) ys all = each_last P xs ys all.1

pub each_weaker : {X : Type 0} (P Q : X → Type 0) → ((x : X) → P x → Q x) → (xs : List X) → Each P xs → Each Q xs
each_weaker P Q weaker [] all = tt
each_weaker P Q weaker (first ∷ xs) all = (weaker first all.0, each_weaker P Q weaker xs all.1)

pub each_filter : {X : Type 0} (P Q : X → Type 0) (test : X → Bool) → ((x : X) → P x → test x ≡ true → Q x) → (xs : List X) → Each P xs → Each Q (filter test xs)
each_filter P Q test passes [] all = tt
each_filter P Q test passes (first ∷ xs) all = by_test (test first) refl (each_filter P Q test passes xs all.1)
  where
    by_test : (passed : Bool) → test first ≡ passed → Each Q (filter test xs) → Each Q (cond passed (first ∷ filter test xs) (filter test xs))
    by_test true e more = (passes first all.0 e, more)
    by_test false e more = more

-- ---- the same terms

same_term_decides : (a b : Term) → (same_term a b ≡ true → a ≡ b) × (a ≡ b → same_term a b ≡ true)
same_term_decides a b = (λ h. grind (arith, ints), λ h. grind (arith, ints))

pub same_terms_decides : (a b : List Term) → (same_terms a b ≡ true → a ≡ b) × (a ≡ b → same_terms a b ≡ true)
same_terms_decides a b = pointwise_decides same_term_decides a b

-- ---- a row among rows

pub set_with : (kept : List Numbered) (new : Numbered) (i : ℕ) (x : Numbered) → i < length kept → x ≡ get_or kept i x → same_terms x.row.terms new.row.terms ≡ true → slice_set kept i new ≡ take i kept ++ with_row (drop i kept) new
set_with [] new i x h is same = absurd (omega arith)
set_with (first ∷ kept) new zero x h is same = by_test (same_terms first.row.terms new.row.terms) (rw is at same)
  where
    by_test : (test : Bool) → test ≡ true → (new ∷ kept) ≡ cond test (new ∷ kept) (first ∷ with_row kept new)
    by_test true e = refl
    by_test false e = absurd cc
set_with (first ∷ kept) new (suc i) x h is same = ap (λ (rows : List Numbered). first ∷ rows) (set_with kept new i x (omega arith) is same)

pub each_with : (P : Numbered → Type 0) (kept : List Numbered) (new : Numbered) → Each P kept → P new → Each P (with_row kept new)
each_with P [] new all h = (h, tt)
each_with P (first ∷ kept) new all h = by_test (same_terms first.row.terms new.row.terms) (each_with P kept new all.1 h)
  where
    by_test : (test : Bool) → Each P (with_row kept new) → Each P (cond test (new ∷ kept) (first ∷ with_row kept new))
    by_test true more = (h, all.1)
    by_test false more = (all.0, more)

pub new_among : (P : Numbered → Type 0) (kept : List Numbered) (new : Numbered) → Each P (with_row kept new) → P new
new_among P [] new all = all.0
new_among P (first ∷ kept) new all = by_test (same_terms first.row.terms new.row.terms) (new_among P kept new) all
  where
    by_test : (test : Bool) → (Each P (with_row kept new) → P new) → Each P (cond test (new ∷ kept) (first ∷ with_row kept new)) → P new
    by_test true later all = all.0
    by_test false later all = later all.1

pub with_length : (kept : List Numbered) (new : Numbered) → length (with_row kept new) ≤ length kept + 1
with_length [] new = omega arith
with_length (first ∷ kept) new = by_test (same_terms first.row.terms new.row.terms) (with_length kept new)
  where
    by_test : (test : Bool) → length (with_row kept new) ≤ length kept + 1 → length (cond test (new ∷ kept) (first ∷ with_row kept new)) ≤ length (first ∷ kept) + 1
    by_test true h = omega arith
    by_test false h = omega arith

pub with_apart : (kept : List Numbered) (new : Numbered) → Apart kept → Apart (with_row kept new)
with_apart [] new apart = (tt, tt)
with_apart (first ∷ kept) new apart = by_test (same_terms first.row.terms new.row.terms) refl (with_apart kept new apart.1)
  where
    Differs : Numbered → Numbered → Type 0
    Differs one other = one.row.terms ≡ other.row.terms → ⊥

    by_test : (test : Bool) → same_terms first.row.terms new.row.terms ≡ test → Apart (with_row kept new) → Apart (cond test (new ∷ kept) (first ∷ with_row kept new))
    by_test true e more =
        let same = (same_terms_decides first.row.terms new.row.terms).0 e in
        (each_weaker (λ (other : Numbered). first.row.terms ≡ other.row.terms → ⊥) (λ (other : Numbered). new.row.terms ≡ other.row.terms → ⊥) (λ other h g. h (same ∙ g)) kept apart.0, apart.1)
    by_test false e more = (each_with (λ (other : Numbered). first.row.terms ≡ other.row.terms → ⊥) kept new apart.0 (λ g. differ ((same_terms_decides first.row.terms new.row.terms).1 g)), more)
      where
        differ : same_terms first.row.terms new.row.terms ≡ true → ⊥
        differ g = absurd cc

-- ---- where rows hold

either_false : (a b : Bool) → (a || b) ≡ false → (a ≡ false) × (b ≡ false)
either_false true b h = absurd cc
either_false false b h = (refl, h)

tighter : (s x y d : ℤ) → (d *ℤ x) ≤ℤ (d *ℤ y) → (s +ℤ y *ℤ d) ≤ℤ pos 0 → (s +ℤ x *ℤ d) ≤ℤ pos 0
tighter s x y d h g = let e = times_comm x d in let f = times_comm y d in omega (arith, ints)

tighter_worth : (v : Valuation) (d : ℤ) → pos 0 <ℤ d → (row other : Linear) → row.terms ≡ other.terms → row.constant ≤ℤ other.constant → HoldsOver v d other → HoldsOver v d row
tighter_worth v d positive row other same low h =
    rw (ap (sum_of v) same) (tighter (sum_of v other.terms) row.constant other.constant d (times_at_most d row.constant other.constant (at_least_zero d positive) low) h)

pub covered : (v : Valuation) (d : ℤ) → pos 0 <ℤ d → (kept : List Numbered) (new : Numbered) → list_any (is_as_tight new.row) kept ≡ false → RowsHold v d (with_row kept new) → RowsHold v d kept
covered v d positive [] new none all = tt
covered v d positive (first ∷ kept) new none all = by_test (same_terms first.row.terms new.row.terms) refl (either_false _ _ none) (covered v d positive kept new) all
  where
    low : int_le new.row.constant first.row.constant ≡ false → first.row.constant ≤ℤ new.row.constant
    low h = grind (arith, ints)

    by_test : (test : Bool) → same_terms first.row.terms new.row.terms ≡ test → (is_as_tight new.row first ≡ false) × (list_any (is_as_tight new.row) kept ≡ false)
        → (list_any (is_as_tight new.row) kept ≡ false → RowsHold v d (with_row kept new) → RowsHold v d kept)
        → RowsHold v d (cond test (new ∷ kept) (first ∷ with_row kept new)) → RowsHold v d (first ∷ kept)
    by_test true e looser later all = (tighter_worth v d positive first.row new.row ((same_terms_decides first.row.terms new.row.terms).0 e) (low (rw e at looser.0)) all.0, all.1)
    by_test false e looser later all = (all.0, later looser.1 all.1)

either_true : (a b : Bool) → (a || b) ≡ true → (a ≡ true) ⊎ (b ≡ true)
either_true true b h = inl refl
either_true false b h = inr h

pub both_true : (a b : Bool) → (a && b) ≡ true → (a ≡ true) × (b ≡ true)
both_true true b h = (refl, h)
both_true false b h = absurd cc

pub known_holds : (v : Valuation) (d : ℤ) → pos 0 <ℤ d → (kept : List Numbered) (row : Linear) → list_any (is_as_tight row) kept ≡ true → RowsHold v d kept → HoldsOver v d row
known_holds v d positive [] row some all = absurd cc
known_holds v d positive (first ∷ kept) row some all = by_cases (either_true _ _ some) (λ h. known_holds v d positive kept row h all.1)
  where
    low : int_le row.constant first.row.constant ≡ true → row.constant ≤ℤ first.row.constant
    low h = grind (arith, ints)

    by_cases : (is_as_tight row first ≡ true) ⊎ (list_any (is_as_tight row) kept ≡ true) → (list_any (is_as_tight row) kept ≡ true → HoldsOver v d row) → HoldsOver v d row
    by_cases (inl h) later = let parts = both_true _ _ h in tighter_worth v d positive row first.row (sym ((same_terms_decides first.row.terms row.terms).0 parts.0)) (low parts.1) all.0
    by_cases (inr h) later = later h

-- A row without variables and with no constant above 0 holds.
pub nothing_holds : (v : Valuation) (d : ℤ) → pos 0 <ℤ d → (row : Linear) → says_nothing row ≡ true → HoldsOver v d row
nothing_holds v d positive row h = by_terms row.terms refl
  where
    low : (c : ℤ) → int_le c (pos 0) ≡ true → c ≤ℤ pos 0
    low c h = grind (arith, ints)

    flat : (c : ℤ) → c ≤ℤ pos 0 → (pos 0 +ℤ c *ℤ d) ≤ℤ pos 0
    flat c h = by_product (c *ℤ d) (d *ℤ c) (d *ℤ pos 0) (times_comm c d) (times_none d) (times_at_most d c (pos 0) (at_least_zero d positive) h)
      where
        by_product : (x y z : ℤ) → x ≡ y → z ≡ pos 0 → y ≤ℤ z → (pos 0 +ℤ x) ≤ℤ pos 0
        by_product x y z e f h = omega (arith, ints)

    by_terms : (terms : List Term) → row.terms ≡ terms → HoldsOver v d row
    by_terms [] is = rw is (flat row.constant (low row.constant (rw is at h)))
    by_terms (term ∷ terms) is = let no : false ≡ true = (rw is at h) in absurd cc
