-- Rows that a chain refutes have no solution in fractions.
use Rattle.std.proofs.Common.{◌≡◌, ◌⊎◌, inl, inr, ⊎_elim, ℕ, zero, suc, ℤ, pos, ◌+ℤ◌, ◌*ℤ◌, ◌≤ℤ◌, ◌<ℤ◌, Bool, true, false, cond, ◌&&◌, List, [], ◌∷◌, ◌++◌, map, Option, Some, None, sym, subst, arith, refl}
use Rattle.std.specs.Prelude.{int_le, int_lt, slice_get}
use Rattle.std.specs.List.{AllByRecursion as Each}
use Rattle.std.proofs.lemmas.Int.{ints}
use Rattle.logic_linear.specs.declared.form.Term.{Term}
use Rattle.logic_linear.specs.Linear.{Linear}
use Rattle.logic_linear.specs.Truth.{Valuation}
use Rattle.logic_linear.specs.Sums.{sum_of_multiples, sum_fits}
use Rattle.logic_cert.specs.declared.cert.Combine.{Combine}
use Rattle.logic_cert.specs.Refutes.{made_of, made, is_absurd, chain_goes, is_nil, chain_closes}
use Rattle.logic_linear.specs.Fractions.{worth, HoldsOver, HasFractionalSolution}
use Rattle.logic_elim.proofs.NumberLemmas.{times_nonpositive, both_nonpositive, positive_product}
use Rattle.logic_elim.proofs.FractionLemmas.{sum_worth}

-- a row, where there is one, holds
abbrev RowHolds : Valuation → ℤ → Option Linear → Type 0
RowHolds v d None = Unit {0}
RowHolds v d (Some form) = HoldsOver v d form

abbrev RowsHold : Valuation → ℤ → List (Option Linear) → Type 0
RowsHold v d rows = (i : ℕ) (row : Option Linear) → slice_get rows i ≡ Some row → RowHolds v d row

made_holds : (v : Valuation) (d : ℤ) (combine : Combine) (left right : Option (Option Linear)) → ((row : Option Linear) → left ≡ Some row → RowHolds v d row) → ((row : Option Linear) → right ≡ Some row → RowHolds v d row) → RowHolds v d (made_of combine left right)
made_holds v d combine None right h g = tt
made_holds v d combine (Some None) right h g = tt
made_holds v d combine (Some (Some left)) None h g = tt
made_holds v d combine (Some (Some left)) (Some None) h g = tt
made_holds v d combine (Some (Some left)) (Some (Some right)) h g = by_test (int_le (pos 0) combine.left_times) (int_le (pos 0) combine.right_times) (sum_fits combine.left_times left combine.right_times right) refl refl
  where
    by_test : (a b c : Bool) → int_le (pos 0) combine.left_times ≡ a → int_le (pos 0) combine.right_times ≡ b → RowHolds v d (cond ((a && b) && c) (Some (sum_of_multiples combine.left_times left combine.right_times right)) None)
    by_test true true true e f =
        subst (λ (n : ℤ). n ≤ℤ pos 0) (sym (sum_worth v d combine.left_times left combine.right_times right))
        (both_nonpositive _ _ (times_nonpositive combine.left_times (worth v d left) (grind (arith, ints)) (h (Some left) refl)) (times_nonpositive combine.right_times (worth v d right) (grind (arith, ints)) (g (Some right) refl)))
    by_test true true false e f = tt
    by_test true false c e f = tt
    by_test false b c e f = tt

get_push : (rows : List (Option Linear)) (new : Option Linear) (i : ℕ) (row : Option Linear) → slice_get (rows ++ new ∷ []) i ≡ Some row → (slice_get rows i ≡ Some row) ⊎ (new ≡ row)
get_push [] new zero row h = inr cc
get_push [] new (suc i) row h = absurd cc
get_push (first ∷ rows) new zero row h = inl h
get_push (first ∷ rows) new (suc i) row h = get_push rows new i row h

push_holds : (v : Valuation) (d : ℤ) (rows : List (Option Linear)) (new : Option Linear) → RowsHold v d rows → RowHolds v d new → RowsHold v d (rows ++ new ∷ [])
push_holds v d rows new h g i row e = ⊎_elim (λ (old : slice_get rows i ≡ Some row). h i row old) (λ (is : new ≡ row). subst (RowHolds v d) is g) (get_push rows new i row e)

above_zero : (c d : ℤ) → int_lt (pos 0) c ≡ true → pos 0 <ℤ d → (pos 0 +ℤ c *ℤ d) ≤ℤ pos 0 → ⊥
above_zero c d e positive low = let high = positive_product c d (grind (arith, ints)) positive in over (c *ℤ d) high low
  where
    over : (n : ℤ) → pos 0 <ℤ n → (pos 0 +ℤ n) ≤ℤ pos 0 → ⊥
    over n h g = absurd (omega (arith, ints))

not_absurd : (v : Valuation) (d : ℤ) (row : Linear) → pos 0 <ℤ d → HoldsOver v d row → is_absurd row ≡ true → ⊥
not_absurd v d row positive h e = by_terms row.terms refl
  where
    by_terms : (terms : List Term) → row.terms ≡ terms → ⊥
    by_terms [] is = let low : (pos 0 +ℤ row.constant *ℤ d) ≤ℤ pos 0 = (rw is at h) in let high : int_lt (pos 0) row.constant ≡ true = (rw is at e) in above_zero row.constant d high positive low
    by_terms (term ∷ terms) is = let no : false ≡ true = (rw is at e) in absurd cc

chain_fails : (v : Valuation) (d : ℤ) → pos 0 <ℤ d → (combines : List Combine) (rows : List (Option Linear)) → RowsHold v d rows → chain_closes combines rows ≡ true → ⊥
chain_fails v d positive [] rows h e = absurd cc
chain_fails v d positive (combine ∷ combines) rows h e = by_row (made combine rows) (is_nil combines) (made_holds v d combine (slice_get rows combine.left) (slice_get rows combine.right) (h combine.left) (h combine.right)) (λ rows h e. chain_fails v d positive combines rows h e) e
  where
    by_row : (row : Option Linear) (is_last : Bool) → RowHolds v d row → ((rows : List (Option Linear)) → RowsHold v d rows → chain_closes combines rows ≡ true → ⊥) → chain_goes (chain_closes combines) rows is_last row ≡ true → ⊥
    by_row None is_last g more e = absurd cc
    by_row (Some row) true g more e = not_absurd v d row positive g e
    by_row (Some row) false g more e = more (rows ++ Some row ∷ []) (push_holds v d rows (Some row) h g) e

rows_hold : (v : Valuation) (d : ℤ) (rows : List Linear) → Each (HoldsOver v d) rows → RowsHold v d (map Some rows)
rows_hold v d [] h i row e = absurd cc
rows_hold v d (first ∷ rows) h zero row e = let same : Some first ≡ row = cc in subst (RowHolds v d) same h.0
rows_hold v d (first ∷ rows) h (suc i) row e = rows_hold v d rows h.1 i row e

pub no_solution : (combines : List Combine) (rows : List Linear) → chain_closes combines (map Some rows) ≡ true → HasFractionalSolution rows → ⊥
no_solution combines rows closes solution = chain_fails solution.numerators solution.denominator solution.positive combines (map Some rows) (rows_hold solution.numerators solution.denominator rows solution.each) closes
