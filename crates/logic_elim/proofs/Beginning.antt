-- The rows to begin with, under their numbers, and what the end says of them.
use Rattle.std.specs.Global.{Global}
use Rattle.std.proofs.Common.{◌≡◌, ℕ, zero, suc, ◌+◌, ◌<◌, ◌≤◌, ◌^◌, ℤ, pos, neg_ℤ, ◌+ℤ◌, ◌*ℤ◌, ◌≤ℤ◌, ◌<ℤ◌, Bool, true, false, ◌&&◌, List, [], ◌∷◌, ◌++◌, length, map, take, get_or, lit≤, Option, Some, None, sym, subst, arith, ap, refl, ◌∙◌}
use Rattle.std.specs.Prelude.{Vec, ◌↔◌, int_le, int_lt, slice_get}
use Rattle.std.specs.List.{AllByRecursion as Each}
use Rattle.std.proofs.lemmas.Int.{ints}
use Rattle.logic_linear.specs.declared.form.Term.{Term}
use Rattle.logic_linear.specs.Linear.{Linear, IsLinear}
use Rattle.logic_linear.specs.Places.{HasPlaces}
use Rattle.logic_linear.specs.Sums.{sum_of_multiples, sum_fits, fits_128}
use Rattle.logic_cert.specs.declared.cert.Combine.{Combine}
use Rattle.logic_cert.specs.Refutes.{chain_closes, is_absurd, made_of}
use Rattle.logic_elim.specs.declared.rows.Numbered.{Numbered}
use Rattle.logic_linear.specs.Fractions.{HasFractionalSolution}
use Rattle.logic_linear.specs.LightCubes.{IsLightCube}
use Rattle.logic_elim.specs.Begins.{IsSane, AreNumbered, IsBegin, IsPlaceOf}
use Rattle.logic_elim.specs.Chains.{HasNumber, State, StandsAtNumbers, rows_in}
use Rattle.logic_elim.proofs.RowLemmas.{each_get, each_push}
use Rattle.logic_elim.proofs.Lists.{take_next, map_append, map_length}
use Rattle.logic_elim.proofs.EliminationLemmas.{each_mapped}
use Rattle.logic_elim.proofs.Soundness.{no_solution}

-- ---- a place

pub place_found : (kept : List Numbered) (i : ℕ) (numbered : Numbered) (place : ℕ) → i < length kept → numbered ≡ get_or kept i numbered → IsPlaceOf (numbered.row ∷ []) (Some place) → IsPlaceOf (rows_in kept) (Some place)
place_found kept i numbered place h is found places all =
    found places (each_get (λ (one : Numbered). HasPlaces places one.row.terms) kept i numbered h is (each_mapped (λ (row : Linear). HasPlaces places row.terms) (λ one. one.row) kept all), tt)

-- ---- the rows under their numbers

gets : {X : Type 0} (xs : List X) (i : ℕ) (x : X) → i < length xs → x ≡ get_or xs i x → slice_get (map Some xs) i ≡ Some (Some x)
gets [] i x h is = absurd (omega arith)
gets (first ∷ xs) zero x h is = ap (λ one. Some (Some one)) (sym is)
gets (first ∷ xs) (suc i) x h is = gets xs i x (omega arith) is

pub one_more_row : (all : List Linear) (i : ℕ) (row : Linear) (kept after : List Numbered) (one : Numbered) → i < length all → row ≡ get_or all i row → one.number ≡ i → one.row ≡ row → IsLinear row → after ≡ kept ++ one ∷ []
    → AreNumbered all (take i all) kept → AreNumbered all (take (i + 1) all) after
one_more_row all i row kept after one h is number same linear pushed so = record {
  rows = ap rows_in pushed ∙ map_append (λ numbered. numbered.row) kept (one ∷ []) ∙ both_ends (rows_in kept) (take i all) one.row row so.rows same ∙ sym (take_next all i row h is);
  numbers = subst (Each (HasNumber (map Some all))) (sym pushed) (each_push (HasNumber (map Some all)) kept one so.numbers (ap (slice_get (map Some all)) number ∙ gets all i row h is ∙ ap (λ (row : Linear). Some (Some row)) (sym same)));
  each = subst (Each IsLinear) (sym (take_next all i row h is)) (each_push IsLinear (take i all) row so.each linear);
}
  where
    both_ends : (xs ys : List Linear) (x y : Linear) → xs ≡ ys → x ≡ y → xs ++ x ∷ [] ≡ ys ++ y ∷ []
    both_ends xs ys x y e f = rw (e, f) refl

-- ---- the beginning

pub begins : (rows : List Linear) (kept : List Numbered) (state : State) → IsLightCube rows → Each IsSane rows → AreNumbered rows rows kept → state.kept ≡ kept → state.next ≡ length rows → IsBegin state
begins rows kept state light sane numbered kept_is next_is =
    let same = ap rows_in kept_is ∙ numbered.rows in
    let few = light.few_rows in
    record {
      light = subst IsLightCube (sym same) light;
      each = subst (Each IsLinear) (sym same) numbered.each;
      sane = subst (Each IsSane) (sym same) sane;
      few = omega arith;
    }

pub stands : (rows : List Linear) (kept : List Numbered) (combines : List Combine) (next : ℕ) → AreNumbered rows rows kept → combines ≡ [] → next ≡ length rows → StandsAtNumbers (map Some rows) [] (record { kept = kept; combines = combines; next = next })
stands rows kept combines next numbered none next_is =
    subst (λ (some : List Combine). StandsAtNumbers (map Some rows) [] (record { kept = kept; combines = some; next = next })) (sym none)
    (record { made = refl; count = map_length Some rows ∙ sym next_is; others_stand = tt; kept_stand = numbered.numbers })

-- ---- the end

pub none_exactly : (combines : Vec Combine Global) (rows : List Linear) → chain_closes combines.items (map Some rows) ≡ true → (Some combines ≡ None) ↔ HasFractionalSolution rows
none_exactly combines rows closes = (λ e. absurd cc, λ solution. absurd (no_solution combines.items rows closes solution))

-- ---- absurd rows

empty_form : (form : Linear) → is_absurd form ≡ true → (form ≡ record { terms = []; constant = form.constant }) × (int_lt (pos 0) form.constant ≡ true)
empty_form form e = by_terms form.terms refl
  where
    by_terms : (terms : List Term) → form.terms ≡ terms → (form ≡ record { terms = []; constant = form.constant }) × (int_lt (pos 0) form.constant ≡ true)
    by_terms [] is = ((λ i. record { terms = is i; constant = form.constant }), let high : int_lt (pos 0) form.constant ≡ true = (rw is at e) in high)
    by_terms (term ∷ terms) is = let no : false ≡ true = (rw is at e) in absurd cc

fits_bounds : (p q : ℕ) (c : ℤ) → p ≤ q → neg_ℤ (pos p) ≤ℤ c → c <ℤ pos p → (int_le (neg_ℤ (pos q)) c && int_lt c (pos q)) ≡ true
fits_bounds p q c h above below = grind (arith, ints)

three : (a b c : Bool) → a ≡ true → b ≡ true → c ≡ true → (true && (a && (b && c))) ≡ true
three a b c h g k = rw (h, g, k) refl

absurd_fits : (c : ℤ) → fits_128 c ≡ true → sum_fits (pos 1) (record { terms = []; constant = c }) (pos 0) (record { terms = []; constant = c }) ≡ true
absurd_fits c fits =
    let one : pos 1 *ℤ c ≡ c = omega (arith, ints) in
    let none : pos 0 *ℤ c ≡ pos 0 = omega (arith, ints) in
    let both : c +ℤ pos 0 ≡ c = omega (arith, ints) in
    let zero_fits : fits_128 (pos 0) ≡ true = refl in
    rw (one, none, both) (three (fits_128 c) (fits_128 (pos 0)) (fits_128 c) fits zero_fits fits)

absurd_made : (c : ℤ) (i : ℕ) → fits_128 c ≡ true
    → made_of (record { left = i; left_times = pos 1; right = i; right_times = pos 0 }) (Some (Some (record { terms = []; constant = c }))) (Some (Some (record { terms = []; constant = c })))
    ≡ Some (sum_of_multiples (pos 1) (record { terms = []; constant = c }) (pos 0) (record { terms = []; constant = c }))
absurd_made c i fits = rw (absurd_fits c fits) refl

sum_positive : (c : ℤ) → int_lt (pos 0) c ≡ true → int_lt (pos 0) (pos 1 *ℤ c +ℤ pos 0 *ℤ c) ≡ true
sum_positive c h = let same : pos 1 *ℤ c +ℤ pos 0 *ℤ c ≡ c = omega (arith, ints) in rw same h

absurd_chain : (rows : List (Option Linear)) (c : ℤ) (i : ℕ) → fits_128 c ≡ true → int_lt (pos 0) c ≡ true → slice_get rows i ≡ Some (Some (record { terms = []; constant = c }))
    → chain_closes (record { left = i; left_times = pos 1; right = i; right_times = pos 0 } ∷ []) rows ≡ true
absurd_chain rows c i fits high is = rw (is, absurd_made c i fits) (sum_positive c high)

pub absurd_found : (rows : List Linear) (i : ℕ) (row : Linear) → i < length rows → row ≡ get_or rows i row → is_absurd row ≡ true → IsLinear row
    → chain_closes (record { left = i; left_times = pos 1; right = i; right_times = pos 0 } ∷ []) (map Some rows) ≡ true
absurd_found rows i row h is e linear =
    let empty = empty_form row e in
    absurd_chain (map Some rows) row.constant i (fits_bounds (2 ^ 95) (2 ^ 127) row.constant (lit≤ tt) linear.above linear.below) empty.1
    (gets rows i row h is ∙ ap (λ (one : Linear). Some (Some one)) empty.0)
