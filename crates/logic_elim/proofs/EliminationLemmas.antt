-- Rows have a solution in fractions exactly where those have one that are left when a variable is
-- eliminated.
use Rattle.std.proofs.Common.{◌≡◌, ℕ, ℤ, pos, neg_ℤ, ◌+ℤ◌, ◌*ℤ◌, ◌≤ℤ◌, ◌<ℤ◌, Bool, true, false, not, cond, ◌&&◌, List, [], ◌∷◌, map, sym, arith}
use Rattle.std.specs.Prelude.{int_lt}
use Rattle.std.specs.List.{filter, flat_map, AllByRecursion as Each}
use Rattle.std.proofs.lemmas.Int.{ints}
use Rattle.logic_linear.specs.Linear.{Linear}
use Rattle.logic_linear.specs.Truth.{Valuation}
use Rattle.logic_linear.proofs.SubstitutionLemmas.{at_place}
use Rattle.logic_elim.specs.Eliminations.{is_upper, is_lower, is_free, sum_row, sums_of_upper, sums_of_sides, eliminated}
use Rattle.logic_linear.specs.Fractions.{worth, HoldsOver, HasFractionalSolution}
use Rattle.logic_elim.proofs.RowLemmas.{each_append, each_first, each_last}
use Rattle.logic_elim.proofs.RowLemmas.{each_weaker, each_filter}
use Rattle.logic_elim.proofs.NumberLemmas.{times_nonpositive, both_nonpositive, positive_product}
use Rattle.logic_elim.proofs.FractionLemmas.{sum_worth, times_all, rest_of, times_in, chosen_worth, here_worth, pair_worth}
use Rattle.logic_elim.proofs.Choosing.{each_both, HoldsWith, BoundsAbove, BoundsBelow, PairHolds, choose}

-- ---- lists

pub each_map : {X Y : Type 0} (P : Y → Type 0) (f : X → Y) (xs : List X) → Each (λ (x : X). P (f x)) xs → Each P (map f xs)
each_map P f [] all = tt
each_map P f (x ∷ xs) all = (all.0, each_map P f xs all.1)

pub each_mapped : {X Y : Type 0} (P : Y → Type 0) (f : X → Y) (xs : List X) → Each P (map f xs) → Each (λ (x : X). P (f x)) xs
each_mapped P f [] all = tt
each_mapped P f (x ∷ xs) all = (all.0, each_mapped P f xs all.1)

pub each_flat : {X Y : Type 0} (P : Y → Type 0) (f : X → List Y) (xs : List X) → Each (λ (x : X). Each P (f x)) xs → Each P (flat_map f xs)
each_flat P f [] all = tt
each_flat P f (x ∷ xs) all = each_append P (f x) (flat_map f xs) all.0 (each_flat P f xs all.1)

pub each_flattened : {X Y : Type 0} (P : Y → Type 0) (f : X → List Y) (xs : List X) → Each P (flat_map f xs) → Each (λ (x : X). Each P (f x)) xs
each_flattened P f [] all = tt
each_flattened P f (x ∷ xs) all = (each_first P (f x) (flat_map f xs) all, each_flattened P f xs (each_last P (f x) (flat_map f xs) all))

pub each_always : {X : Type 0} (P : X → Type 0) → ((x : X) → P x) → (xs : List X) → Each P xs
each_always P h [] = tt
each_always P h (x ∷ xs) = (h x, each_always P h xs)

each_kind : (P : Linear → Type 0) (place : ℕ) (rows : List Linear) → Each P (filter (is_upper place) rows) → Each P (filter (is_lower place) rows) → Each P (filter (is_free place) rows) → Each P rows
each_kind P place [] up down free = tt
each_kind P place (first ∷ rows) up down free = by_tests (is_upper place first) (is_lower place first) (each_kind P place rows) up down free
  where
    by_tests : (upper lower : Bool) → (Each P (filter (is_upper place) rows) → Each P (filter (is_lower place) rows) → Each P (filter (is_free place) rows) → Each P rows)
        → Each P (cond upper (first ∷ filter (is_upper place) rows) (filter (is_upper place) rows)) → Each P (cond lower (first ∷ filter (is_lower place) rows) (filter (is_lower place) rows))
        → Each P (cond (not upper && not lower) (first ∷ filter (is_free place) rows) (filter (is_free place) rows)) → Each P (first ∷ rows)
    by_tests true true more up down free = (up.0, more up.1 down.1 free)
    by_tests true false more up down free = (up.0, more up.1 down free)
    by_tests false true more up down free = (down.0, more up down.1 free)
    by_tests false false more up down free = (free.0, more up down free.1)

-- ---- the three kinds of rows

pub upper_bounds : (t : ℤ) → int_lt (pos 0) t ≡ true → pos 0 <ℤ t
upper_bounds t h = grind (arith, ints)

pub lower_bounds : (t : ℤ) → int_lt t (pos 0) ≡ true → t <ℤ pos 0
lower_bounds t h = grind (arith, ints)

pub free_none : (t : ℤ) → (not (int_lt (pos 0) t) && not (int_lt t (pos 0))) ≡ true → t ≡ pos 0
free_none t h = grind (arith, ints)

passing : (P : Linear → Type 0) (test : Linear → Bool) → ((row : Linear) → test row ≡ true → P row) → (rows : List Linear) → Each P (filter test rows)
passing P test h rows = each_filter (λ (row : Linear). Unit {0}) P test (λ row _. h row) rows (each_always (λ (row : Linear). Unit {0}) (λ row. tt) rows)

uppers_bound : (place : ℕ) (rows : List Linear) → Each (BoundsAbove (times_in place)) (filter (is_upper place) rows)
uppers_bound place rows = passing (BoundsAbove (times_in place)) (is_upper place) (λ row e. upper_bounds (times_in place row) e) rows

lowers_bound : (place : ℕ) (rows : List Linear) → Each (BoundsBelow (times_in place)) (filter (is_lower place) rows)
lowers_bound place rows = passing (BoundsBelow (times_in place)) (is_lower place) (λ row e. lower_bounds (times_in place row) e) rows

abbrev LacksIt : ℕ → Linear → Type 0
LacksIt place row = times_in place row ≡ pos 0

free_lack_it : (place : ℕ) (rows : List Linear) → Each (LacksIt place) (filter (is_free place) rows)
free_lack_it place rows = passing (LacksIt place) (is_free place) (λ row e. free_none (times_in place row) e) rows

at_most : (a b : ℤ) → a ≡ b → b ≤ℤ pos 0 → a ≤ℤ pos 0
at_most a b e h = rw e h

-- ---- from what is left to the rows

pairs_hold : (place : ℕ) (v : Valuation) (d : ℤ) (uppers lowers : List Linear) → Each (HoldsOver v d) (sums_of_sides place uppers lowers) → Each (λ (upper : Linear). Each (PairHolds (times_in place) (rest_of place v d) upper) lowers) uppers
pairs_hold place v d uppers lowers held =
    each_weaker (λ (upper : Linear). Each (HoldsOver v d) (sums_of_upper place lowers upper)) (λ (upper : Linear). Each (PairHolds (times_in place) (rest_of place v d) upper) lowers)
    (λ upper sums. each_weaker (λ (lower : Linear). HoldsOver v d (sum_row place upper lower)) (PairHolds (times_in place) (rest_of place v d) upper)
    (λ lower h. at_most _ _ (sym (pair_worth place v d upper lower)) h)
    lowers (each_mapped (HoldsOver v d) (sum_row place upper) lowers sums))
    uppers (each_flattened (HoldsOver v d) (sums_of_upper place lowers) uppers held)

free_holds : (t x k r n w : ℤ) → t ≡ pos 0 → w ≡ t *ℤ n +ℤ r → w ≤ℤ pos 0 → pos 0 <ℤ k → (t *ℤ x +ℤ k *ℤ r) ≤ℤ pos 0
free_holds t x k r n w none e h positive = rw none (sums (times_nonpositive k r (let at_least : pos 0 ≤ℤ k = omega (arith, ints) in at_least) (worth_is (rw none at e))))
  where
    sums : (k *ℤ r) ≤ℤ pos 0 → (pos 0 *ℤ x +ℤ k *ℤ r) ≤ℤ pos 0
    sums h = omega (arith, ints)

    worth_is : w ≡ pos 0 *ℤ n +ℤ r → r ≤ℤ pos 0
    worth_is e = omega (arith, ints)

pub solved_back : (place : ℕ) (rows : List Linear) → HasFractionalSolution (eliminated place rows) → HasFractionalSolution rows
solved_back place rows solution =
    let v = solution.numerators in
    let d = solution.denominator in
    let free = each_first (HoldsOver v d) (filter (is_free place) rows) (sums_of_sides place (filter (is_upper place) rows) (filter (is_lower place) rows)) solution.each in
    let sums = each_last (HoldsOver v d) (filter (is_free place) rows) (sums_of_sides place (filter (is_upper place) rows) (filter (is_lower place) rows)) solution.each in
    let chosen = choose (times_in place) (rest_of place v d) (filter (is_upper place) rows) (filter (is_lower place) rows) (uppers_bound place rows) (lowers_bound place rows) (pairs_hold place v d _ _ sums) in
    let held = each_kind (HoldsWith (times_in place) (rest_of place v d) chosen.number chosen.scale) place rows chosen.upper_rows chosen.lower_rows
    (each_both (LacksIt place) (HoldsOver v d) (HoldsWith (times_in place) (rest_of place v d) chosen.number chosen.scale)
    (λ row none h. free_holds (times_in place row) chosen.number chosen.scale (rest_of place v d row) (v.number place) (worth v d row) none (here_worth place v d row) h chosen.positive)
    (filter (is_free place) rows) (free_lack_it place rows) free) in
    record {
      numerators = at_place place chosen.number (times_all chosen.scale v);
      denominator = chosen.scale *ℤ d;
      positive = positive_product chosen.scale d chosen.positive solution.positive;
      each = each_weaker (HoldsWith (times_in place) (rest_of place v d) chosen.number chosen.scale) (HoldsOver (at_place place chosen.number (times_all chosen.scale v)) (chosen.scale *ℤ d))
          (λ row h. at_most _ _ (chosen_worth place chosen.number chosen.scale v d row) h) rows held;
    }

-- ---- and on

turned_least : (t : ℤ) → t <ℤ pos 0 → pos 0 ≤ℤ neg_ℤ t
turned_least t h = omega (arith, ints)

least : (t : ℤ) → pos 0 <ℤ t → pos 0 ≤ℤ t
least t h = omega (arith, ints)

pub sum_holds : (v : Valuation) (d : ℤ) (place : ℕ) (upper lower : Linear) → BoundsAbove (times_in place) upper → BoundsBelow (times_in place) lower → HoldsOver v d upper → HoldsOver v d lower → HoldsOver v d (sum_row place upper lower)
sum_holds v d place upper lower up down h g =
    at_most _ _ (sum_worth v d (neg_ℤ (times_in place lower)) upper (times_in place upper) lower)
    (both_nonpositive _ _ (times_nonpositive _ _ (turned_least _ down) h) (times_nonpositive _ _ (least _ up) g))

pub solved_on : (place : ℕ) (rows : List Linear) → HasFractionalSolution rows → HasFractionalSolution (eliminated place rows)
solved_on place rows solution =
    let v = solution.numerators in
    let d = solution.denominator in
    record {
      numerators = v;
      denominator = d;
      positive = solution.positive;
      each = each_append (HoldsOver v d) (filter (is_free place) rows) (sums_of_sides place (filter (is_upper place) rows) (filter (is_lower place) rows))
          (each_filter (HoldsOver v d) (HoldsOver v d) (is_free place) (λ row h e. h) rows solution.each)
          (each_flat (HoldsOver v d) (sums_of_upper place (filter (is_lower place) rows)) (filter (is_upper place) rows)
          (each_filter (HoldsOver v d) (λ (upper : Linear). Each (HoldsOver v d) (sums_of_upper place (filter (is_lower place) rows) upper)) (is_upper place)
          (λ upper h e. each_map (HoldsOver v d) (sum_row place upper) (filter (is_lower place) rows)
          (each_filter (HoldsOver v d) (λ (lower : Linear). HoldsOver v d (sum_row place upper lower)) (is_lower place)
          (λ lower g f. sum_holds v d place upper lower (upper_bounds (times_in place upper) e) (lower_bounds (times_in place lower) f) h g)
          rows solution.each))
          rows solution.each));
    }
