-- The rounds of an elimination of at most three variables.
use Rattle.std.proofs.Common.{◌≡◌, ◌⊎◌, inl, inr, ℕ, zero, suc, ◌+◌, ◌*◌, ◌<◌, ◌≤◌, ◌^◌, ℤ, pos, ◌+ℤ◌, ◌*ℤ◌, ◌≤ℤ◌, true, false, ◌&&◌, List, [], ◌∷◌, ◌++◌, length, Some, None, sym, subst, arith, ap, refl, ◌∙◌}
use Rattle.std.specs.Prelude.{int_lt}
use Rattle.std.specs.List.{filter, AllByRecursion as Each}
use Rattle.std.proofs.lemmas.Int.{ints}
use Rattle.logic_linear.specs.Linear.{Linear, IsLinear}
use Rattle.logic_linear.specs.Places.{HasPlaces}
use Rattle.logic_linear.specs.Truth.{Valuation}
use Rattle.logic_elim.specs.declared.rows.Numbered.{Numbered}
use Rattle.logic_elim.specs.declared.elimination.Progress.TheVariants.{Left, Stopped}
use Rattle.logic_elim.specs.Eliminations.{is_upper, is_lower, is_free, sum_row, sums_of_upper, sums_of_sides, eliminated}
use Rattle.logic_linear.specs.Fractions.{HoldsOver, HasFractionalSolution}
use Rattle.logic_linear.specs.LightCubes.{IsLightRow}
use Rattle.logic_elim.specs.Begins.{IsSane, IsBegin, IsPlaceOf}
use Rattle.logic_elim.specs.Chains.{State, KeepsSound, rows_in}
use Rattle.logic_elim.specs.Rows.{has_variable}
use Rattle.logic_elim.specs.Steps.{Among, CanAdd, CanAddLowers, CanAddSides, ComesOf, Eliminates, HasSums, HasTooMany, IsSumAmong, is_free_row, is_lower_row, is_upper_row, free_state, sums_between, sums_with}
use Rattle.logic_elim.proofs.RowLemmas.{each_append, each_first, each_last}
use Rattle.logic_elim.proofs.RowLemmas.{each_weaker, each_filter}
use Rattle.logic_elim.proofs.Lists.{map_length, filter_map, filter_length}
use Rattle.logic_elim.proofs.Choosing.{each_at, each_both}
use Rattle.logic_elim.proofs.Loops.{between_size}
use Rattle.logic_elim.proofs.EliminationLemmas.{each_map, each_mapped, upper_bounds, lower_bounds, solved_back}
use Rattle.logic_elim.proofs.Bounds.{IsBounded, AreSmall, can_add, eliminated_bounded, bounded_places, no_places, others_of_place, of_more_places, light_bounded}

-- ---- the limits

-- How often a variable counts at most, after so many rounds.
abbrev pub times_limit : ℕ → ℕ
times_limit zero = 1024
times_limit (suc round) = 2 * (times_limit round * times_limit round)

-- The greatest constant.
abbrev pub constant_limit : ℕ → ℕ
constant_limit zero = 1099511627776
constant_limit (suc round) = 2 * (times_limit round * constant_limit round)

-- How many rows there are at most.
abbrev pub count_limit : ℕ → ℕ
count_limit zero = 12
count_limit (suc round) = count_limit round + count_limit round * count_limit round

-- The number of the next sum.
abbrev pub next_limit : ℕ → ℕ
next_limit zero = 65536
next_limit (suc round) = next_limit round + count_limit round * count_limit round

pub limits_small : (round : ℕ) → round < 3 → AreSmall (times_limit round) (constant_limit round)
limits_small zero h = record { grows_times = omega arith; grows_constant = omega arith; times_fit = omega arith; constants_fit = omega arith }
limits_small (suc zero) h = record { grows_times = omega arith; grows_constant = omega arith; times_fit = omega arith; constants_fit = omega arith }
limits_small (suc (suc zero)) h = record { grows_times = omega arith; grows_constant = omega arith; times_fit = omega arith; constants_fit = omega arith }
limits_small (suc (suc (suc round))) h = absurd (omega arith)

pub room_enough : (round : ℕ) → round < 3 → next_limit round + count_limit round * count_limit round < 2 ^ 32
room_enough zero h = omega arith
room_enough (suc zero) h = omega arith
room_enough (suc (suc zero)) h = omega arith
room_enough (suc (suc (suc round))) h = absurd (omega arith)

-- ---- what the rounds so far have left

pub record SoFar (round : ℕ) (before now : State) : Type 0 where
  pub places : List ℕ
  pub few : length places + round ≤ 3
  pub each : Each (IsBounded places (times_limit round) (constant_limit round)) (rows_in now.kept)
  pub sane : Each IsSane (rows_in now.kept)
  pub count : length now.kept ≤ count_limit round
  pub next : now.next ≤ next_limit round
  pub back : HasFractionalSolution (rows_in now.kept) → HasFractionalSolution (rows_in before.kept)
  pub sound : KeepsSound [] before now Left

rows_length : (kept : List Numbered) → length (rows_in kept) ≡ length kept
rows_length kept = map_length (λ numbered. numbered.row) kept

pub no_rounds : (before : State) → IsBegin before → SoFar zero before before
no_rounds before begins =
    let light = begins.light in
    let few = light.few_places in
    let count = light.few_rows in
    let same = rows_length before.kept in
    record {
      places = light.places;
      few = omega arith;
      each = each_both IsLinear (IsLightRow light.places) (IsBounded light.places 1024 1099511627776) (λ row linear is. light_bounded light.places row linear is) (rows_in before.kept) begins.each light.each;
      sane = begins.sane;
      count = omega arith;
      next = begins.few;
      back = λ solution. solution;
      sound = λ rows others sound. sound;
    }

-- ---- one round

sides_can : (places : List ℕ) (a b place : ℕ) (kept : List Numbered) → AreSmall a b → Each (IsBounded places a b) (rows_in kept) → CanAddSides place (filter (is_upper_row place) kept) (filter (is_lower_row place) kept)
sides_can places a b place kept small all =
    let bounded = each_mapped (IsBounded places a b) (λ numbered. numbered.row) kept all in
    each_filter (λ (upper : Numbered). IsBounded places a b upper.row) (CanAddLowers place (filter (is_lower_row place) kept)) (is_upper_row place)
    (λ upper up e. each_filter (λ (lower : Numbered). IsBounded places a b lower.row) (λ (lower : Numbered). CanAdd place upper.row lower.row) (is_lower_row place)
    (λ lower down f. can_add places a b place upper.row lower.row small up down (upper_bounds _ e) (lower_bounds _ f))
    kept bounded)
    kept bounded

pub round_can : (round place : ℕ) (before now : State) → round < 3 → SoFar round before now → CanAddSides place (filter (is_upper_row place) now.kept) (filter (is_lower_row place) now.kept)
round_can round place before now h so = sides_can so.places (times_limit round) (constant_limit round) place now.kept (limits_small round h) so.each

product_most : (p q n : ℕ) → p ≤ n → q ≤ n → p * q ≤ n * n
product_most p q n h g = grind arith

pairs_most : (round place : ℕ) (before now : State) → SoFar round before now → length (filter (is_upper_row place) now.kept) * length (filter (is_lower_row place) now.kept) ≤ count_limit round * count_limit round
pairs_most round place before now so =
    let count = so.count in
    let up = filter_length (is_upper_row place) now.kept in
    let down = filter_length (is_lower_row place) now.kept in
    product_most _ _ (count_limit round) (at_most_through _ _ _ up count) (at_most_through _ _ _ down count)
  where
    at_most_through : (n m k : ℕ) → n ≤ m → m ≤ k → n ≤ k
    at_most_through n m k h g = omega arith

room_left : (a b p q m : ℕ) → a ≤ b → p ≤ q → b + q < m → a + p < m
room_left a b p q m h g k = omega arith

most_through : (n m k : ℕ) → n ≤ m → m ≤ k → n ≤ k
most_through n m k h g = omega arith

-- The rows that are left are those free of the variable and the sums.
with_rows : (place : ℕ) (upper : Numbered) (lowers : List Numbered) → sums_with place upper lowers ≡ sums_of_upper place (rows_in lowers) upper.row
with_rows place upper [] = refl
with_rows place upper (lower ∷ lowers) = ap (λ (sums : List Linear). sum_row place upper.row lower.row ∷ sums) (with_rows place upper lowers)

between_rows : (place : ℕ) (uppers lowers : List Numbered) → sums_between place uppers lowers ≡ sums_of_sides place (rows_in uppers) (rows_in lowers)
between_rows place [] lowers = refl
between_rows place (upper ∷ uppers) lowers = rw (with_rows place upper lowers, between_rows place uppers lowers) refl

both_lists : (a b c d : List Linear) → a ≡ b → c ≡ d → a ++ c ≡ b ++ d
both_lists a b c d e f = rw (e, f) refl

abbrev all_sums : ℕ → List Numbered → List Linear
all_sums place kept = sums_between place (filter (is_upper_row place) kept) (filter (is_lower_row place) kept)

eliminated_rows : (place : ℕ) (kept : List Numbered) → eliminated place (rows_in kept) ≡ rows_in (filter (is_free_row place) kept) ++ all_sums place kept
eliminated_rows place kept =
    sym (both_lists _ _ _ _ (filter_map (λ numbered. numbered.row) (is_free place) kept)
    (between_rows place (filter (is_upper_row place) kept) (filter (is_lower_row place) kept)
    ∙ ap (λ (uppers : List Linear). sums_of_sides place uppers (rows_in (filter (is_lower_row place) kept))) (filter_map (λ numbered. numbered.row) (is_upper place) kept)
    ∙ ap (λ (lowers : List Linear). sums_of_sides place (filter (is_upper place) (rows_in kept)) lowers) (filter_map (λ numbered. numbered.row) (is_lower place) kept)))

sums_most : (round place : ℕ) (before now : State) → SoFar round before now → length (all_sums place now.kept) ≤ count_limit round * count_limit round
sums_most round place before now so =
    subst (λ n. n ≤ count_limit round * count_limit round) (sym (between_size place (filter (is_upper_row place) now.kept) (filter (is_lower_row place) now.kept))) (pairs_most round place before now so)

pub round_room : (round place : ℕ) (before now : State) → round < 3 → SoFar round before now → now.next + length (all_sums place now.kept) < 2 ^ 32
round_room round place before now h so = room_left now.next (next_limit round) _ _ (2 ^ 32) so.next (sums_most round place before now so) (room_enough round h)

kept_places : (places : List ℕ) (a b : ℕ) (rows : List Linear) → Each (IsBounded places a b) rows → Each (λ (row : Linear). HasPlaces places row.terms) rows
kept_places places a b rows all = each_weaker (IsBounded places a b) (λ (row : Linear). HasPlaces places row.terms) (λ row bounded. bounded_places places a b row bounded) rows all

pub each_among : (P : Linear → Type 0) (rows : List Linear) → ((row : Linear) → Among row rows → P row) → Each P rows
each_among P [] h = tt
each_among P (first ∷ rows) h = (h first (inl refl), each_among P rows (λ row is. h row (inr is)))

pub each_comes : (P : Linear → Type 0) (sums : List Linear) (before after : List Numbered) → ComesOf sums before after → Each P (rows_in before) → ((row : Linear) → IsSumAmong sums row → P row) → Each P (rows_in after)
each_comes P sums before after comes all sum = each_among P (rows_in after) (λ row is. by_case row (comes.from row is))
  where
    by_case : (row : Linear) → Among row (rows_in before) ⊎ IsSumAmong sums row → P row
    by_case row (inl h) = each_at P row (rows_in before) all h
    by_case row (inr h) = sum row h

pub free_each : (P : Linear → Type 0) (place : ℕ) (kept : List Numbered) → Each P (rows_in kept) → Each P (rows_in (filter (is_free_row place) kept))
free_each P place kept all = subst (Each P) (sym (filter_map (λ numbered. numbered.row) (is_free place) kept)) (each_filter P P (is_free place) (λ row h e. h) (rows_in kept) all)

next_after : (a b c s q : ℕ) → a ≤ b → c ≤ a + s → s ≤ q → c ≤ b + q
next_after a b c s q h e g = omega arith

count_after : (n f s a b t q : ℕ) → n ≤ f + t → f ≤ a → a ≤ b → t ≤ s → s ≤ q → n ≤ b + q
count_after n f s a b t q h g k e i = omega arith

count_comes : (round place : ℕ) (before now : State) (after : List Numbered) → SoFar round before now → ComesOf (all_sums place now.kept) (filter (is_free_row place) now.kept) after → length after ≤ count_limit (suc round)
count_comes round place before now after so comes =
    count_after (length after) _ (length (all_sums place now.kept)) (length now.kept) (count_limit round) _ _ comes.count (filter_length (is_free_row place) now.kept) so.count
    (filter_length has_variable (all_sums place now.kept)) (sums_most round place before now so)

-- The places but this one, and what is left is of these.
pub record Narrowed (round place : ℕ) (before now : State) (so : SoFar round before now) : Type 0 where
  pub others : List ℕ
  pub fewer : length others + 1 ≡ length so.places
  pub each : Each (IsBounded others (times_limit (suc round)) (constant_limit (suc round))) (rows_in (filter (is_free_row place) now.kept) ++ all_sums place now.kept)

narrowed : (round place : ℕ) (before now : State) → round < 3 → IsPlaceOf (rows_in now.kept) (Some place) → (so : SoFar round before now) → Narrowed round place before now so
narrowed round place before now h chosen so =
    let rest = others_of_place so.places place (chosen so.places (kept_places so.places (times_limit round) (constant_limit round) (rows_in now.kept) so.each)) in
    record {
      others = rest.others;
      fewer = rest.fewer;
      each = subst (Each (IsBounded rest.others (times_limit (suc round)) (constant_limit (suc round)))) (eliminated_rows place now.kept)
          (eliminated_bounded place rest.others (times_limit round) (constant_limit round) (rows_in now.kept) (limits_small round h)
          (each_weaker (IsBounded so.places (times_limit round) (constant_limit round)) (IsBounded (place ∷ rest.others) (times_limit round) (constant_limit round)) (λ row bounded. of_more_places so.places (place ∷ rest.others) (times_limit round) (constant_limit round) row rest.covers bounded) (rows_in now.kept) so.each));
    }

left_solved : (place : ℕ) (now after : State) → HasSums (all_sums place now.kept) (free_state place now) after → HasFractionalSolution (rows_in after.kept) → HasFractionalSolution (eliminated place (rows_in now.kept))
left_solved place now after sums solution =
    let v = solution.numerators in
    let d = solution.denominator in
    let held = each_mapped (HoldsOver v d) (λ numbered. numbered.row) after.kept solution.each in
    record {
      numerators = v;
      denominator = d;
      positive = solution.positive;
      each = subst (Each (HoldsOver v d)) (sym (eliminated_rows place now.kept)) (each_append (HoldsOver v d) (rows_in (filter (is_free_row place) now.kept)) (all_sums place now.kept)
          (each_map (HoldsOver v d) (λ numbered. numbered.row) (filter (is_free_row place) now.kept) (sums.covers v d solution.positive held)) (sums.sums_hold v d solution.positive held));
    }

pub one_more_round : (round most place : ℕ) (before now after : State) → round < 3 → IsPlaceOf (rows_in now.kept) (Some place) → SoFar round before now → KeepsSound [] now after Left → Eliminates most place now after Left → SoFar (suc round) before after
one_more_round round most place before now after h chosen so keeps sums =
    let rest = narrowed round place before now h chosen so in
    let fewer = rest.fewer in
    let few = so.few in
    record {
      places = rest.others;
      few = omega arith;
      each = each_comes (IsBounded rest.others (times_limit (suc round)) (constant_limit (suc round))) (all_sums place now.kept) (filter (is_free_row place) now.kept) after.kept sums.comes
          (each_first (IsBounded rest.others (times_limit (suc round)) (constant_limit (suc round))) (rows_in (filter (is_free_row place) now.kept)) (all_sums place now.kept) rest.each)
          (λ row is. each_at (IsBounded rest.others (times_limit (suc round)) (constant_limit (suc round))) row (all_sums place now.kept)
          (each_last (IsBounded rest.others (times_limit (suc round)) (constant_limit (suc round))) (rows_in (filter (is_free_row place) now.kept)) (all_sums place now.kept) rest.each) is.0);
      sane = each_comes IsSane (all_sums place now.kept) (filter (is_free_row place) now.kept) after.kept sums.comes (free_each IsSane place now.kept so.sane) (λ row is. is.1);
      count = count_comes round place before now after.kept so sums.comes;
      next = next_after now.next (next_limit round) after.next _ _ so.next sums.next (sums_most round place before now so);
      back = λ solution. so.back (solved_back place (rows_in now.kept) (left_solved place now after sums solution));
      sound = λ rows others sound. keeps rows others (so.sound rows others sound);
    }

-- ---- no round stops

flat_sums : (a b : ℕ) (others : List ℕ) (rows : List Linear) → others ≡ [] → Each (IsBounded others a b) rows → filter has_variable rows ≡ []
flat_sums a b others [] none all = refl
flat_sums a b others (row ∷ rows) none all = by_flat (no_places row.terms (subst (λ (places : List ℕ). HasPlaces places row.terms) none (bounded_places others a b row all.0))) (flat_sums a b others rows none all.1)
  where
    by_flat : row.terms ≡ [] → filter has_variable rows ≡ [] → filter has_variable (row ∷ rows) ≡ []
    by_flat flat rest = rw flat rest

none_left : (places : List ℕ) → length places ≤ 0 → places ≡ []
none_left [] h = refl
none_left (place ∷ places) h = absurd (omega arith)

last_count : (n f t a : ℕ) → n ≤ f + t → t ≡ 0 → f ≤ a → a ≤ 24492 → n ≤ 24492
last_count n f t a h e g k = omega arith

too_many : (n most : ℕ) → most < n → n ≤ 24492 → 65536 ≤ most → ⊥
too_many n most h g k = absurd (omega arith)

pub never_stops : (round most place : ℕ) (before now after : State) → 65536 ≤ most → round < 3 → IsPlaceOf (rows_in now.kept) (Some place) → SoFar round before now → Eliminates most place now after Stopped → ⊥
never_stops round most place before now after enough h chosen so stops = by_round round h so (narrowed round place before now h chosen so) (stops (round_can round place before now h so) (round_room round place before now h so))
  where
    by_round : (round : ℕ) → round < 3 → (so : SoFar round before now) → Narrowed round place before now so → HasTooMany most (all_sums place now.kept) (free_state place now) → ⊥
    by_round zero h so rest many = too_many (length many.many) most many.long (most_through _ 156 24492 (count_comes zero place before now many.many so many.comes) (omega arith)) enough
    by_round (suc zero) h so rest many = too_many (length many.many) most many.long (count_comes (suc zero) place before now many.many so many.comes) enough
    by_round (suc (suc round)) h so rest many =
        let fewer = rest.fewer in
        let few = so.few in
        let comes = many.comes in
        let none = none_left rest.others (omega arith) in
        let flat = flat_sums _ _ rest.others (all_sums place now.kept) none (each_last (IsBounded rest.others (times_limit (suc (suc (suc round)))) (constant_limit (suc (suc (suc round))))) (rows_in (filter (is_free_row place) now.kept)) (all_sums place now.kept) rest.each) in
        let last : suc (suc round) ≡ 2 = omega arith in
        too_many (length many.many) most many.long
        (last_count (length many.many) _ _ (length now.kept) comes.count (ap length flat) (filter_length (is_free_row place) now.kept) (subst (λ n. length now.kept ≤ count_limit n) last so.count)) enough

-- ---- the end

zeros : Valuation
zeros = record { number = λ at. pos 0; flag = λ at. false }

flat_holds : (row : Linear) → row.terms ≡ [] → IsSane row → HoldsOver zeros (pos 1) row
flat_holds row flat sane = rw flat (low row.constant (not_above row.constant (rw flat at sane)))
  where
    not_above : (c : ℤ) → (true && int_lt (pos 0) c) ≡ false → c ≤ℤ pos 0
    not_above c h = grind (arith, ints)

    low : (c : ℤ) → c ≤ℤ pos 0 → (pos 0 +ℤ c *ℤ pos 1) ≤ℤ pos 0
    low c h = omega (arith, ints)

pub flat_solved : (rows : List Linear) → Each (λ (row : Linear). row.terms ≡ []) rows → Each IsSane rows → HasFractionalSolution rows
flat_solved rows flat sane = record {
  numerators = zeros;
  denominator = pos 1;
  positive = omega (arith, ints);
  each = each_both (λ (row : Linear). row.terms ≡ []) IsSane (HoldsOver zeros (pos 1)) flat_holds rows flat sane;
}

pub no_variable_left : (round : ℕ) (before now : State) → IsPlaceOf (rows_in now.kept) None → SoFar round before now → HasFractionalSolution (rows_in before.kept)
no_variable_left round before now flat so = so.back (flat_solved (rows_in now.kept) flat so.sane)

pub all_rounds : (round : ℕ) (before now : State) → 3 ≤ round → SoFar round before now → HasFractionalSolution (rows_in before.kept)
all_rounds round before now h so =
    let few = so.few in
    no_variable_left round before now
    (each_weaker (λ (row : Linear). HasPlaces so.places row.terms) (λ (row : Linear). row.terms ≡ []) (λ row has. no_places row.terms (subst (λ (places : List ℕ). HasPlaces places row.terms) (none_left so.places (omega arith)) has)) (rows_in now.kept)
    (kept_places so.places (times_limit round) (constant_limit round) (rows_in now.kept) so.each))
    so
