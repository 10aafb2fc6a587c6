-- The loops over the upper and the lower rows.
use Rattle.std.proofs.Common.{◌≡◌, ◌⊎◌, inl, inr, ℕ, ◌+◌, ◌*◌, ◌<◌, ◌≤◌, ◌^◌, ℤ, pos, ◌<ℤ◌, Bool, true, false, cond, ◌&&◌, ◌||◌, List, [], ◌∷◌, ◌++◌, length, take, drop, get_or, Option, Some, None, sym, subst, arith, ap, refl, ◌∙◌}
use Rattle.std.specs.Prelude.{int_le, int_lt}
use Rattle.std.specs.List.{filter, list_any, AllByRecursion as Each}
use Rattle.std.proofs.lemmas.Int.{ints}
use Rattle.logic_linear.specs.declared.form.Term.{Term}
use Rattle.logic_linear.specs.Linear.{Linear}
use Rattle.logic_linear.specs.Sums.{sum_fits}
use Rattle.logic_linear.specs.Truth.{Valuation}
use Rattle.logic_cert.specs.Refutes.{are_factors, is_absurd}
use Rattle.logic_elim.specs.declared.rows.Numbered.{Numbered}
use Rattle.logic_elim.specs.declared.elimination.Progress.{Progress}
use Rattle.logic_elim.specs.declared.elimination.Progress.TheVariants.{Left, Closed, Stopped}
use Rattle.logic_elim.specs.Eliminations.{sum_row}
use Rattle.logic_linear.specs.Fractions.{HoldsOver}
use Rattle.logic_elim.specs.Chains.{rows_after, HasNumber, State, StaysSound, KeepsSound, rows_in}
use Rattle.logic_elim.specs.Rows.{has_variable, is_as_tight, same_terms, says_nothing, with_row}
use Rattle.logic_elim.specs.Steps.{AddsLowers, AddsSides, Among, CanAdd, CanAddLowers, CannotAdd, ComesOf, Eliminates, HasSums, HasTooMany, IsKnown, IsPut, IsSumAmong, IsSummed, RowsHold, cancelling, free_state, is_free_row, is_lower_row, is_upper_row, next_row, sum_at, sums_between, sums_with}
use Rattle.logic_elim.proofs.Lists.{take_next, take_whole, append_length, filter_append, map_append, map_length, flat_append, flat_push, flat_length, take_drop, take_length}
use Rattle.logic_elim.proofs.RowLemmas.{each_get, each_append, each_first, each_last, each_filter, with_length, with_apart, new_among, covered, known_holds, nothing_holds}
use Rattle.logic_elim.proofs.ChainLemmas.{sum_sound}

-- ---- what comes of sums

pub among_first : (row : Linear) (xs ys : List Linear) → Among row xs → Among row (xs ++ ys)
among_first row [] ys h = absurd h
among_first row (x ∷ xs) ys (inl e) = inl e
among_first row (x ∷ xs) ys (inr h) = inr (among_first row xs ys h)

pub among_last : (row : Linear) (xs ys : List Linear) → Among row ys → Among row (xs ++ ys)
among_last row [] ys h = h
among_last row (x ∷ xs) ys h = inr (among_last row xs ys h)

sum_first : (xs ys : List Linear) (row : Linear) → IsSumAmong xs row → IsSumAmong (xs ++ ys) row
sum_first xs ys row h = (among_first row xs ys h.0, h.1)

sum_last : (xs ys : List Linear) (row : Linear) → IsSumAmong ys row → IsSumAmong (xs ++ ys) row
sum_last xs ys row h = (among_last row xs ys h.0, h.1)

pub comes_none : (kept : List Numbered) → ComesOf [] kept kept
comes_none kept = record { from = λ row h. inl h; count = omega arith; apart = λ apart. apart }

pub comes_more : (xs ys : List Linear) (before now after : List Numbered) → ComesOf xs before now → ComesOf ys now after → ComesOf (xs ++ ys) before after
comes_more xs ys before now after first second =
    let m = first.count in
    let n = second.count in
    let e = ap length (filter_append has_variable xs ys) ∙ append_length (filter has_variable xs) (filter has_variable ys) in
    record {
      from = λ row h. by_second row (second.from row h);
      count = omega arith;
      apart = λ apart. second.apart (first.apart apart);
    }
  where
    by_first : (row : Linear) → Among row (rows_in before) ⊎ IsSumAmong xs row → Among row (rows_in before) ⊎ IsSumAmong (xs ++ ys) row
    by_first row (inl h) = inl h
    by_first row (inr h) = inr (sum_first xs ys row h)

    by_second : (row : Linear) → Among row (rows_in now) ⊎ IsSumAmong ys row → Among row (rows_in before) ⊎ IsSumAmong (xs ++ ys) row
    by_second row (inl h) = by_first row (first.from row h)
    by_second row (inr h) = inr (sum_last xs ys row h)

pub comes_of_more : (xs ys : List Linear) (before after : List Numbered) → ComesOf xs before after → ComesOf (xs ++ ys) before after
comes_of_more xs ys before after comes =
    let n = comes.count in
    let e = ap length (filter_append has_variable xs ys) ∙ append_length (filter has_variable xs) (filter has_variable ys) in
    record { from = λ row h. by_case row (comes.from row h); count = omega arith; apart = comes.apart }
  where
    by_case : (row : Linear) → Among row (rows_in before) ⊎ IsSumAmong xs row → Among row (rows_in before) ⊎ IsSumAmong (xs ++ ys) row
    by_case row (inl h) = inl h
    by_case row (inr h) = inr (sum_first xs ys row h)

pub none_summed : (before : State) → HasSums [] before before
none_summed before = record { comes = comes_none before.kept; next = omega arith; covers = λ v d positive held. held; sums_hold = λ v d positive held. tt }

pub more_summed : (xs ys : List Linear) (before now after : State) → HasSums xs before now → HasSums ys now after → HasSums (xs ++ ys) before after
more_summed xs ys before now after first second =
    let m = first.next in
    let n = second.next in
    let e = append_length xs ys in
    record {
      comes = comes_more xs ys before.kept now.kept after.kept first.comes second.comes;
      next = omega arith;
      covers = λ v d positive held. first.covers v d positive (second.covers v d positive held);
      sums_hold = λ v d positive held. each_append (HoldsOver v d) xs ys (first.sums_hold v d positive (second.covers v d positive held)) (second.sums_hold v d positive held);
    }

too_many_after : (most : ℕ) (xs ys : List Linear) (before now : State) → HasSums xs before now → HasTooMany most ys now → HasTooMany most (xs ++ ys) before
too_many_after most xs ys before now sums many = record { many = many.many; long = many.long; comes = comes_more xs ys before.kept now.kept many.many sums.comes many.comes }

too_many_of_more : (most : ℕ) (xs ys : List Linear) (before : State) → HasTooMany most xs before → HasTooMany most (xs ++ ys) before
too_many_of_more most xs ys before many = record { many = many.many; long = many.long; comes = comes_of_more xs ys before.kept many.many many.comes }

-- ---- one sum

either_true : (a b : Bool) → (a || b) ≡ true → (a ≡ true) ⊎ (b ≡ true)
either_true true b h = inl refl
either_true false b h = inr h

either_false : (a b : Bool) → (a || b) ≡ false → (a ≡ false) × (b ≡ false)
either_false true b h = absurd cc
either_false false b h = (refl, h)

pub with_from : (kept : List Numbered) (new : Numbered) (row : Linear) → Among row (rows_in (with_row kept new)) → Among row (rows_in kept) ⊎ (new.row ≡ row)
with_from [] new row (inl e) = inr e
with_from [] new row (inr h) = absurd h
with_from (first ∷ kept) new row h = by_test (same_terms first.row.terms new.row.terms) (with_from kept new row) h
  where
    put_back : Among row (rows_in kept) ⊎ (new.row ≡ row) → Among row (rows_in (first ∷ kept)) ⊎ (new.row ≡ row)
    put_back (inl h) = inl (inr h)
    put_back (inr e) = inr e

    at_first : Among row (rows_in (new ∷ kept)) → Among row (rows_in (first ∷ kept)) ⊎ (new.row ≡ row)
    at_first (inl e) = inr e
    at_first (inr h) = inl (inr h)

    later : (Among row (rows_in (with_row kept new)) → Among row (rows_in kept) ⊎ (new.row ≡ row)) → Among row (rows_in (first ∷ with_row kept new)) → Among row (rows_in (first ∷ kept)) ⊎ (new.row ≡ row)
    later rest (inl e) = inl (inl e)
    later rest (inr h) = put_back (rest h)

    by_test : (test : Bool) → (Among row (rows_in (with_row kept new)) → Among row (rows_in kept) ⊎ (new.row ≡ row)) → Among row (rows_in (cond test (new ∷ kept) (first ∷ with_row kept new))) → Among row (rows_in (first ∷ kept)) ⊎ (new.row ≡ row)
    by_test true rest h = at_first h
    by_test false rest h = later rest h

news_vary : (row : Linear) → is_absurd row ≡ false → says_nothing row ≡ false → has_variable row ≡ true
news_vary row h g = by_terms row.terms refl
  where
    never : (c : ℤ) → (true && int_lt (pos 0) c) ≡ false → int_le c (pos 0) ≡ false → false ≡ true
    never c h g = absurd (grind (arith, ints))

    by_terms : (terms : List Term) → row.terms ≡ terms → has_variable row ≡ true
    by_terms [] is = rw is (never row.constant (rw is at h) (rw is at g))
    by_terms (term ∷ terms) is = rw is refl

one_counts : (row : Linear) → has_variable row ≡ true → length (filter has_variable (row ∷ [])) ≡ 1
one_counts row h = rw h refl

with_comes : (kept : List Numbered) (new : Numbered) → is_absurd new.row ≡ false → (says_nothing new.row || list_any (is_as_tight new.row) kept) ≡ false → ComesOf (new.row ∷ []) kept (with_row kept new)
with_comes kept new sane news =
    let n = with_length kept new in
    let e = one_counts new.row (news_vary new.row sane (either_false _ _ news).0) in
    record { from = λ row h. by_case row (with_from kept new row h); count = omega arith; apart = with_apart kept new }
  where
    by_case : (row : Linear) → Among row (rows_in kept) ⊎ (new.row ≡ row) → Among row (rows_in kept) ⊎ IsSumAmong (new.row ∷ []) row
    by_case row (inl h) = inl h
    by_case row (inr e) = inr (inl e, subst (λ (row : Linear). is_absurd row ≡ false) e sane)

known_summed : (row : Linear) (before after : State) → IsKnown row before after → HasSums (row ∷ []) before after
known_summed row before after known = subst (HasSums (row ∷ []) before) (sym known.same) (record {
  comes = record { from = λ one h. inl h; count = omega arith; apart = λ apart. apart };
  next = omega arith;
  covers = λ v d positive held. held;
  sums_hold = λ v d positive held. (by_case v d positive held (either_true _ _ known.known), tt);
})
  where
    by_case : (v : Valuation) (d : ℤ) → pos 0 <ℤ d → RowsHold v d before.kept → (says_nothing row ≡ true) ⊎ (list_any (is_as_tight row) before.kept ≡ true) → HoldsOver v d row
    by_case v d positive held (inl h) = nothing_holds v d positive row h
    by_case v d positive held (inr h) = known_holds v d positive before.kept row h held

put_summed : (most place : ℕ) (upper lower : Numbered) (row : Linear) (before after : State) → IsPut (cancelling place upper lower) row before after → HasSums (row ∷ []) before after
put_summed most place upper lower row before after put =
    let next = put.next in
    let news = put.news in
    record {
      comes = subst (ComesOf (row ∷ []) before.kept) (sym put.kept) (with_comes before.kept (next_row before row) news.sane news.new);
      next = omega arith;
      covers = λ v d positive held. covered v d positive before.kept (next_row before row) (either_false _ _ news.new).1 (subst (RowsHold v d) put.kept held);
      sums_hold = λ v d positive held. (new_among (λ (numbered : Numbered). HoldsOver v d numbered.row) before.kept (next_row before row) (subst (RowsHold v d) put.kept held), tt);
    }

sum_is : (place : ℕ) (upper lower : Numbered) (row : Linear) → sum_at place upper lower ≡ Some row → row ≡ sum_row place upper.row lower.row
sum_is place upper lower row is = by_test (are_factors (cancelling place upper lower) && sum_fits (cancelling place upper lower).left_times upper.row (cancelling place upper lower).right_times lower.row) is
  where
    by_test : (test : Bool) → cond test (Some (sum_row place upper.row lower.row)) None ≡ Some row → row ≡ sum_row place upper.row lower.row
    by_test true e = cc
    by_test false e = absurd cc

one_summed : (most place : ℕ) (upper lower : Numbered) (before after : State) → IsSummed most place upper lower before after Left → HasSums (sum_row place upper.row lower.row ∷ []) before after
one_summed most place upper lower before after (row, is, inl known) = subst (λ (sum : Linear). HasSums (sum ∷ []) before after) (sum_is place upper lower row is) (known_summed row before after known)
one_summed most place upper lower before after (row, is, inr put) = subst (λ (sum : Linear). HasSums (sum ∷ []) before after) (sum_is place upper lower row is) (put_summed most place upper lower row before after put)

can_sum : (place : ℕ) (upper lower : Numbered) → CanAdd place upper.row lower.row → sum_at place upper lower ≡ Some (sum_row place upper.row lower.row)
can_sum place upper lower can = rw (can.factors, can.fits) refl

none_some : {X : Type 0} (a : Linear) (o : Option Linear) → o ≡ None → o ≡ Some a → X
none_some a o h g = cc

one_too_many : (most place : ℕ) (upper lower : Numbered) (before : State) → CanAdd place upper.row lower.row → before.next + 1 < 2 ^ 32 → CannotAdd most place upper lower before → HasTooMany most (sum_row place upper.row lower.row ∷ []) before
one_too_many most place upper lower before can room (inl h) = absurd (let e = can.turned in cc)
one_too_many most place upper lower before can room (inr (inl h)) = none_some (sum_row place upper.row lower.row) _ h (can_sum place upper lower can)
one_too_many most place upper lower before can room (inr (inr (row, is, inl h))) = absurd (omega arith)
one_too_many most place upper lower before can room (inr (inr (row, is, inr (news, long)))) =
    subst (λ (sum : Linear). HasTooMany most (sum ∷ []) before) (sum_is place upper lower row is)
    (record { many = with_row before.kept (next_row before row); long = long; comes = with_comes before.kept (next_row before row) news.sane news.new })

-- ---- one upper row

pub lower_sound : (most place : ℕ) (upper lower : Numbered) (lowers : List Numbered) (i : ℕ) (before now after : State) (progress : Progress) → i < length lowers → lower ≡ get_or lowers i lower
    → KeepsSound (upper ∷ lowers) before now Left → IsSummed most place upper lower now after progress → KeepsSound (upper ∷ lowers) before after progress
lower_sound most place upper lower lowers i before now after progress h is keeps added rows others sound =
    let here = keeps rows others sound in
    let stand = here.others_stand in
    sum_sound rows (upper ∷ lowers ++ others) most place upper lower now after progress here stand.0
    (each_get (HasNumber (rows_after now.combines rows)) lowers i lower h is (each_first (HasNumber (rows_after now.combines rows)) lowers others stand.1)) added

next_sums : (place : ℕ) (upper lower : Numbered) (lowers : List Numbered) (i : ℕ) → i < length lowers → lower ≡ get_or lowers i lower → sums_with place upper (take i lowers) ++ sum_row place upper.row lower.row ∷ [] ≡ sums_with place upper (take (i + 1) lowers)
next_sums place upper lower lowers i h is = sym (ap (sums_with place upper) (take_next lowers i lower h is) ∙ map_append (λ lower. sum_row place upper.row lower.row) (take i lowers) (lower ∷ []))

pub lower_added : (most place : ℕ) (upper lower : Numbered) (lowers : List Numbered) (i : ℕ) (before now after : State) → i < length lowers → lower ≡ get_or lowers i lower
    → HasSums (sums_with place upper (take i lowers)) before now → IsSummed most place upper lower now after Left → HasSums (sums_with place upper (take (i + 1) lowers)) before after
lower_added most place upper lower lowers i before now after h is so added =
    subst (λ (sums : List Linear). HasSums sums before after) (next_sums place upper lower lowers i h is)
    (more_summed (sums_with place upper (take i lowers)) (sum_row place upper.row lower.row ∷ []) before now after so (one_summed most place upper lower now after added))

pub lowers_added : (most place : ℕ) (upper : Numbered) (lowers : List Numbered) (i : ℕ) (before now : State) → length lowers ≤ i → HasSums (sums_with place upper (take i lowers)) before now → AddsLowers most place upper lowers before now Left
lowers_added most place upper lowers i before now h so = subst (λ (some : List Numbered). HasSums (sums_with place upper some) before now) (take_whole lowers i h) so

with_size : (place : ℕ) (upper : Numbered) (lowers : List Numbered) → length (sums_with place upper lowers) ≡ length lowers
with_size place upper lowers = map_length (λ lower. sum_row place upper.row lower.row) lowers

lower_room : (a b i n s t : ℕ) → a ≤ b + s → s ≡ i → i < n → t ≡ n → b + t < 2 ^ 32 → a + 1 < 2 ^ 32
lower_room a b i n s t h e g f k = omega arith

all_with : (place : ℕ) (upper : Numbered) (lowers : List Numbered) (n : ℕ) → sums_with place upper (take n lowers) ++ sums_with place upper (drop n lowers) ≡ sums_with place upper lowers
all_with place upper lowers n = sym (map_append (λ lower. sum_row place upper.row lower.row) (take n lowers) (drop n lowers)) ∙ ap (sums_with place upper) (take_drop lowers n)

pub lower_stops : (most place : ℕ) (upper lower : Numbered) (lowers : List Numbered) (i : ℕ) (before now after : State) → i < length lowers → lower ≡ get_or lowers i lower
    → HasSums (sums_with place upper (take i lowers)) before now → IsSummed most place upper lower now after Stopped → AddsLowers most place upper lowers before after Stopped
lower_stops most place upper lower lowers i before now after h is so added can room =
    subst (λ (sums : List Linear). HasTooMany most sums before) (all_with place upper lowers (i + 1))
    (too_many_of_more most (sums_with place upper (take (i + 1) lowers)) (sums_with place upper (drop (i + 1) lowers)) before
    (subst (λ (sums : List Linear). HasTooMany most sums before) (next_sums place upper lower lowers i h is)
    (too_many_after most (sums_with place upper (take i lowers)) (sum_row place upper.row lower.row ∷ []) before now so
    (one_too_many most place upper lower now (each_get (λ (lower : Numbered). CanAdd place upper.row lower.row) lowers i lower h is can)
    (lower_room now.next before.next i (length lowers) _ _ so.next (with_size place upper (take i lowers) ∙ take_length lowers i (omega arith)) h (with_size place upper lowers) room) added))))

-- ---- all upper rows

upper_stays : (rows : List (Option Linear)) (upper : Numbered) (uppers lowers others : List Numbered) (after : State) (progress : Progress) → StaysSound rows ((upper ∷ lowers) ++ (uppers ++ others)) after progress → StaysSound rows ((uppers ++ lowers) ++ others) after progress
upper_stays rows upper uppers lowers others after Left sound =
    let stand = sound.others_stand in
    let last = each_last (HasNumber (rows_after after.combines rows)) lowers (uppers ++ others) stand.1 in
    record {
      made = sound.made;
      count = sound.count;
      kept_stand = sound.kept_stand;
      others_stand = each_append (HasNumber (rows_after after.combines rows)) (uppers ++ lowers) others
          (each_append (HasNumber (rows_after after.combines rows)) uppers lowers (each_first (HasNumber (rows_after after.combines rows)) uppers others last) (each_first (HasNumber (rows_after after.combines rows)) lowers (uppers ++ others) stand.1))
          (each_last (HasNumber (rows_after after.combines rows)) uppers others last);
    }
upper_stays rows upper uppers lowers others after Closed closes = closes
upper_stays rows upper uppers lowers others after Stopped none = tt

pub upper_sound : (upper : Numbered) (uppers lowers : List Numbered) (i : ℕ) (before now after : State) (progress : Progress) → i < length uppers → upper ≡ get_or uppers i upper
    → KeepsSound (uppers ++ lowers) before now Left → KeepsSound (upper ∷ lowers) now after progress → KeepsSound (uppers ++ lowers) before after progress
upper_sound upper uppers lowers i before now after progress h is keeps then rows others sound =
    let here = keeps rows others sound in
    let both = each_first (HasNumber (rows_after now.combines rows)) (uppers ++ lowers) others here.others_stand in
    let up = each_first (HasNumber (rows_after now.combines rows)) uppers lowers both in
    upper_stays rows upper uppers lowers others after progress
    (then rows (uppers ++ others) (record {
      made = here.made;
      count = here.count;
      kept_stand = here.kept_stand;
      others_stand = (
        each_get (HasNumber (rows_after now.combines rows)) uppers i upper h is up,
        each_append (HasNumber (rows_after now.combines rows)) lowers (uppers ++ others) (each_last (HasNumber (rows_after now.combines rows)) uppers lowers both)
            (each_append (HasNumber (rows_after now.combines rows)) uppers others up (each_last (HasNumber (rows_after now.combines rows)) (uppers ++ lowers) others here.others_stand)),
      );
    }))

next_between : (place : ℕ) (upper : Numbered) (uppers lowers : List Numbered) (i : ℕ) → i < length uppers → upper ≡ get_or uppers i upper → sums_between place (take i uppers) lowers ++ sums_with place upper lowers ≡ sums_between place (take (i + 1) uppers) lowers
next_between place upper uppers lowers i h is = sym (ap (λ (some : List Numbered). sums_between place some lowers) (take_next uppers i upper h is) ∙ flat_push (λ upper. sums_with place upper lowers) (take i uppers) upper)

pub upper_added : (most place : ℕ) (upper : Numbered) (uppers lowers : List Numbered) (i : ℕ) (before now after : State) → i < length uppers → upper ≡ get_or uppers i upper
    → HasSums (sums_between place (take i uppers) lowers) before now → AddsLowers most place upper lowers now after Left → HasSums (sums_between place (take (i + 1) uppers) lowers) before after
upper_added most place upper uppers lowers i before now after h is so added =
    subst (λ (sums : List Linear). HasSums sums before after) (next_between place upper uppers lowers i h is)
    (more_summed (sums_between place (take i uppers) lowers) (sums_with place upper lowers) before now after so added)

pub uppers_added : (most place : ℕ) (uppers lowers : List Numbered) (i : ℕ) (before now : State) → length uppers ≤ i → HasSums (sums_between place (take i uppers) lowers) before now → AddsSides most place uppers lowers before now Left
uppers_added most place uppers lowers i before now h so = subst (λ (some : List Numbered). HasSums (sums_between place some lowers) before now) (take_whole uppers i h) so

pub between_size : (place : ℕ) (uppers lowers : List Numbered) → length (sums_between place uppers lowers) ≡ length uppers * length lowers
between_size place uppers lowers = flat_length (λ upper. sums_with place upper lowers) (length lowers) (λ upper. with_size place upper lowers) uppers

pairs_left : (i u l : ℕ) → i < u → i * l + l ≤ u * l
pairs_left i u l h = grind arith

upper_room : (a b i u l s t w : ℕ) → a ≤ b + s → s ≡ i * l → w ≡ l → t ≡ u * l → i * l + l ≤ u * l → b + t < 2 ^ 32 → a + w < 2 ^ 32
upper_room a b i u l s t w h e f g k r = omega arith

all_between : (place : ℕ) (uppers lowers : List Numbered) (n : ℕ) → sums_between place (take n uppers) lowers ++ sums_between place (drop n uppers) lowers ≡ sums_between place uppers lowers
all_between place uppers lowers n = sym (flat_append (λ upper. sums_with place upper lowers) (take n uppers) (drop n uppers)) ∙ ap (λ (some : List Numbered). sums_between place some lowers) (take_drop uppers n)

pub upper_stops : (most place : ℕ) (upper : Numbered) (uppers lowers : List Numbered) (i : ℕ) (before now after : State) → i < length uppers → upper ≡ get_or uppers i upper
    → HasSums (sums_between place (take i uppers) lowers) before now → AddsLowers most place upper lowers now after Stopped → AddsSides most place uppers lowers before after Stopped
upper_stops most place upper uppers lowers i before now after h is so added can room =
    subst (λ (sums : List Linear). HasTooMany most sums before) (all_between place uppers lowers (i + 1))
    (too_many_of_more most (sums_between place (take (i + 1) uppers) lowers) (sums_between place (drop (i + 1) uppers) lowers) before
    (subst (λ (sums : List Linear). HasTooMany most sums before) (next_between place upper uppers lowers i h is)
    (too_many_after most (sums_between place (take i uppers) lowers) (sums_with place upper lowers) before now so
    (added (each_get (CanAddLowers place lowers) uppers i upper h is can)
    (upper_room now.next before.next i (length uppers) (length lowers) _ _ _ so.next (between_size place (take i uppers) lowers ∙ ap (λ n. n * length lowers) (take_length uppers i (omega arith)))
    (with_size place upper lowers) (between_size place uppers lowers) (pairs_left i (length uppers) (length lowers) h) room)))))

-- ---- a variable

filtered : (P : Numbered → Type 0) (test : Numbered → Bool) (rows : List Numbered) → Each P rows → Each P (filter test rows)
filtered P test rows all = each_filter P P test (λ row h e. h) rows all

sides_sound : (rows : List (Option Linear)) (others : List Numbered) (after : State) (given : List Numbered) (progress : Progress) → StaysSound rows (given ++ others) after progress → StaysSound rows others after progress
sides_sound rows others after given Left sound = record { made = sound.made; count = sound.count; kept_stand = sound.kept_stand; others_stand = each_last (HasNumber (rows_after after.combines rows)) given others sound.others_stand }
sides_sound rows others after given Closed closes = closes
sides_sound rows others after given Stopped none = tt

pub eliminate_sound : (place : ℕ) (before after : State) (progress : Progress) → KeepsSound (filter (is_upper_row place) before.kept ++ filter (is_lower_row place) before.kept) (free_state place before) after progress → KeepsSound [] before after progress
eliminate_sound place before after progress keeps rows others sound =
    sides_sound rows others after (filter (is_upper_row place) before.kept ++ filter (is_lower_row place) before.kept) progress
    (keeps rows others (record {
      made = sound.made;
      count = sound.count;
      kept_stand = filtered (HasNumber (rows_after before.combines rows)) (is_free_row place) before.kept sound.kept_stand;
      others_stand = each_append (HasNumber (rows_after before.combines rows)) (filter (is_upper_row place) before.kept ++ filter (is_lower_row place) before.kept) others
          (each_append (HasNumber (rows_after before.combines rows)) (filter (is_upper_row place) before.kept) (filter (is_lower_row place) before.kept)
          (filtered (HasNumber (rows_after before.combines rows)) (is_upper_row place) before.kept sound.kept_stand) (filtered (HasNumber (rows_after before.combines rows)) (is_lower_row place) before.kept sound.kept_stand))
          sound.others_stand;
    }))

pub sides_keep : (place : ℕ) (before after : State) (free uppers lowers : List Numbered) (progress : Progress) → uppers ≡ filter (is_upper_row place) before.kept → lowers ≡ filter (is_lower_row place) before.kept → free ≡ filter (is_free_row place) before.kept
    → KeepsSound (uppers ++ lowers) (record { kept = free; combines = before.combines; next = before.next }) after progress → KeepsSound [] before after progress
sides_keep place before after free uppers lowers progress e f g keeps =
    eliminate_sound place before after progress
    (subst (λ (some : List Numbered). KeepsSound (some ++ filter (is_lower_row place) before.kept) (free_state place before) after progress) e
    (subst (λ (some : List Numbered). KeepsSound (uppers ++ some) (free_state place before) after progress) f
    (subst (λ (some : List Numbered). KeepsSound (uppers ++ lowers) (record { kept = some; combines = before.combines; next = before.next }) after progress) g keeps)))

pub sides_eliminate : (most place : ℕ) (before after : State) (free uppers lowers : List Numbered) (progress : Progress) → uppers ≡ filter (is_upper_row place) before.kept → lowers ≡ filter (is_lower_row place) before.kept → free ≡ filter (is_free_row place) before.kept
    → AddsSides most place uppers lowers (record { kept = free; combines = before.combines; next = before.next }) after progress → Eliminates most place before after progress
sides_eliminate most place before after free uppers lowers progress e f g adds =
    subst (λ (some : List Numbered). AddsSides most place some (filter (is_lower_row place) before.kept) (free_state place before) after progress) e
    (subst (λ (some : List Numbered). AddsSides most place uppers some (free_state place before) after progress) f
    (subst (λ (some : List Numbered). AddsSides most place uppers lowers (record { kept = some; combines = before.combines; next = before.next }) after progress) g adds))
