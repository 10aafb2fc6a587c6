-- The tests of light cubes.
use Rattle.std.proofs.Common.{◌≡◌, ℕ, ◌+◌, ◌<◌, ◌≤◌, ◌^◌, ℤ, Bool, true, false, ◌&&◌, List, [], ◌∷◌, ◌++◌, length, take, get_or, sym, arith, ap, refl, ◌∙◌}
use Rattle.std.specs.Prelude.{◌↔◌, IsTrue, nat_le}
use Rattle.std.specs.List.{list_all, AllByRecursion as Each}
use Rattle.std.proofs.lemmas.Bool.{and_parts}
use Rattle.std.proofs.lemmas.Int.{ints}
use Rattle.logic_linear.specs.declared.form.Term.{Term}
use Rattle.logic_linear.specs.Linear.{Linear}
use Rattle.logic_linear.specs.Places.{HasPlaces, IsIn}
use Rattle.logic_elim.specs.declared.rows.Numbered.{Numbered}
use Rattle.logic_linear.specs.LightCubes.{IsWithin, IsLightRow, IsLightCube}
use Rattle.logic_elim.specs.Chains.{rows_in}
use Rattle.logic_elim.specs.inner.Light.{has_light_times, is_light_row, is_within}
use Rattle.logic_elim.specs.Noted.{noted, terms_in}
use Rattle.logic_elim.proofs.EliminationLemmas.{each_flat, each_flattened}
use Rattle.logic_elim.proofs.Lists.{take_next, map_append, flat_push}
use Rattle.logic_elim.proofs.PlaceLemmas.{noted-append, noted_has, noted_few}
use Rattle.logic_elim.proofs.RowLemmas.{each_weaker}

-- ---- the places

terms_next : (rows : List Numbered) (i : ℕ) (numbered : Numbered) → i < length rows → numbered ≡ get_or rows i numbered → terms_in (rows_in (take (i + 1) rows)) ≡ terms_in (rows_in (take i rows)) ++ numbered.row.terms
terms_next rows i numbered h is =
    ap (λ (some : List Numbered). terms_in (rows_in some)) (take_next rows i numbered h is)
    ∙ ap terms_in (map_append (λ one. one.row) (take i rows) (numbered ∷ [])) ∙ flat_push (λ row. row.terms) (rows_in (take i rows)) numbered.row

pub next_places : (rows : List Numbered) (i : ℕ) (numbered : Numbered) (before after : List ℕ) (terms : List Term) → i < length rows → numbered ≡ get_or rows i numbered → before ≡ noted [] (terms_in (rows_in (take i rows))) → terms ≡ numbered.row.terms
    → after ≡ noted before terms → after ≡ noted [] (terms_in (rows_in (take (i + 1) rows)))
next_places rows i numbered before after terms h is so same now =
    now ∙ ap (noted before) same ∙ ap (λ (places : List ℕ). noted places numbered.row.terms) so
    ∙ sym (ap (noted []) (terms_next rows i numbered h is) ∙ noted-append [] (terms_in (rows_in (take i rows))) numbered.row.terms)

-- ---- the numbers

within_found : (bound : ℕ) (number : ℤ) → is_within bound number ≡ true → IsWithin bound number
within_found bound number h = (grind (arith, ints), grind (arith, ints))

within_told : (bound : ℕ) (number : ℤ) → IsWithin bound number → is_within bound number ≡ true
within_told bound number h = let low = h.0 in let high = h.1 in grind (arith, ints)

times_found : (terms : List Term) → list_all has_light_times terms ≡ true → Each (λ (term : Term). IsWithin (2 ^ 10) term.times) terms
times_found [] h = tt
times_found (term ∷ terms) h = let both = and_parts (has_light_times term) (list_all has_light_times terms) h in (within_found (2 ^ 10) term.times both.0, times_found terms both.1)

both_true : (a b : Bool) → a ≡ true → b ≡ true → (a && b) ≡ true
both_true a b e f = rw (e, f) refl

times_told : (terms : List Term) → Each (λ (term : Term). IsWithin (2 ^ 10) term.times) terms → list_all has_light_times terms ≡ true
times_told [] h = refl
times_told (term ∷ terms) h = both_true _ _ (within_told (2 ^ 10) term.times h.0) (times_told terms h.1)

rows_found : (places : List ℕ) (rows : List Numbered) → list_all is_light_row rows ≡ true → Each (λ (row : Linear). HasPlaces places row.terms) (rows_in rows) → Each (IsLightRow places) (rows_in rows)
rows_found places [] h has = tt
rows_found places (numbered ∷ rows) h has =
    let both = and_parts (is_light_row numbered) (list_all is_light_row rows) h in
    let parts = and_parts (list_all has_light_times numbered.row.terms) (is_within (2 ^ 40) numbered.row.constant) both.0 in
    (record { in_places = has.0; times = times_found numbered.row.terms parts.0; constant = within_found (2 ^ 40) numbered.row.constant parts.1 }, rows_found places rows both.1 has.1)

rows_told : (places : List ℕ) (rows : List Numbered) → Each (IsLightRow places) (rows_in rows) → list_all is_light_row rows ≡ true
rows_told places [] all = refl
rows_told places (numbered ∷ rows) all = let light = all.0 in both_true _ _ (both_true _ _ (times_told numbered.row.terms light.times) (within_told (2 ^ 40) numbered.row.constant light.constant)) (rows_told places rows all.1)

-- ---- the cube

rows_length : (rows : List Numbered) → length (rows_in rows) ≡ length rows
rows_length [] = refl
rows_length (numbered ∷ rows) = let rest = rows_length rows in omega arith

pub too_many_rows : (rows : List Numbered) → 12 < length rows → IsTrue false ↔ IsLightCube (rows_in rows)
too_many_rows rows h = (λ no. absurd cc, λ light. let few = light.few_rows in let same = rows_length rows in absurd (omega arith))

pub large_numbers : (rows : List Numbered) → list_all is_light_row rows ≡ false → IsTrue false ↔ IsLightCube (rows_in rows)
large_numbers rows h = (λ no. absurd cc, λ light. absurd (let told = rows_told light.places rows light.each in cc))

all_in : (places : List ℕ) (rows : List Linear) → Each (IsLightRow places) rows → HasPlaces places (terms_in rows)
all_in places rows all = each_flat (λ (term : Term). IsIn places term.place) (λ row. row.terms) rows (each_weaker (IsLightRow places) (λ (row : Linear). HasPlaces places row.terms) (λ row light. light.in_places) rows all)

pub light_told : (rows : List Numbered) (places : List ℕ) (n : ℕ) → length rows ≤ 12 → list_all is_light_row rows ≡ true → places ≡ noted [] (terms_in (rows_in rows)) → n ≡ length places → IsTrue (nat_le n 3) ↔ IsLightCube (rows_in rows)
light_told rows places n few numbers is count = (λ h. found (at_most n 3 h), λ light. tells n 3 (few_places light))
  where
    at_most : (n m : ℕ) → IsTrue (nat_le n m) → n ≤ m
    at_most n m h = grind arith

    tells : (n m : ℕ) → n ≤ m → IsTrue (nat_le n m)
    tells n m h = grind arith

    found : n ≤ 3 → IsLightCube (rows_in rows)
    found h =
        let same = rows_length rows in
        let size = ap length is in
        record {
          few_rows = omega arith;
          places = noted [] (terms_in (rows_in rows));
          few_places = omega arith;
          each = rows_found (noted [] (terms_in (rows_in rows))) rows numbers
              (each_flattened (λ (term : Term). IsIn (noted [] (terms_in (rows_in rows))) term.place) (λ row. row.terms) (rows_in rows) (noted_has [] (terms_in (rows_in rows))));
        }

    few_places : IsLightCube (rows_in rows) → n ≤ 3
    few_places light =
        let most = noted_few light.places (terms_in (rows_in rows)) (all_in light.places (rows_in rows) light.each) in
        let size = ap length is in
        let few = light.few_places in
        omega arith
