-- Places, each once.
use Rattle.std.proofs.Common.{◌≡◌, inl, inr, ℕ, ◌+◌, ◌<◌, ◌≤◌, Bool, true, false, cond, ◌||◌, List, [], ◌∷◌, ◌++◌, length, take, get_or, sym, arith, ap, refl, ◌∙◌}
use Rattle.std.specs.Prelude.{◌==◌}
use Rattle.std.specs.List.{list_any, AllByRecursion as Each}
use Rattle.std.proofs.lemmas.List.{take_more}
use Rattle.logic_linear.specs.declared.form.Term.{Term}
use Rattle.logic_linear.specs.Places.{HasPlaces, IsIn}
use Rattle.logic_elim.specs.Noted.{with_place, noted}
use Rattle.logic_elim.proofs.RowLemmas.{each_push, each_weaker}
use Rattle.logic_elim.proofs.Different.{Among, Different, at_most_among}

-- ---- terms after terms

pub noted-append : (places : List ℕ) (terms more : List Term) → noted places (terms ++ more) ≡ noted (noted places terms) more
noted-append places [] more = refl
noted-append places (term ∷ terms) more = noted-append (with_place places term.place) terms more

-- ---- what is among the places

in_first : (places : List ℕ) (more : List ℕ) (place : ℕ) → IsIn places place → IsIn (places ++ more) place
in_first [] more place is = absurd is
in_first (other ∷ places) more place (inl e) = inl e
in_first (other ∷ places) more place (inr h) = inr (in_first places more place h)

in_last : (places : List ℕ) (place : ℕ) → IsIn (places ++ place ∷ []) place
in_last [] place = inl refl
in_last (other ∷ places) place = inr (in_last places place)

in_tested : (places : List ℕ) (place : ℕ) → list_any (λ other. other == place) places ≡ true → IsIn places place
in_tested [] place e = absurd cc
in_tested (other ∷ places) place e = by_test (other == place) refl e (in_tested places place)
  where
    by_test : (same : Bool) → (other == place) ≡ same → (same || list_any (λ some. some == place) places) ≡ true → (list_any (λ some. some == place) places ≡ true → IsIn places place) → IsIn (other ∷ places) place
    by_test true f e later = inl (let here : place ≡ other = grind arith in here)
    by_test false f e later = inr (later e)

kept_places : (places : List ℕ) (place at : ℕ) → IsIn places at → IsIn (with_place places place) at
kept_places places place at is = by_test (list_any (λ other. other == place) places)
  where
    by_test : (there : Bool) → IsIn (cond there places (places ++ place ∷ [])) at
    by_test true = is
    by_test false = in_first places (place ∷ []) at is

new_place : (places : List ℕ) (place : ℕ) → IsIn (with_place places place) place
new_place places place = by_test (list_any (λ other. other == place) places) refl
  where
    by_test : (there : Bool) → list_any (λ other. other == place) places ≡ there → IsIn (cond there places (places ++ place ∷ [])) place
    by_test true e = in_tested places place e
    by_test false e = in_last places place

noted_keeps : (places : List ℕ) (terms : List Term) (at : ℕ) → IsIn places at → IsIn (noted places terms) at
noted_keeps places [] at is = is
noted_keeps places (term ∷ terms) at is = noted_keeps (with_place places term.place) terms at (kept_places places term.place at is)

pub noted_has : (places : List ℕ) (terms : List Term) → HasPlaces (noted places terms) terms
noted_has places [] = tt
noted_has places (term ∷ terms) = (noted_keeps (with_place places term.place) terms term.place (new_place places term.place), noted_has (with_place places term.place) terms)

with_only : (few places : List ℕ) (place : ℕ) → Each (IsIn few) places → IsIn few place → Each (IsIn few) (with_place places place)
with_only few places place all is = by_test (list_any (λ other. other == place) places)
  where
    by_test : (there : Bool) → Each (IsIn few) (cond there places (places ++ place ∷ []))
    by_test true = all
    by_test false = each_push (IsIn few) places place all is

noted_only : (few places : List ℕ) (terms : List Term) → Each (IsIn few) places → HasPlaces few terms → Each (IsIn few) (noted places terms)
noted_only few places [] all has = all
noted_only few places (term ∷ terms) all has = noted_only few (with_place places term.place) terms (with_only few places term.place all has.0) has.1

-- ---- each place is there once

not_in : (places : List ℕ) (place : ℕ) → list_any (λ other. other == place) places ≡ false → Each (λ (other : ℕ). other ≡ place → ⊥) places
not_in [] place e = tt
not_in (other ∷ places) place e = by_test (other == place) refl e (not_in places place)
  where
    by_test : (same : Bool) → (other == place) ≡ same → (same || list_any (λ some. some == place) places) ≡ false → (list_any (λ some. some == place) places ≡ false → Each (λ (some : ℕ). some ≡ place → ⊥) places) → Each (λ (some : ℕ). some ≡ place → ⊥) (other ∷ places)
    by_test true f e later = absurd cc
    by_test false f e later = ((λ h. absurd (grind arith)), later e)

push_different : (places : List ℕ) (place : ℕ) → Different places → Each (λ (other : ℕ). other ≡ place → ⊥) places → Different (places ++ place ∷ [])
push_different [] place different others = (tt, tt)
push_different (first ∷ places) place different others = (each_push (λ (other : ℕ). first ≡ other → ⊥) places place different.0 others.0, push_different places place different.1 others.1)

with_different : (places : List ℕ) (place : ℕ) → Different places → Different (with_place places place)
with_different places place different = by_test (list_any (λ other. other == place) places) refl
  where
    by_test : (there : Bool) → list_any (λ other. other == place) places ≡ there → Different (cond there places (places ++ place ∷ []))
    by_test true e = different
    by_test false e = push_different places place different (not_in places place e)

noted_different : (places : List ℕ) (terms : List Term) → Different places → Different (noted places terms)
noted_different places [] different = different
noted_different places (term ∷ terms) different = noted_different (with_place places term.place) terms (with_different places term.place different)

among_few : (few : List ℕ) (place : ℕ) → IsIn few place → Among place few
among_few [] place is = absurd is
among_few (other ∷ few) place (inl e) = inl (sym e)
among_few (other ∷ few) place (inr h) = inr (among_few few place h)

-- the places of terms are no more than any places that they are among
pub noted_few : (few : List ℕ) (terms : List Term) → HasPlaces few terms → length (noted [] terms) ≤ length few
noted_few few terms has = at_most_among (noted [] terms) few (noted_different [] terms tt) (each_weaker (IsIn few) (λ (place : ℕ). Among place few) (λ place is. among_few few place is) (noted [] terms) (noted_only few [] terms tt has))

-- ---- loops

pub noted_more : (places : List ℕ) (terms : List Term) (i : ℕ) (d : Term) → i < length terms → noted places (take (i + 1) terms) ≡ with_place (noted places (take i terms)) (get_or terms i d).place
noted_more places terms i d h = ap (noted places) (take_more terms i d h) ∙ noted-append places (take i terms) (get_or terms i d ∷ [])
