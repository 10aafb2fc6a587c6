-- How a loop merges terms in 128 bits.
use Rattle.std.proofs.Common.{◌≡◌, ◌-◌, length-drop, Option, Some, None, ℕ, zero, suc, ◌+◌, ◌<◌, ◌≤◌, ℤ, pos, negsuc, ◌+ℤ◌, ◌*ℤ◌, Bool, true, false, cond, List, [], ◌∷◌, ◌++◌, length, get_or, take, drop, sym, subst, arith, ap, refl, ◌∙◌, append_assoc}
use Rattle.std.specs.Prelude.{nat_lt, ◌==◌, ◌&&◌, FitsSigned, SomeIff}
use Rattle.std.specs.List.{list_all, flat_map}
use Rattle.std.specs.Ordering.{int_eq}
use Rattle.std.proofs.lemmas.Bool.{and_parts}
use Rattle.std.proofs.lemmas.Bool.Decides.{Decides-int_eq}
use Rattle.std.proofs.lemmas.Int.{ints}
use Rattle.std.proofs.lemmas.List.{at_drop_more, take_more, flat_map_more}
use Rattle.std.proofs.lemmas.List.Folds.{list_all-append}
use mir.Syntax.{w128}
use Rattle.logic_linear.specs.declared.form.Term.{Term}
use Rattle.logic_linear.specs.Sums.{term_of, fits_128, product_fits, term_fits}
use Rattle.logic_linear.specs.inner.Merging.{multiple, merge_step, merged, MergedTerm, Passes}
use Rattle.logic_linear.specs.Substitution.{where_true}
use Rattle.logic_linear.proofs.LimitedLemmas.{passes}
use Rattle.logic_linear.proofs.LinearLemmas.{at_each}

-- ---- a turn of the loop

pub first_of : (a b : List Term) (test : Bool) → test ≡ true → cond test a b ≡ a
first_of a b test e = rw e refl

pub second_of : (a b : List Term) (test : Bool) → test ≡ false → cond test a b ≡ b
second_of a b test e = rw e refl

pub merges_below : (k : ℤ) (term : Term) (rest : List Term → List Term) (others : List Term) (next : ℕ) (d : Term) → next < length others → (get_or others next d).place < term.place
    → merge_step k term rest (drop next others) ≡ multiple k (get_or others next d) ++ merge_step k term rest (drop (next + 1) others)
merges_below k term rest others next d h l = at_drop_more (merge_step k term rest) others next d h ∙ first_of _ _ (nat_lt (get_or others next d).place term.place) (grind arith)

pub merges_same : (k : ℤ) (term : Term) (rest : List Term → List Term) (others : List Term) (next : ℕ) (d : Term) → next < length others → (get_or others next d).place ≡ term.place
    → merge_step k term rest (drop next others) ≡ term_of term.place (term.times +ℤ k *ℤ (get_or others next d).times) ++ rest (drop (next + 1) others)
merges_same k term rest others next d h l =
    at_drop_more (merge_step k term rest) others next d h ∙ second_of _ _ (nat_lt (get_or others next d).place term.place) (grind arith) ∙ first_of _ _ ((get_or others next d).place == term.place) (grind arith)

pub merges_above : (k : ℤ) (term : Term) (rest : List Term → List Term) (others : List Term) (next : ℕ) (d : Term) → next < length others → term.place < (get_or others next d).place
    → merge_step k term rest (drop next others) ≡ term ∷ rest (drop next others)
merges_above k term rest others next d h l =
    at_drop_more (merge_step k term rest) others next d h ∙ second_of _ _ (nat_lt (get_or others next d).place term.place) (grind arith) ∙ second_of _ _ ((get_or others next d).place == term.place) (grind arith) ∙ ap (λ n. term ∷ n) (sym (at_drop_more rest others next d h))

pub dropped_all : {X : Type 0} (xs : List X) (i : ℕ) → length xs ≤ i → drop i xs ≡ []
dropped_all [] zero h = refl
dropped_all [] (suc i) h = refl
dropped_all (x ∷ xs) zero h = absurd (omega arith)
dropped_all (x ∷ xs) (suc i) h = dropped_all xs i (omega arith)

pub merges_end : (k : ℤ) (term : Term) (rest : List Term → List Term) (others : List Term) (next : ℕ) → length others ≤ next
    → merge_step k term rest (drop next others) ≡ term ∷ rest (drop next others)
merges_end k term rest others next h = rw (dropped_all others next h) refl

-- ---- ranges

pub signed_fits : (z : ℤ) → fits_128 z ≡ true → FitsSigned w128 z
signed_fits (pos n) h = record { sfits = grind (arith, ints) }
signed_fits (negsuc n) h = record { sfits = grind (arith, ints) }

pub fits_signed : (z : ℤ) → FitsSigned w128 z → fits_128 z ≡ true
fits_signed (pos n) h = let s = h.sfits in grind (arith, ints)
fits_signed (negsuc n) h = let s = h.sfits in grind (arith, ints)

pub not_fits : (z : ℤ) → (FitsSigned w128 z → ⊥) → fits_128 z ≡ false
not_fits z h = by_test (fits_128 z) refl
  where
    by_test : (test : Bool) → fits_128 z ≡ test → test ≡ false
    by_test true e = absurd (h (signed_fits z e))
    by_test false e = refl

pub fits_answer : (result : Option ℤ) (x y : ℤ) → SomeIff result (FitsSigned w128 x) x → x ≡ y → Passes fits_128 y result
fits_answer None x y h e = not_fits y (λ f. h (subst (λ (z : ℤ). FitsSigned w128 z) (sym e) f))
fits_answer (Some sum) x y h e = (h.1 ∙ e, fits_signed sum (subst (λ (z : ℤ). FitsSigned w128 z) (sym h.1) h.0))

pub product_at : (factor : ℤ) (terms : List Term) (i : ℕ) (d : Term) → i < length terms → list_all (product_fits factor) terms ≡ true → fits_128 (factor *ℤ (get_or terms i d).times) ≡ true
product_at factor terms i d h e = at_each (product_fits factor) terms i d h e

pub out_of_range : (sums : List Term) (place : ℕ) (times : ℤ) (more : List Term) → fits_128 times ≡ false → list_all term_fits (sums ++ (term_of place times ++ more)) ≡ false
out_of_range [] place times more h = by_test (int_eq times (pos 0)) refl
  where
    by_test : (test : Bool) → int_eq times (pos 0) ≡ test → list_all term_fits (cond test [] (record { place = place; times = times } ∷ []) ++ more) ≡ false
    by_test true e = absurd (let z : times ≡ pos 0 = (Decides-int_eq times (pos 0)).0 e in let no : fits_128 (pos 0) ≡ false = rw z at h in cc)
    by_test false e = grind (arith, h)
out_of_range (sum ∷ sums) place times more h = let rest = out_of_range sums place times more h in grind (arith, rest)

pub range_more : (sums : List Term) (place : ℕ) (times : ℤ) → list_all term_fits sums ≡ true → fits_128 times ≡ true → list_all term_fits (sums ++ term_of place times) ≡ true
range_more sums place times h e = list_all-append term_fits sums (term_of place times) ∙ rw h (by_test (int_eq times (pos 0)))
  where
    by_test : (test : Bool) → (true && list_all term_fits (cond test [] (record { place = place; times = times } ∷ []))) ≡ true
    by_test true = refl
    by_test false = grind (arith, e)

-- ---- the loop over the others

abbrev SoFar : ℤ → Term → List Term → List Term → List Term → ℕ → Type 0
SoFar k term others before sums index = (rest : List Term → List Term) → before ++ merge_step k term rest others ≡ sums ++ merge_step k term rest (drop index others)

grown : (before sums after more tail old new : List Term) → before ++ old ≡ sums ++ new → new ≡ more ++ tail → after ≡ sums ++ more → before ++ old ≡ after ++ tail
grown before sums after more tail old new e f g = e ∙ ap (λ n. sums ++ n) f ∙ sym (append_assoc sums more tail) ∙ ap (λ n. n ++ tail) (sym g)

range_append : (xs ys : List Term) → list_all term_fits xs ≡ true → list_all term_fits ys ≡ true → list_all term_fits (xs ++ ys) ≡ true
range_append xs ys h e = list_all-append term_fits xs ys ∙ rw h e

pub takes_above : (k : ℤ) (term : Term) (others before sums after : List Term) (index : ℕ) (d : Term) → SoFar k term others before sums index → index < length others → term.place < (get_or others index d).place
    → after ≡ sums ++ term ∷ [] → list_all term_fits sums ≡ true → fits_128 term.times ≡ true → MergedTerm k term others before after index
takes_above k term others before sums after index d so_far h l is fits fit = record {
  few = omega arith;
  same = λ rest. grown before sums after (term ∷ []) (rest (drop index others)) _ _ (so_far rest) (merges_above k term rest others index d h l) is;
  fits = rw is (range_append sums (term ∷ []) fits (grind (arith, fit)));
}

takes_same : (k : ℤ) (term : Term) (others before sums after : List Term) (index : ℕ) (d : Term) → SoFar k term others before sums index → index < length others → (get_or others index d).place ≡ term.place
    → after ≡ sums ++ term_of term.place (term.times +ℤ k *ℤ (get_or others index d).times) → list_all term_fits sums ≡ true → fits_128 (term.times +ℤ k *ℤ (get_or others index d).times) ≡ true → MergedTerm k term others before after (index + 1)
takes_same k term others before sums after index d so_far h l is fits fit = record {
  few = omega arith;
  same = λ rest. grown before sums after (term_of term.place (term.times +ℤ k *ℤ (get_or others index d).times)) (rest (drop (index + 1) others)) _ _ (so_far rest) (merges_same k term rest others index d h l) is;
  fits = rw is (range_more sums term.place (term.times +ℤ k *ℤ (get_or others index d).times) fits fit);
}

pub takes_found : (k : ℤ) (term : Term) (others before sums after : List Term) (index : ℕ) (d : Term) (times : ℤ) → SoFar k term others before sums index → index < length others → (get_or others index d).place ≡ term.place
    → times ≡ term.times +ℤ k *ℤ (get_or others index d).times → fits_128 times ≡ true → after ≡ sums ++ term_of term.place times → list_all term_fits sums ≡ true → MergedTerm k term others before after (index + 1)
takes_found k term others before sums after index d times so_far h l e fit is fits =
    takes_same k term others before sums after index d so_far h l (is ∙ ap (λ n. sums ++ term_of term.place n) e) fits (ap fits_128 (sym e) ∙ fit)

pub takes_all : (k : ℤ) (term : Term) (others before sums after : List Term) (index : ℕ) → SoFar k term others before sums index → length others ≤ index
    → after ≡ sums ++ term ∷ [] → list_all term_fits sums ≡ true → fits_128 term.times ≡ true → MergedTerm k term others before after (length others)
takes_all k term others before sums after index so_far h is fits fit = record {
  few = omega arith;
  same = λ rest. grown before sums after (term ∷ []) (rest (drop (length others) others)) _ _ (so_far rest) (merges_end k term rest others index h ∙ ap (λ n. term ∷ rest n) (dropped_all others index h ∙ sym (dropped_all others (length others) (omega arith)))) is;
  fits = rw is (range_append sums (term ∷ []) fits (grind (arith, fit)));
}

pub goes_on : (k : ℤ) (term : Term) (others before sums after : List Term) (index : ℕ) (d : Term) → SoFar k term others before sums index → index < length others → (get_or others index d).place < term.place
    → after ≡ sums ++ multiple k (get_or others index d) → SoFar k term others before after (index + 1)
goes_on k term others before sums after index d so_far h l is rest =
    grown before sums after (multiple k (get_or others index d)) (merge_step k term rest (drop (index + 1) others)) _ _ (so_far rest) (merges_below k term rest others index d h l) is

stays_out : (before sums old : List Term) (place : ℕ) (times : ℤ) (more : List Term) → list_all term_fits before ≡ true → before ++ old ≡ sums ++ (term_of place times ++ more) → fits_128 times ≡ false → list_all term_fits old ≡ false
stays_out before sums old place times more fits e h =
    let both : (true && list_all term_fits old) ≡ false = rw fits at (sym (list_all-append term_fits before old) ∙ ap (list_all term_fits) e ∙ out_of_range sums place times more h) in
    both

pub stops_same : (k : ℤ) (term : Term) (others before sums : List Term) (index : ℕ) (d : Term) → SoFar k term others before sums index → index < length others → (get_or others index d).place ≡ term.place
    → list_all term_fits before ≡ true → fits_128 (term.times +ℤ k *ℤ (get_or others index d).times) ≡ false → (rest : List Term → List Term) → list_all term_fits (merge_step k term rest others) ≡ false
stops_same k term others before sums index d so_far h l fits fit rest = stays_out before sums _ term.place (term.times +ℤ k *ℤ (get_or others index d).times) (rest (drop (index + 1) others)) fits (so_far rest ∙ ap (λ n. sums ++ n) (merges_same k term rest others index d h l)) fit

-- ---- multiples

pub multiples_more : (k : ℤ) (terms : List Term) (i : ℕ) (d : Term) → i < length terms → flat_map (multiple k) (take (i + 1) terms) ≡ flat_map (multiple k) (take i terms) ++ multiple k (get_or terms i d)
multiples_more k terms i d h = ap (flat_map (multiple k)) (take_more terms i d h) ∙ sym (flat_map_more (multiple k) [] (take i terms) (get_or terms i d))

pub pushed_fits : (sums after : List Term) (place : ℕ) (times : ℤ) → after ≡ sums ++ term_of place times → list_all term_fits sums ≡ true → fits_128 times ≡ true → list_all term_fits after ≡ true
pushed_fits sums after place times is fits fit = rw is (range_more sums place times fits fit)

pub pushed_term : (old after : List Term) (place : ℕ) (times sum : ℤ) → times ≡ sum → (times ≡ pos 0 → ⊥) → after ≡ old ++ record { place = place; times = times } ∷ [] → after ≡ old ++ term_of place sum
pushed_term old after place times sum e apart is = rw (← e) (is ∙ ap (λ n. old ++ n) (sym (second_of [] (record { place = place; times = times } ∷ []) (int_eq times (pos 0)) (counted (int_eq times (pos 0)) refl))))
  where
    counted : (test : Bool) → int_eq times (pos 0) ≡ test → test ≡ false
    counted true h = absurd (apart ((Decides-int_eq times (pos 0)).0 h))
    counted false h = refl

pub multiples_grow : (k : ℤ) (terms old before after : List Term) (i : ℕ) (d : Term) → i < length terms → before ≡ old ++ flat_map (multiple k) (take i terms)
    → after ≡ before ++ multiple k (get_or terms i d) → after ≡ old ++ flat_map (multiple k) (take (i + 1) terms)
multiples_grow k terms old before after i d h e f =
    f ∙ ap (λ n. n ++ multiple k (get_or terms i d)) e ∙ append_assoc old (flat_map (multiple k) (take i terms)) (multiple k (get_or terms i d)) ∙ ap (λ n. old ++ n) (sym (multiples_more k terms i d h))

pub merged_stops : (k : ℤ) (terms others sums : List Term) (i next : ℕ) (d : Term) → sums ++ merged k (drop i terms) (drop next others) ≡ merged k terms others → list_all term_fits sums ≡ true → i < length terms
    → ((rest : List Term → List Term) → list_all term_fits (merge_step k (get_or terms i d) rest (drop next others)) ≡ false) → list_all term_fits (merged k terms others) ≡ false
merged_stops k terms others sums i next d here fits h out =
    ap (list_all term_fits) (sym here ∙ ap (λ n. sums ++ n) (at_drop_more (λ n. merged k n (drop next others)) terms i d h)) ∙ list_all-append term_fits sums (merge_step k (get_or terms i d) (merged k (drop (i + 1) terms)) (drop next others)) ∙ rw (fits, out (merged k (drop (i + 1) terms))) refl

drop_products : (factor : ℤ) (terms : List Term) (n : ℕ) → list_all (product_fits factor) terms ≡ true → list_all (product_fits factor) (drop n terms) ≡ true
drop_products factor terms zero h = h
drop_products factor [] (suc n) h = h
drop_products factor (term ∷ terms) (suc n) h = drop_products factor terms n ((and_parts (product_fits factor term) (list_all (product_fits factor) terms) h).1)

take_whole : {X : Type 0} (n : ℕ) (xs : List X) → length xs ≤ n → take n xs ≡ xs
take_whole zero [] h = refl
take_whole (suc n) [] h = refl
take_whole zero (x ∷ xs) h = absurd (omega arith)
take_whole (suc n) (x ∷ xs) h = ap (λ r. x ∷ r) (take_whole n xs (omega arith))

pub tail_slice : (xs : List Term) (n : ℕ) → take (length xs - n) (drop n xs) ≡ drop n xs
tail_slice xs n = take_whole (length xs - n) (drop n xs) (omega (arith, length-drop {A = Term}))

pub rest_products : (factor : ℤ) (terms : List Term) (n : ℕ) → list_all (product_fits factor) terms ≡ true → list_all (product_fits factor) (take (length terms - n) (drop n terms)) ≡ true
rest_products factor terms n h = rw (tail_slice terms n) (drop_products factor terms n h)

pub multiples_fit : (factor : ℤ) (terms : List Term) → list_all (product_fits factor) terms ≡ true → list_all term_fits (flat_map (multiple factor) terms) ≡ true
multiples_fit factor [] h = refl
multiples_fit factor (term ∷ terms) h =
    let both = and_parts (product_fits factor term) (list_all (product_fits factor) terms) h in
    list_all-append term_fits (multiple factor term) (flat_map (multiple factor) terms) ∙ both_hold _ _ (range_more [] term.place (factor *ℤ term.times) refl both.0) (multiples_fit factor terms both.1)
  where
    both_hold : (a b : Bool) → a ≡ true → b ≡ true → (a && b) ≡ true
    both_hold a b e f = rw (e, f) refl

-- After the last term the rest of the others is appended.
pub merged_done : (k : ℤ) (terms others sums after : List Term) (i next : ℕ) → sums ++ merged k (drop i terms) (drop next others) ≡ merged k terms others → length terms ≤ i → list_all term_fits sums ≡ true → list_all (product_fits k) others ≡ true
    → after ≡ sums ++ flat_map (multiple k) (drop next others) → Some after ≡ where_true (list_all term_fits) (merged k terms others)
merged_done k terms others sums after i next here done fits products is =
    passes (list_all term_fits) (merged k terms others) after all (ap (list_all term_fits) (sym all) ∙ rw is (range_append sums (flat_map (multiple k) (drop next others)) fits (multiples_fit k (drop next others) (drop_products k others next products))))
  where
    all : after ≡ merged k terms others
    all = is ∙ ap (λ n. sums ++ merged k n (drop next others)) (sym (dropped_all terms i done)) ∙ here
