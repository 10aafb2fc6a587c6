-- A form in which another stands for a variable is a form where its numbers are in range, and then
-- no sum on the way leaves 128 bits.
use Rattle.std.proofs.Common.{◌≡◌, Option, Some, None, ℕ, zero, suc, ◌+◌, ◌<◌, ◌≤◌, ℤ, pos, ◌+ℤ◌, ◌*ℤ◌, ◌-ℤ◌, ◌≤ℤ◌, ◌^◌, neg_ℤ, Bool, true, false, not, cond, List, [], ◌∷◌, map, length, get_or, sym, arith, ap, refl, ◌∙◌, ⊎_elim}
use Rattle.std.specs.Prelude.{◌==◌, ◌&&◌}
use Rattle.std.specs.List.{list_all}
use Rattle.std.proofs.lemmas.Bool.{and_parts, cases_lt}
use Rattle.std.proofs.lemmas.Int.{ints}
use mir.Syntax.{w128}
use mir.Val.{to_z, of_z}
use Rattle.logic_linear.specs.declared.form.Term.{Term}
use Rattle.logic_linear.specs.Linear.{Linear, IsLinear, IsRising, place_of}
use Rattle.logic_linear.specs.Negation.{negative_term}
use Rattle.logic_linear.specs.Substitution.{times_at, replaced, is_in_range, has_term_in_range, is_linear_in_range, where_true}
use Rattle.logic_linear.specs.Sums.{combined_terms, fits_128, product_fits, term_fits, terms_fit, fitting_sum}
use Rattle.logic_linear.proofs.CombinedLemmas.{rises, combined_times, combined_rises, combined_counts, combined_is_rising}
use Rattle.logic_linear.proofs.LimitedLemmas.{passes, stops, and_false}
use Rattle.logic_linear.proofs.RisingLemmas.{RisesFrom, increasing_from_rises, others_of, others_rise, linear_rises, is_counted, each_in_range, each_counted, terms_from_tests, no_times, times_here, times_after}

-- ---- what is in range fits

range_fits : (z : ℤ) → is_in_range z ≡ true → fits_128 z ≡ true
range_fits z h = grind (arith, ints)

one_range_fits : (z : ℤ) → is_in_range z ≡ true → fits_128 (pos 1 *ℤ z) ≡ true
one_range_fits z h = grind (arith, ints)

both_hold : (a b : Bool) → a ≡ true → b ≡ true → (a && b) ≡ true
both_hold a b e f = rw (e, f) refl

all_range_fit : (terms : List Term) → list_all has_term_in_range terms ≡ true → list_all term_fits terms ≡ true
all_range_fit [] h = refl
all_range_fit (term ∷ terms) h = let both = and_parts (has_term_in_range term) (list_all has_term_in_range terms) h in both_hold _ _ (range_fits term.times both.0) (all_range_fit terms both.1)

ones_fit : (terms : List Term) → list_all has_term_in_range terms ≡ true → list_all (product_fits (pos 1)) terms ≡ true
ones_fit [] h = refl
ones_fit (term ∷ terms) h = let both = and_parts (has_term_in_range term) (list_all has_term_in_range terms) h in both_hold _ _ (one_range_fits term.times both.0) (ones_fit terms both.1)

times_in_range : (low place : ℕ) (terms : List Term) → RisesFrom low terms → list_all has_term_in_range terms ≡ true → is_in_range (times_at place terms) ≡ true
times_in_range low place [] h e = refl
times_in_range low place (term ∷ terms) h e =
    let both = and_parts (has_term_in_range term) (list_all has_term_in_range terms) e in
    by_test both.0 (times_in_range (term.place + 1) place terms h.1 both.1) (λ same. no_times (term.place + 1) place terms h.1 (omega arith)) (term.place == place) refl
  where
    plus_none : (t s : ℤ) → is_in_range t ≡ true → s ≡ pos 0 → is_in_range (t +ℤ s) ≡ true
    plus_none t s h e = rw e (let same : t +ℤ pos 0 ≡ t = omega (arith, ints) in rw same h)

    by_test : is_in_range term.times ≡ true → is_in_range (times_at place terms) ≡ true → (term.place ≡ place → times_at place terms ≡ pos 0) → (test : Bool) → (term.place == place) ≡ test
        → is_in_range (cond test (term.times +ℤ times_at place terms) (times_at place terms)) ≡ true
    by_test here later none true e = let same : term.place ≡ place = grind arith in plus_none term.times (times_at place terms) here (none same)
    by_test here later none false e = later

product_from_sum : (a z c : ℤ) → c ≡ pos 1 *ℤ a +ℤ z → is_in_range a ≡ true → is_in_range c ≡ true → fits_128 z ≡ true
product_from_sum a z c h e f = let same : z ≡ c -ℤ a = omega (arith, ints) in grind (arith, ints)

none_fits : (k z : ℤ) → z ≡ pos 0 → fits_128 (k *ℤ z) ≡ true
none_fits k z h = rw h (let same : k *ℤ pos 0 ≡ pos 0 = omega (arith, ints) in rw same refl)

each_fits : (low : ℕ) (k : ℤ) (terms : List Term) → RisesFrom low terms → ((place : ℕ) → fits_128 (k *ℤ times_at place terms) ≡ true) → list_all (product_fits k) terms ≡ true
each_fits low k [] h e = refl
each_fits low k (term ∷ terms) h e = both_hold _ _ (ap (λ n. fits_128 (k *ℤ n)) (sym (times_here low term terms h)) ∙ e term.place) (each_fits (term.place + 1) k terms h.1 later)
  where
    later : (place : ℕ) → fits_128 (k *ℤ times_at place terms) ≡ true
    later place =
        ⊎_elim (λ (below : place < term.place + 1). none_fits k (times_at place terms) (no_times (term.place + 1) place terms h.1 below))
        (λ (above : term.place + 1 ≤ place). ap (λ n. fits_128 (k *ℤ n)) (sym (times_after place term terms (λ same. omega arith))) ∙ e place)
        (cases_lt place (term.place + 1))

-- Where the sum is in range, no product or sum on the way to it leaves 128 bits.
sum_fits_on_the_way : (others : List Term) (k : ℤ) (bys : List Term) → IsRising others → IsRising bys → list_all has_term_in_range others ≡ true → list_all has_term_in_range (combined_terms (pos 1) others k bys) ≡ true → terms_fit (pos 1) others k bys ≡ true
sum_fits_on_the_way others k bys h g e f =
    both_hold _ _ (ones_fit others e) (both_hold _ _ (each_fits 0 k bys (rises bys g) product) (all_range_fit (combined_terms (pos 1) others k bys) f))
  where
    product : (place : ℕ) → fits_128 (k *ℤ times_at place bys) ≡ true
    product place =
        product_from_sum (times_at place others) (k *ℤ times_at place bys) (times_at place (combined_terms (pos 1) others k bys)) (combined_times place (pos 1) others k bys)
        (times_in_range 0 place others (rises others h) e) (times_in_range 0 place (combined_terms (pos 1) others k bys) (combined_rises (pos 1) others k bys (rises others h) (rises bys g)) f)

-- ---- the terms of the other places

pub others_are_rising : (place : ℕ) (form : Linear) → IsLinear form → IsRising (others_of place form.terms)
others_are_rising place form h = increasing_from_rises 0 (others_of place form.terms) (others_rise 0 place form.terms (linear_rises form h))

others_range : (place : ℕ) (terms : List Term) → list_all has_term_in_range terms ≡ true → list_all has_term_in_range (others_of place terms) ≡ true
others_range place [] h = refl
others_range place (term ∷ terms) h = let both = and_parts (has_term_in_range term) (list_all has_term_in_range terms) h in by_test both.0 (others_range place terms both.1) (term.place == place)
  where
    by_test : has_term_in_range term ≡ true → list_all has_term_in_range (others_of place terms) ≡ true → (same : Bool) → list_all has_term_in_range (cond (not same) (term ∷ others_of place terms) (others_of place terms)) ≡ true
    by_test here rest true = rest
    by_test here rest false = grind (arith, here, rest)

others_in_range : (place : ℕ) (form : Linear) → IsLinear form → list_all has_term_in_range (others_of place form.terms) ≡ true
others_in_range place form h = others_range place form.terms (each_in_range form.terms h.each)

-- ---- answers

first_false : (a b : Bool) → a ≡ false → (a && b) ≡ false
first_false a b h = rw h refl

second_false : (a b : Bool) → b ≡ false → (a && b) ≡ false
second_false a b h = rw h (and_false a)

one_times : (z : ℤ) → pos 1 *ℤ z ≡ z
one_times z = omega (arith, ints)

pub constant_stops : (place : ℕ) (by form : Linear) (k : ℤ) → k ≡ times_at place form.terms → is_in_range (form.constant +ℤ k *ℤ by.constant) ≡ false → None ≡ where_true is_linear_in_range (replaced place by form)
constant_stops place by form k e out =
    let here : is_in_range (replaced place by form).constant ≡ false = ap (λ n. is_in_range (n +ℤ times_at place form.terms *ℤ by.constant)) (one_times form.constant) ∙ rw (← e) out in
    stops is_linear_in_range (replaced place by form) (second_false (list_all has_term_in_range (replaced place by form).terms) _ here)

pub terms_stop : (place : ℕ) (by form : Linear) → list_all has_term_in_range (replaced place by form).terms ≡ false → None ≡ where_true is_linear_in_range (replaced place by form)
terms_stop place by form out = stops is_linear_in_range (replaced place by form) (first_false _ (is_in_range (replaced place by form).constant) out)

misfits : (test : Bool) (terms : List Term) → None ≡ cond test (Some terms) None → test ≡ false
misfits true terms h = absurd cc
misfits false terms h = refl

fits_found : (test : Bool) (terms found : List Term) → Some found ≡ cond test (Some terms) None → found ≡ terms
fits_found true terms found h = cc
fits_found false terms found h = absurd cc

-- Where the sum does not fit, a number is out of range.
pub sum_stops : (place : ℕ) (by form : Linear) → IsLinear form → IsLinear by → None ≡ fitting_sum (pos 1) (others_of place form.terms) (times_at place form.terms) by.terms → None ≡ where_true is_linear_in_range (replaced place by form)
sum_stops place by form h g none = terms_stop place by form (by_test (list_all has_term_in_range (combined_terms (pos 1) (others_of place form.terms) (times_at place form.terms) by.terms)) refl)
  where
    by_test : (test : Bool) → list_all has_term_in_range (combined_terms (pos 1) (others_of place form.terms) (times_at place form.terms) by.terms) ≡ test → test ≡ false
    by_test true e =
        let no = misfits (terms_fit (pos 1) (others_of place form.terms) (times_at place form.terms) by.terms) _ none in
        let yes = sum_fits_on_the_way (others_of place form.terms) (times_at place form.terms) by.terms (others_are_rising place form h) g.rising (others_in_range place form h) e in
        absurd (let clash : true ≡ false = sym yes ∙ no in cc)
    by_test false e = refl

pub sum_found : (place : ℕ) (by form : Linear) (terms : List Term) → Some terms ≡ fitting_sum (pos 1) (others_of place form.terms) (times_at place form.terms) by.terms → terms ≡ (replaced place by form).terms
sum_found place by form terms some = fits_found (terms_fit (pos 1) (others_of place form.terms) (times_at place form.terms) by.terms) _ terms some

-- A form in which another stands for a variable is a form, where its numbers are in range.
pub replaced_is_linear : (place : ℕ) (by form : Linear) (terms : List Term) (constant : ℤ) → IsLinear by → IsLinear form → terms ≡ (replaced place by form).terms → list_all has_term_in_range terms ≡ true → is_in_range constant ≡ true → IsLinear (record { terms = terms; constant = constant })
replaced_is_linear place by form terms constant h g is fits fit =
    record {
      rising = rw is (combined_is_rising (pos 1) (others_of place form.terms) (times_at place form.terms) by.terms (others_are_rising place form g) h.rising);
      each = terms_from_tests terms fits (rw is (combined_counts (pos 1) (others_of place form.terms) (times_at place form.terms) by.terms));
      above = grind (arith, ints);
      below = grind (arith, ints);
    }

pub same_linear_parts : (a b : Linear) (terms : List Term) (constant : ℤ) → a.terms ≡ terms → a.constant ≡ constant → b.terms ≡ terms → b.constant ≡ constant → a ≡ b
same_linear_parts a b terms constant e f g h = linear_of (e ∙ sym g) (f ∙ sym h)
  where
    linear_of : a.terms ≡ b.terms → a.constant ≡ b.constant → a ≡ b
    linear_of e f = λ i. record { terms = e i; constant = f i }

pub made_passes : (place : ℕ) (by form made : Linear) (k : ℤ) → k ≡ times_at place form.terms → made.terms ≡ (replaced place by form).terms → made.constant ≡ form.constant +ℤ k *ℤ by.constant → list_all has_term_in_range made.terms ≡ true → is_in_range made.constant ≡ true
    → Some made ≡ where_true is_linear_in_range (replaced place by form)
made_passes place by form made k e f g h l =
    let constant : made.constant ≡ (replaced place by form).constant = g ∙ rw (e, one_times form.constant) refl in
    let first : list_all has_term_in_range (replaced place by form).terms ≡ true = rw (← f) h in
    let second : is_in_range (replaced place by form).constant ≡ true = rw (← constant) l in
    passes is_linear_in_range (replaced place by form) made (same_linear_parts made (replaced place by form) _ _ f constant refl refl) (both_hold _ _ first second)

pub linear_in_range : (form : Linear) → IsLinear form → is_linear_in_range form ≡ true
linear_in_range form h =
    let terms = each_in_range form.terms h.each in
    let above = h.above in
    let below = h.below in
    let constant : is_in_range form.constant ≡ true = grind (arith, ints) in
    grind (arith, terms, constant)

-- ---- what the code made

pub made_others_rise : (place : ℕ) (form : Linear) (slice others terms : List Term) → IsLinear form → slice ≡ others → others ≡ others_of place terms → terms ≡ form.terms → IsRising slice
made_others_rise place form slice others terms h e f g = rw (e, f, g) (others_are_rising place form h)

pub made_sum : (place : ℕ) (by form : Linear) (k : ℤ) (slice others terms bys : List Term) (answer : Option (List Term)) → k ≡ times_at place form.terms → slice ≡ others → others ≡ others_of place terms → terms ≡ form.terms → bys ≡ by.terms
    → answer ≡ fitting_sum (pos 1) slice k bys → answer ≡ fitting_sum (pos 1) (others_of place form.terms) (times_at place form.terms) by.terms
made_sum place by form k slice others terms bys answer e f g h l is = is ∙ rw (f, g, h, e, l) refl

pub made_stops : (place : ℕ) (by form : Linear) (terms items : List Term) → terms ≡ (replaced place by form).terms → items ≡ terms → false ≡ list_all has_term_in_range items → None ≡ where_true is_linear_in_range (replaced place by form)
made_stops place by form terms items e f h = terms_stop place by form (ap (list_all has_term_in_range) (sym (f ∙ e)) ∙ sym h)

pub constant_is : (x a b k first second : ℤ) → x ≡ a +ℤ k *ℤ b → a ≡ first → b ≡ second → x ≡ first +ℤ k *ℤ second
constant_is x a b k first second e f g = e ∙ rw (f, g) refl

-- ---- negations in range

too_high : (z : ℤ) → z ≤ℤ neg_ℤ (pos (2 ^ 95)) → is_in_range (neg_ℤ z) ≡ false
too_high z h = grind (arith, ints)

pub negatable_stops : (terms : List Term) (i : ℕ) (d : Term) → i < length terms → (get_or terms i d).times ≤ℤ neg_ℤ (pos (2 ^ 95)) → false ≡ list_all has_term_in_range (map negative_term terms)
negatable_stops [] i d h e = absurd (omega arith)
negatable_stops (term ∷ terms) zero d h e = let no : is_in_range (neg_ℤ term.times) ≡ false = too_high term.times e in grind (arith, no)
negatable_stops (term ∷ terms) (suc i) d h e = let rest = negatable_stops terms i d (omega arith) e in last_false (has_term_in_range (negative_term term)) _ rest
  where
    last_false : (a b : Bool) → false ≡ b → false ≡ (a && b)
    last_false true b h = h
    last_false false b h = refl

negatives_count : (terms : List Term) → list_all is_counted terms ≡ true → list_all is_counted (map negative_term terms) ≡ true
negatives_count [] h = refl
negatives_count (term ∷ terms) h =
    let both = and_parts (is_counted term) (list_all is_counted terms) h in
    let rest = negatives_count terms both.1 in
    let first = both.0 in
    let here : is_counted (negative_term term) ≡ true = grind (arith, ints, first) in
    grind (arith, here, rest)

same_places : (terms : List Term) → map place_of (map negative_term terms) ≡ map place_of terms
same_places [] = refl
same_places (term ∷ terms) = ap (λ places. term.place ∷ places) (same_places terms)

pub one_less_made : (form : Linear) (terms made : List Term) (constant : ℤ) → IsLinear form → terms ≡ form.terms → made ≡ map negative_term terms → list_all has_term_in_range (map negative_term terms) ≡ true
    → constant ≡ form.constant → (pos 2 -ℤ pos (2 ^ 95)) ≤ℤ constant → IsLinear (record { terms = made; constant = pos 1 -ℤ constant })
one_less_made form terms made constant h e f fits g low =
    let above = h.above in
    let below = h.below in
    let counted : list_all is_counted made ≡ true = rw (f, e) (negatives_count form.terms (each_counted form.terms h.each)) in
    record {
      rising = rw (f, e, same_places form.terms) h.rising;
      each = terms_from_tests made (rw f fits) counted;
      above = omega (arith, ints);
      below = omega (arith, ints);
    }

pub constant_read : (z : ℤ) → neg_ℤ (pos (2 ^ 96)) ≤ℤ z → z ≤ℤ pos (2 ^ 96) → to_z w128 (of_z w128 (pos 1 -ℤ to_z w128 (of_z w128 z))) ≡ pos 1 -ℤ z
constant_read z h g = omega (arith, ints)
