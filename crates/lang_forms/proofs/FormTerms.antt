-- The terms of a form: made one by one, and a linear form where the scope is ordered.
use Rattle.std.proofs.Common.{◌≡◌, ℕ, zero, suc, ◌+◌, ◌<◌, ◌≤◌, ◌^◌, ℤ, pos, negsuc, Bool, true, false, cond, List, [], ◌∷◌, ◌++◌, length, get_or, take, map, refl, ap, sym, ◌∙◌, subst, add-one, suc-add, to_z, of_z, arith}
use Rattle.std.specs.List.{list_all, All}
use Rattle.std.specs.List.Sorted.{IsStrictlyIncreasing}
use Rattle.std.specs.Ordering.{int_eq}
use Rattle.std.proofs.lemmas.Int.{ints}
use mir.Syntax.{w128}
use Rattle.logic_linear.proofs.LinearLemmas.{at_each}
use Rattle.std.proofs.lemmas.List.{append-nil}
use Rattle.std.proofs.lemmas.List.Elements.{All-cons}
use Rattle.logic_linear.specs.declared.form.Term.{Term}
use Rattle.logic_linear.specs.Linear.{IsLinear, IsTerm, place_of as term_place}
use Rattle.lang_forms.specs.declared.scope.Meaning.{Meaning}
use Rattle.lang_forms.specs.declared.scope.Meaning.TheVariants as meanings
use Rattle.lang_forms.specs.declared.scope.Entry.{Entry}
use Rattle.lang_forms.specs.Forms.{Form, IsOrdered, meaning_places, meaning_place, places_of, terms_of}
use Rattle.lang_forms.specs.inner.FormBounds.{IsFormOf, FitsLinear, AreTimesOf, CanCount}
use Rattle.lang_base.specs.Numbers.{is_within}
use Rattle.lang_forms.proofs.Numbers.{bounds_within, read_fits, within_fits}

-- ---- made one by one

-- the term of an entry
abbrev pub term : Entry → ℤ → Term
term entry number = record { place = meaning_place entry.meaning; times = number }

-- a list after one that may be left out
kept_append : (out : Bool) (t : Term) (before middle after : List Term) → before ≡ middle ++ after → cond out before (t ∷ before) ≡ cond out middle (t ∷ middle) ++ after
kept_append true t before middle after is = is
kept_append false t before middle after is = ap (λ terms. t ∷ terms) is

terms_suc : (scope : List Entry) (times : List ℤ) (i : ℕ) (entry : Entry) (d : ℤ) → length times ≡ length scope → i < length scope → entry ≡ get_or scope i entry → terms_of (take (suc i) scope) (take (suc i) times) ≡ terms_of (take i scope) (take i times) ++ cond (int_eq (get_or times i d) (pos 0)) [] (term entry (get_or times i d) ∷ [])
terms_suc [] times i entry d same lt is = absurd (omega arith)
terms_suc (e ∷ scope) [] i entry d same lt is = absurd (omega arith)
terms_suc (e ∷ scope) (t ∷ times) zero entry d same lt is = rw is refl
terms_suc (e ∷ scope) (t ∷ times) (suc i) entry d same lt is = kept_append (int_eq t (pos 0)) (term e t) _ _ _ (terms_suc scope times i entry d (omega arith) (omega arith) is)

nonzero_test : (z : ℤ) → (z ≡ pos 0 → ⊥) → int_eq z (pos 0) ≡ false
nonzero_test z not = grind (arith, ints)

-- bits are 0 only where the number is
bits_of_zero : (z : ℤ) → is_within (2 ^ 94) z ≡ true → of_z w128 z ≡ 0 → z ≡ pos 0
bits_of_zero (pos n) within is = ap pos is
bits_of_zero (negsuc n) within is = absurd (grind (arith, ints))

small_at : (times : List ℤ) (i : ℕ) → list_all (is_within (2 ^ 94)) times ≡ true → i < length times → is_within (2 ^ 94) (get_or times i (pos 0)) ≡ true
small_at times i small lt = at_each (is_within (2 ^ 94)) times i (pos 0) lt small

pub terms_more : (scope : List Entry) (times : List ℤ) (i : ℕ) (entry : Entry) (place : ℕ) → length times ≡ length scope → list_all (is_within (2 ^ 94)) times ≡ true → i < length scope → entry ≡ get_or scope i entry → place ≡ meaning_place entry.meaning → (of_z w128 (get_or times i (pos 0)) ≡ 0 → ⊥) → terms_of (take (i + 1) scope) (take (i + 1) times) ≡ terms_of (take i scope) (take i times) ++ record { place = place; times = to_z w128 (of_z w128 (get_or times i (pos 0))) } ∷ []
terms_more scope times i entry place same small lt is place_is counts =
    let within = small_at times i small (omega arith) in
    let counts_not : int_eq (get_or times i (pos 0)) (pos 0) ≡ false = nonzero_test (get_or times i (pos 0)) (λ zero_is. counts (ap (of_z w128) zero_is)) in
    rw (add-one, place_is, read_fits (get_or times i (pos 0)) (within_fits (2 ^ 94) (get_or times i (pos 0)) within (omega arith))) (terms_suc scope times i entry (pos 0) same lt is ∙ ap (λ out. terms_of (take i scope) (take i times) ++ cond out [] (term entry (get_or times i (pos 0)) ∷ [])) counts_not)

pub terms_same : (scope : List Entry) (times : List ℤ) (i : ℕ) (entry : Entry) → length times ≡ length scope → list_all (is_within (2 ^ 94)) times ≡ true → i < length scope → entry ≡ get_or scope i entry → of_z w128 (get_or times i (pos 0)) ≡ 0 → terms_of (take (i + 1) scope) (take (i + 1) times) ≡ terms_of (take i scope) (take i times)
terms_same scope times i entry same small lt is zero_bits =
    let zero_is = bits_of_zero (get_or times i (pos 0)) (small_at times i small (omega arith)) zero_bits in
    rw add-one (terms_suc scope times i entry (pos 0) same lt is ∙ ap (λ z. terms_of (take i scope) (take i times) ++ cond (int_eq z (pos 0)) [] (term entry z ∷ [])) zero_is ∙ append-nil _)

-- ---- a linear form

-- the numbers rise strictly, and none is below the bound
abbrev pub RisesFrom : ℕ → List ℕ → Type 0
RisesFrom bound [] = Unit {0}
RisesFrom bound (x ∷ xs) = (bound ≤ x) × RisesFrom (suc x) xs

pub rises_below : (lower bound : ℕ) (xs : List ℕ) → lower ≤ bound → RisesFrom bound xs → RisesFrom lower xs
rises_below lower bound [] le rises = tt
rises_below lower bound (x ∷ xs) le rises = let above = rises.0 in (omega arith, rises.1)

pub rises_from_increasing : (bound : ℕ) (xs : List ℕ) → (0 < length xs → bound ≤ get_or xs 0 0) → IsStrictlyIncreasing xs → RisesFrom bound xs
rises_from_increasing bound [] above rises = tt
rises_from_increasing bound (x ∷ xs) above rises =
    (above (omega arith), rises_from_increasing (suc x) xs (λ more. let first = rises 0 (omega arith) in omega arith) (λ k lt. rw suc-add at (rises (suc k) (omega arith))))

head_rises : (bound : ℕ) (xs : List ℕ) → RisesFrom bound xs → 0 < length xs → bound ≤ get_or xs 0 0
head_rises bound [] rises more = absurd (omega arith)
head_rises bound (x ∷ xs) rises more = rises.0

pub increasing_from_rises : (bound : ℕ) (xs : List ℕ) → RisesFrom bound xs → IsStrictlyIncreasing xs
increasing_from_rises bound [] rises k lt = absurd (omega arith)
increasing_from_rises bound (x ∷ xs) rises zero lt = let first = head_rises (suc x) xs rises.1 (omega arith) in omega arith
increasing_from_rises bound (x ∷ xs) rises (suc k) lt = rw suc-add (increasing_from_rises (suc x) xs rises.1 k (omega arith))

place_rises : (out : Bool) (bound place : ℕ) (number : ℤ) (others : List ℕ) (terms : List Term) → ((lower : ℕ) → RisesFrom lower others → RisesFrom lower (map term_place terms)) → RisesFrom bound (place ∷ others) → RisesFrom bound (map term_place (cond out terms (record { place = place; times = number } ∷ terms)))
place_rises true bound place number others terms rest rises = let le = rises.0 in rises_below bound (suc place) _ (omega arith) (rest (suc place) rises.1)
place_rises false bound place number others terms rest rises = (rises.0, rest (suc place) rises.1)

-- an entry of a term has a place
entry_rises : (bound : ℕ) (meaning : Meaning) (number : ℤ) (others : List ℕ) (terms : List Term) → CanCount meaning number → ((lower : ℕ) → RisesFrom lower others → RisesFrom lower (map term_place terms)) → RisesFrom bound (meaning_places meaning others) → RisesFrom bound (map term_place (cond (int_eq number (pos 0)) terms (record { place = meaning_place meaning; times = number } ∷ terms)))
entry_rises bound (meanings.Number value) number others terms can rest rises = rw can (rest bound rises)
entry_rises bound (meanings.Int place) number others terms can rest rises = place_rises (int_eq number (pos 0)) bound place number others terms rest rises
entry_rises bound (meanings.Flag place) number others terms can rest rises = place_rises (int_eq number (pos 0)) bound place number others terms rest rises

pub terms_rise : (bound : ℕ) (scope : List Entry) (times : List ℤ) → AreTimesOf scope times → RisesFrom bound (places_of scope) → RisesFrom bound (map term_place (terms_of scope times))
terms_rise bound [] times fit rises = tt
terms_rise bound (entry ∷ scope) [] fit rises = tt
terms_rise bound (entry ∷ scope) (number ∷ times) fit rises =
    entry_rises bound entry.meaning number (places_of scope) (terms_of scope times) fit.0 (λ lower rest. terms_rise lower scope times fit.1 rest) rises

-- a number that is not 0, within the bound of a small form, is one of a term
is_term : (entry : Entry) (number : ℤ) → is_within (2 ^ 94) number ≡ true → int_eq number (pos 0) ≡ false → IsTerm (term entry number)
is_term entry number within counts =
    let both = bounds_within (2 ^ 94) number within in
    let above = both.0 in
    let below = both.1 in
    record { nonzero = λ is. absurd (grind (arith, ints)); above = omega (arith, ints); below = omega (arith, ints) }

first_term : (entry : Entry) (number : ℤ) (terms : List Term) (out : Bool) → int_eq number (pos 0) ≡ out → is_within (2 ^ 94) number ≡ true → All IsTerm terms → All IsTerm (cond out terms (term entry number ∷ terms))
first_term entry number terms true is within each = each
first_term entry number terms false is within each = All-cons IsTerm (term entry number) terms (is_term entry number within is) each

pub terms_are_terms : (scope : List Entry) (times : List ℤ) → list_all (is_within (2 ^ 94)) times ≡ true → All IsTerm (terms_of scope times)
terms_are_terms [] times within = λ k d lt. absurd (omega arith)
terms_are_terms (entry ∷ scope) [] within = λ k d lt. absurd (omega arith)
terms_are_terms (entry ∷ scope) (number ∷ times) within =
    let here : is_within (2 ^ 94) number ≡ true = grind arith in
    let rest : list_all (is_within (2 ^ 94)) times ≡ true = grind arith in
    first_term entry number (terms_of scope times) _ refl here (terms_are_terms scope times rest)

pub linear_is_linear : (scope : List Entry) (times : List ℤ) (constant : ℤ) → AreTimesOf scope times → list_all (is_within (2 ^ 94)) times ≡ true → is_within (2 ^ 94) constant ≡ true → IsOrdered scope → IsLinear (record { terms = terms_of scope times; constant = constant })
linear_is_linear scope times constant fit small whole ordered =
    let both = bounds_within (2 ^ 94) constant whole in
    let above = both.0 in
    let below = both.1 in
    record {
      rising = increasing_from_rises 0 _ (terms_rise 0 scope times fit (rises_from_increasing 0 (places_of scope) (λ more. omega arith) ordered));
      each = terms_are_terms scope times small;
      above = omega (arith, ints);
      below = omega (arith, ints);
    }

-- what `into_linear` makes of the fields of a form
pub made_is_linear : (scope : List Entry) (form : Form) (times : List ℤ) (constant : ℤ) (made : List Term) → record { times = times; constant = constant } ≡ form → IsFormOf scope form → FitsLinear form → IsOrdered scope → made ≡ terms_of scope times → IsLinear (record { terms = made; constant = to_z w128 (of_z w128 constant) })
made_is_linear scope form times constant made view fit small ordered is =
    let each : list_all (is_within (2 ^ 94)) times ≡ true = subst (λ f. list_all (is_within (2 ^ 94)) f.times ≡ true) (sym view) small.each in
    let whole : is_within (2 ^ 94) constant ≡ true = subst (λ f. is_within (2 ^ 94) f.constant ≡ true) (sym view) small.whole in
    let fit_here : AreTimesOf scope times = subst (λ f. AreTimesOf scope f.times) (sym view) fit in
    rw (is, read_fits constant (within_fits (2 ^ 94) constant whole (omega arith))) (linear_is_linear scope times constant fit_here each whole ordered)

pub times_length : (scope : List Entry) (times : List ℤ) → AreTimesOf scope times → length times ≡ length scope
times_length [] [] fit = refl
times_length (entry ∷ scope) (number ∷ times) fit = let rest = times_length scope times fit.1 in omega arith
times_length [] (number ∷ times) fit = absurd fit
times_length (entry ∷ scope) [] fit = absurd fit

pub small_times : (form : Form) (times : List ℤ) → times ≡ form.times → FitsLinear form → list_all (is_within (2 ^ 94)) times ≡ true
small_times form times is small = rw is small.each
