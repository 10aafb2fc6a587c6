-- Valuations with one value changed.
use Rattle.std.proofs.Common.{◌≡◌, ℕ, ℤ, Bool, true, false, not, cond, ◌||◌, List, [], ◌∷◌, ◌++◌, arith, ap, refl, sym, ◌∙◌}
use Rattle.std.specs.Prelude.{◌==◌}
use Rattle.std.specs.List.{filter}
use Rattle.std.proofs.lemmas.List.Folds.{list_any-append}
use Rattle.logic_linear.specs.Truth.{Valuation}
use Rattle.logic_solve.specs.declared.valuation.NumberAt.{NumberAt}
use Rattle.logic_solve.specs.declared.valuation.Solution.{Solution}
use Rattle.logic_solve.specs.Solutions.{number_among, is_listed, valuation_of}
use Rattle.plan_why.specs.inner.Running.{flags_with, is_other, with_number, with_truth}

same_valuation : (a b : Valuation) → ((at : ℕ) → a.number at ≡ b.number at) → ((at : ℕ) → a.flag at ≡ b.flag at) → a ≡ b
same_valuation a b h g = λ i. record { number = λ at. h at i; flag = λ at. g at i }

same_test : (a b : ℕ) → (a == b) ≡ (b == a)
same_test a b = by (a == b) refl
  where
    by : (test : Bool) → (a == b) ≡ test → (a == b) ≡ (b == a)
    by true e = let here : (b == a) ≡ true = grind arith in e ∙ sym here
    by false e = let here : (b == a) ≡ false = grind arith in e ∙ sym here

pub same_lists : (at next : Solution) → next.numbers ≡ at.numbers → next.flags ≡ at.flags → valuation_of next ≡ valuation_of at
same_lists at next e f = same_valuation (valuation_of next) (valuation_of at) (λ place. ap (λ (some : List NumberAt). number_among some place) e) (λ place. ap (λ (some : List ℕ). is_listed some place) f)

pub put_number : (at next : Solution) (place : ℕ) (number : ℤ) → next.numbers ≡ record { place = place; number = number } ∷ at.numbers → next.flags ≡ at.flags → valuation_of next ≡ with_number place number (valuation_of at)
put_number at next place number e f =
    same_valuation (valuation_of next) (with_number place number (valuation_of at))
    (λ other. ap (λ (some : List NumberAt). number_among some other) e ∙ ap (λ (test : Bool). cond test number (number_among at.numbers other)) (same_test place other))
    (λ other. ap (λ (some : List ℕ). is_listed some other) f)

-- the other flags
others_listed : (place : ℕ) (flags : List ℕ) (at : ℕ) → is_listed (filter (is_other place) flags) at ≡ cond (at == place) false (is_listed flags at)
others_listed place [] at = by (at == place)
  where
    by : (same : Bool) → false ≡ cond same false false
    by true = refl
    by false = refl
others_listed place (first ∷ flags) at = by (first == place) (first == at) (at == place) refl refl refl (others_listed place flags at)
  where
    More : Bool
    More = is_listed (filter (is_other place) flags) at

    clash : (first == place) ≡ true → (first == at) ≡ true → (at == place) ≡ false → ⊥
    clash e f g = let here : (at == place) ≡ true = grind arith in let no : true ≡ false = sym here ∙ g in cc

    clash_too : (first == place) ≡ false → (first == at) ≡ true → (at == place) ≡ true → ⊥
    clash_too e f g = let here : (first == place) ≡ true = grind arith in let no : true ≡ false = sym here ∙ e in cc

    by : (is_place is_at same : Bool) → (first == place) ≡ is_place → (first == at) ≡ is_at → (at == place) ≡ same → More ≡ cond same false (is_listed flags at)
        → is_listed (cond (not is_place) (first ∷ filter (is_other place) flags) (filter (is_other place) flags)) at ≡ cond same false (is_at || is_listed flags at)
    by true true true e f g later = later
    by true true false e f g later = absurd (clash e f g)
    by true false same e f g later = later
    by false true true e f g later = absurd (clash_too e f g)
    by false true false e f g later = ap (λ (test : Bool). test || More) f
    by false false true e f g later = ap (λ (test : Bool). test || More) f ∙ later
    by false false false e f g later = ap (λ (test : Bool). test || More) f ∙ later

flags_so : (place : ℕ) (truth : Bool) (flags : List ℕ) (at : ℕ) → is_listed (flags_with place truth flags) at ≡ cond (at == place) truth (is_listed flags at)
flags_so place truth flags at =
    list_any-append (λ other. other == at) (filter (is_other place) flags) (cond truth (place ∷ []) [])
    ∙ ap (λ (some : Bool). some || is_listed (cond truth (place ∷ []) []) at) (others_listed place flags at)
    ∙ by truth (place == at) (at == place) refl refl
  where
    clash : (place == at) ≡ true → (at == place) ≡ false → ⊥
    clash e f = let here : (at == place) ≡ true = grind arith in let no : true ≡ false = sym here ∙ f in cc

    clash_too : (place == at) ≡ false → (at == place) ≡ true → ⊥
    clash_too e f = let here : (place == at) ≡ true = grind arith in let no : true ≡ false = sym here ∙ e in cc

    or_none : (a : Bool) → (a || false) ≡ a
    or_none true = refl
    or_none false = refl

    by : (truth is_at same : Bool) → (place == at) ≡ is_at → (at == place) ≡ same → (cond same false (is_listed flags at) || is_listed (cond truth (place ∷ []) []) at) ≡ cond same truth (is_listed flags at)
    by true true true e f = ap (λ (test : Bool). test || false) e
    by true true false e f = absurd (clash e f)
    by true false true e f = absurd (clash_too e f)
    by true false false e f = ap (λ (test : Bool). is_listed flags at || (test || false)) e ∙ or_none (is_listed flags at)
    by false is_at true e f = refl
    by false is_at false e f = or_none (is_listed flags at)

pub put_truth : (at next : Solution) (place : ℕ) (truth : Bool) → next.numbers ≡ at.numbers → next.flags ≡ flags_with place truth at.flags → valuation_of next ≡ with_truth place truth (valuation_of at)
put_truth at next place truth e f =
    same_valuation (valuation_of next) (with_truth place truth (valuation_of at))
    (λ other. ap (λ (some : List NumberAt). number_among some other) e)
    (λ other. ap (λ (some : List ℕ). is_listed some other) f ∙ flags_so place truth at.flags other)
