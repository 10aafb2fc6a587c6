-- A form at the places of a waiting client's inputs is a form.
use Rattle.std.proofs.Common.{◌≡◌, ℕ, zero, suc, ◌+◌, ◌<◌, ℤ, Bool, true, false, List, [], ◌∷◌, map, cond, sym, subst, arith, ap, refl, ◌∙◌}
use Rattle.std.specs.Prelude.{nat_lt}
use Rattle.std.specs.List.{All}
use Rattle.std.specs.List.Sorted.{IsStrictlyIncreasing}
use Rattle.std.proofs.lemmas.List.Elements.{All-cons}
use native.Mathlib.Numerals.{unary_clauses}
use Rattle.logic_linear.specs.declared.form.Term.{Term}
use Rattle.logic_linear.specs.Linear.{Linear, IsLinear, IsTerm, place_of}
use Rattle.lang_monitor.specs.Queries.{waiting_place, waiting_term, waiting_form}

place_rises : (a b : ℕ) → a < b → waiting_place a < waiting_place b
place_rises a b h = by_tests (nat_lt a 16) (nat_lt b 16) refl refl
  where
    by_tests : (first second : Bool) → nat_lt a 16 ≡ first → nat_lt b 16 ≡ second → cond first a (a + 16) < cond second b (b + 16)
    by_tests true true e f = h
    by_tests true false e f = omega arith
    by_tests false true e f = grind arith
    by_tests false false e f = omega arith

tail : (x : ℕ) (xs : List ℕ) → IsStrictlyIncreasing (x ∷ xs) → IsStrictlyIncreasing xs
tail x xs h k l = let e = h (suc k) (omega arith) in simp unary_clauses (simp unary_clauses at e)

head : (x y : ℕ) (xs : List ℕ) → IsStrictlyIncreasing (x ∷ y ∷ xs) → x < y
head x y xs h = h zero (omega arith)

cons : (x y : ℕ) (xs : List ℕ) → x < y → IsStrictlyIncreasing (y ∷ xs) → IsStrictlyIncreasing (x ∷ y ∷ xs)
cons x y xs l h zero b = l
cons x y xs l h (suc k) b = let e = h k (omega arith) in simp unary_clauses (simp unary_clauses at e)

rising : (terms : List Term) → IsStrictlyIncreasing (map place_of terms) → IsStrictlyIncreasing (map place_of (map waiting_term terms))
rising [] h = λ k l. absurd (omega arith)
rising (term ∷ []) h = λ k l. absurd (omega arith)
rising (term ∷ next ∷ terms) h =
    cons (waiting_place term.place) (waiting_place next.place) (map place_of (map waiting_term terms))
    (place_rises term.place next.place (head term.place next.place (map place_of terms) h))
    (rising (next ∷ terms) (tail term.place (map place_of (next ∷ terms)) h))

moved_term : (term : Term) → IsTerm term → IsTerm (waiting_term term)
moved_term term h = record { nonzero = h.nonzero; above = h.above; below = h.below }

each : (terms : List Term) → All IsTerm terms → All IsTerm (map waiting_term terms)
each [] h = λ k d l. absurd (omega arith)
each (term ∷ terms) h = All-cons IsTerm (waiting_term term) (map waiting_term terms) (moved_term term (h zero term (omega arith))) (each terms (λ k d l. h (suc k) d (omega arith)))

pub waiting_is_linear : (form : Linear) → IsLinear form → IsLinear (waiting_form form)
waiting_is_linear form h =
    record { rising = rising form.terms h.rising; each = each form.terms h.each; above = h.above; below = h.below }

pub made_is_linear : (form : Linear) (terms moved : List Term) (constant : ℤ) → IsLinear form → terms ≡ form.terms → moved ≡ map waiting_term terms → constant ≡ form.constant
    → IsLinear (record { terms = moved; constant = constant })
made_is_linear form terms moved constant rule same made held =
    subst IsLinear (λ i. record { terms = sym (made ∙ ap (map waiting_term) same) i; constant = sym held i }) (waiting_is_linear form rule)
