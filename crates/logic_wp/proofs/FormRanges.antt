-- The numbers of forms are in range.
use Rattle.std.proofs.Common.{◌≡◌, zero, suc, Bool, true, ◌&&◌, List, [], ◌∷◌, arith, refl}
use Rattle.std.specs.List.{All, list_all}
use Rattle.std.proofs.lemmas.Int.{ints}
use Rattle.logic_linear.specs.declared.form.Term.{Term}
use Rattle.logic_linear.specs.Linear.{Linear, IsLinear, IsTerm}
use Rattle.logic_linear.specs.Substitution.{is_in_range, has_term_in_range, is_linear_in_range}

both_hold : (a b : Bool) → a ≡ true → b ≡ true → (a && b) ≡ true
both_hold a b e f = rw (e, f) refl

terms_in_range : (terms : List Term) → All IsTerm terms → list_all has_term_in_range terms ≡ true
terms_in_range [] h = refl
terms_in_range (term ∷ terms) h =
    let here = h zero term (omega arith) in
    let above = here.above in
    let below = here.below in
    let one : is_in_range term.times ≡ true = grind (arith, ints) in
    both_hold (has_term_in_range term) (list_all has_term_in_range terms) one (terms_in_range terms (λ k d l. h (suc k) d (omega arith)))

pub form_in_range : (form : Linear) → IsLinear form → is_linear_in_range form ≡ true
form_in_range form h =
    let above = h.above in
    let below = h.below in
    let constant : is_in_range form.constant ≡ true = grind (arith, ints) in
    both_hold (list_all has_term_in_range form.terms) (is_in_range form.constant) (terms_in_range form.terms h.each) constant
