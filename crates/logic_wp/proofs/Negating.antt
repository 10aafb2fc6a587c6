-- The conditions of a monitor's statements can be negated.
use Rattle.std.proofs.Common.{◌≡◌, ◌^◌, ℤ, Bool, true, ◌&&◌, List, [], ◌∷◌, map, sym, subst, arith, refl, ◌∙◌}
use Rattle.std.specs.List.{list_all}
use Rattle.std.proofs.lemmas.Bool.{and_parts}
use Rattle.std.proofs.lemmas.Int.{ints}
use Rattle.std.proofs.lemmas.List.Folds.{list_all-map}
use Rattle.logic_linear.specs.declared.form.Term.{Term}
use Rattle.logic_linear.specs.declared.formula.Formula.{Formula}
use Rattle.logic_linear.specs.declared.formula.Formula.TheOpen.{Formula-F, Row, Flag, All as Every, Any as Some_of}
use Rattle.logic_linear.specs.declared.formula.Formula.TheViews.{roll-Formula}
use Rattle.logic_linear.specs.declared.formula.Formula.TheFolds.{ind-Formula, map-Formula, fold-roll-Formula}
use Rattle.logic_linear.specs.Negation.{can_negate_number, can_negate_term, can_negate_layer, can_negate}
use Rattle.lang_base.specs.Numbers.{is_within}
use Rattle.lang_base.specs.declared.kind.Kind.TheVariants as kinds
use Rattle.lang_monitor.specs.MonitorParts.{Places, kind_at, is_kind, fits_term, fits_formula_step, fits_formula, fits_put, fits_statement}
use Rattle.lang_monitor.specs.declared.monitor.Stmt.{Stmt}
use Rattle.lang_monitor.proofs.Statements.{every_weaker}
use Rattle.logic_wp.specs.inner.Negatable.{negates_statement, negates_body}

small_negates : (number : ℤ) → is_within (2 ^ 31) number ≡ true → can_negate_number number ≡ true
small_negates number h = grind (arith, ints)

constant_negates : (number : ℤ) → is_within (2 ^ 64) number ≡ true → can_negate_number number ≡ true
constant_negates number h = grind (arith, ints)

both_hold : (a b : Bool) → a ≡ true → b ≡ true → (a && b) ≡ true
both_hold a b e f = rw (e, f) refl

terms_negate : (places : Places) (terms : List Term) → list_all (fits_term places) terms ≡ true → list_all can_negate_term terms ≡ true
terms_negate places [] h = refl
terms_negate places (term ∷ terms) h =
    let both = and_parts (fits_term places term) (list_all (fits_term places) terms) h in
    let number = (and_parts (is_kind kinds.Int (kind_at places term.place)) (is_within (2 ^ 31) term.times) both.0).1 in
    both_hold (can_negate_term term) (list_all can_negate_term terms) (small_negates term.times number) (terms_negate places terms both.1)

abbrev Negates : Places → Formula → Type 0
Negates places formula = fits_formula places formula ≡ true → can_negate formula ≡ true

parts_negate : (places : Places) (parts : List ((formula : Formula) × Negates places formula)) → list_all (λ part. part) (map (fits_formula places) (map (λ part. part.0) parts)) ≡ true → list_all (λ part. part) (map can_negate (map (λ part. part.0) parts)) ≡ true
parts_negate places [] h = refl
parts_negate places (part ∷ parts) h =
    let both = and_parts (fits_formula places part.0) (list_all (λ part. part) (map (fits_formula places) (map (λ part. part.0) parts))) h in
    both_hold (can_negate part.0) (list_all (λ part. part) (map can_negate (map (λ part. part.0) parts))) (part.1 both.0) (parts_negate places parts both.1)

abbrev LayerNegates : Places → Formula-F Formula → Type 0
LayerNegates places layer = fits_formula_step places (map-Formula _ Bool (fits_formula places) layer) ≡ true → can_negate_layer (map-Formula _ Bool can_negate layer) ≡ true

layer_negates : (places : Places) (layer : Formula-F ((formula : Formula) × Negates places formula)) → LayerNegates places (map-Formula _ Formula (λ part. part.0) layer)
layer_negates places (Row form) h =
    let both = and_parts (list_all (fits_term places) form.terms) (is_within (2 ^ 64) form.constant) h in
    both_hold (list_all can_negate_term form.terms) (can_negate_number form.constant) (terms_negate places form.terms both.0) (constant_negates form.constant both.1)
layer_negates places (Flag place is) h = refl
layer_negates places (Every parts) h = parts_negate places parts h
layer_negates places (Some_of parts) h = parts_negate places parts h

-- A formula of a monitor can be negated.
pub formula_negates : (places : Places) (formula : Formula) → Negates places formula
formula_negates places = ind-Formula (Negates places) (λ layer parts is. whole layer (subst (LayerNegates places) is (layer_negates places parts)))
  where
    whole : (layer : Formula-F Formula) → LayerNegates places layer → Negates places (roll-Formula layer)
    whole layer negates h = fold-roll-Formula Bool can_negate_layer layer ∙ negates (sym (fold-roll-Formula Bool (fits_formula_step places) layer) ∙ h)

-- The conditions of a monitor's body can be negated.
pub fitting_body_negates : (places : Places) (body : List Stmt) → list_all (fits_statement places) body ≡ true → negates_body body ≡ true
fitting_body_negates places body h =
    list_all-map (λ inner. inner) negates_statement body
    ∙ every_weaker (fits_put places) (λ put. true) (fits_formula places) can_negate (λ put fits. refl) (formula_negates places) body h
