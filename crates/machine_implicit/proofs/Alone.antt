-- A guard that reads no inputs fits a state alone.
use Rattle.std.proofs.Common.{◌≡◌, ℕ, ◌-◌, ◌<◌, ◌≤◌, Bool, true, false, ◌&&◌, ◌||◌, List, [], ◌∷◌, length, get_or, map, refl, sym, ap, subst, ◌∙◌, arith}
use Rattle.std.specs.Prelude.{nat_le, nat_lt, slice_get, IsSomeAnd}
use Rattle.std.specs.List.{list_all, list_any}
use Rattle.std.proofs.lemmas.Bool.Decides.{nat_tests}
use Rattle.std.proofs.lemmas.List.{get_or_default}
use Rattle.std.proofs.lemmas.Option.{slice_get-get_or}
use Rattle.logic_linear.specs.declared.form.Term.{Term}
use Rattle.logic_linear.specs.Truth.{truth_of}
use Rattle.logic_linear.specs.declared.formula.Formula.{Formula}
use Rattle.logic_linear.specs.declared.formula.Formula.TheOpen.{Formula-F, Row, Flag, All as Every, Any as Some_of}
use Rattle.logic_linear.specs.declared.formula.Formula.TheViews.{roll-Formula}
use Rattle.logic_linear.specs.declared.formula.Formula.TheFolds.{ind-Formula, map-Formula, fold-roll-Formula}
use Rattle.lang_base.specs.Numbers.{is_within}
use Rattle.lang_base.specs.declared.kind.Kind.{Kind}
use Rattle.lang_base.specs.declared.kind.Kind.TheVariants as kinds
use Rattle.lang_base.specs.declared.value.Value.{Value}
use Rattle.lang_monitor.specs.declared.monitor.Block.{Block}
use Rattle.lang_monitor.specs.declared.monitor.Condition.{Condition}
use Rattle.lang_monitor.specs.Bodies.{no_inputs, valuation}
use Rattle.lang_monitor.specs.Inputs.{reads_inputs, reads_step, reads_term}
use Rattle.lang_monitor.specs.MonitorParts.{IsMonitor, MonitorParts, Places, fits_formula, fits_term, fits_formula_step, is_kind, kind_at, kinds_of, method_places}
use Rattle.lang_monitor.proofs.Classes.{at_place, some_of}
use Rattle.machine_implicit.specs.Steps.{FitsState, ReadsNoInputs, condition_guard_truth, condition_truth}
use Rattle.machine_implicit.specs.inner.Held.{held_places}
use Rattle.machine_implicit.proofs.Held.{kinds_held}
use Rattle.machine_implicit.proofs.Placed.{placed_at, guard_fits}

or_none : (a b : Bool) → (a || b) ≡ false → (a ≡ false) × (b ≡ false)
or_none true b none = absurd (cc)
or_none false b none = (refl, none)

both : (a b : Bool) → a ≡ true → b ≡ true → (a && b) ≡ true
both a b one two = rw (one, two) refl

-- with no inputs and no locals
abbrev fields_alone : List Kind → Places
fields_alone fields = record { fields = fields; inputs = []; locals = [] }

-- ---- terms

kind_alone : (places : Places) (place : ℕ) → nat_le 16 place ≡ false → kind_at places place ≡ kind_at (fields_alone places.fields) place
kind_alone places place low = let field : nat_lt place 16 ≡ true = grind (arith, nat_tests) in rw field refl

term_alone : (places : Places) (term : Term) → reads_term term ≡ false → fits_term places term ≡ fits_term (fields_alone places.fields) term
term_alone places term low = ap (λ kind. is_kind kinds.Int kind && is_within (2147483648) term.times) (kind_alone places term.place low)

terms_alone : (places : Places) (terms : List Term) → list_any reads_term terms ≡ false → list_all (fits_term places) terms ≡ list_all (fits_term (fields_alone places.fields)) terms
terms_alone places [] low = refl
terms_alone places (term ∷ terms) low =
    let parts = or_none (reads_term term) (list_any reads_term terms) low in
    rw (term_alone places term parts.0, terms_alone places terms parts.1) refl

-- ---- formulas

abbrev Alone : Places → Formula → Type 0
Alone places formula = reads_inputs formula ≡ false → fits_formula places formula ≡ fits_formula (fields_alone places.fields) formula

parts_alone : (places : Places) (parts : List ((formula : Formula) × Alone places formula)) → list_any (λ part. part) (map reads_inputs (map (λ part. part.0) parts)) ≡ false
    → list_all (λ part. part) (map (fits_formula places) (map (λ part. part.0) parts)) ≡ list_all (λ part. part) (map (fits_formula (fields_alone places.fields)) (map (λ part. part.0) parts))
parts_alone places [] low = refl
parts_alone places (part ∷ parts) low =
    let both = or_none (reads_inputs part.0) (list_any (λ part. part) (map reads_inputs (map (λ part. part.0) parts))) low in
    rw (part.1 both.0, parts_alone places parts both.1) refl

abbrev LayerAlone : Places → Formula-F Formula → Type 0
LayerAlone places layer =
    reads_step (map-Formula _ Bool reads_inputs layer) ≡ false
    → fits_formula_step places (map-Formula _ Bool (fits_formula places) layer) ≡ fits_formula_step (fields_alone places.fields) (map-Formula _ Bool (fits_formula (fields_alone places.fields)) layer)

layer_alone : (places : Places) (layer : Formula-F ((formula : Formula) × Alone places formula)) → LayerAlone places (map-Formula _ Formula (λ part. part.0) layer)
layer_alone places (Row form) low = rw (terms_alone places form.terms low) refl
layer_alone places (Flag place is) low = ap (is_kind kinds.Bool) (kind_alone places place low)
layer_alone places (Every parts) low = parts_alone places parts low
layer_alone places (Some_of parts) low = parts_alone places parts low

formula_alone : (places : Places) (layer : Formula-F Formula) → LayerAlone places layer → Alone places (roll-Formula layer)
formula_alone places layer alone low =
    fold-roll-Formula Bool (fits_formula_step places) layer
    ∙ alone (sym (fold-roll-Formula Bool reads_step layer) ∙ low)
    ∙ sym (fold-roll-Formula Bool (fits_formula_step (fields_alone places.fields)) layer)

-- a formula that reads no inputs fits without them
fits_alone : (places : Places) (formula : Formula) → Alone places formula
fits_alone places = ind-Formula (Alone places) (λ layer parts is. formula_alone places layer (subst (LayerAlone places) is (layer_alone places parts)))

-- ---- conditions

-- the guard of the condition at an index is that of a block of it, which fits
fits_some_block : (monitor : MonitorParts) (number : ℕ) (condition : Condition) (block : Block) → IsMonitor monitor → 1 ≤ number → number ≤ length monitor.conditions
    → (owner : ℕ) × (fits_formula (method_places monitor owner) (get_or monitor.conditions (number - 1) condition).guard ≡ true)
fits_some_block monitor number condition block rule one few =
    let first = rule.in_order number one few in
    let place = at_place (λ (b : Block). b.condition ≡ number) monitor.blocks first.index first.has in
    let here = get_or monitor.blocks first.index block in
    let numbered : here.condition ≡ number = place.holds block in
    let has = rule.conditions first.index block place.within (omega (arith, one, numbered)) in
    let guards = λ (index : ℕ). IsSomeAnd (slice_get monitor.conditions index) (λ which. which.guard ≡ here.guard) in
    let guard = at_place (λ (which : Condition). which.guard ≡ here.guard) monitor.conditions (number - 1) (subst guards (ap (λ (q : ℕ). q - 1) (place.holds block)) has) in
    let is = placed_at monitor monitor.blocks first.index here rule refl (get_or_same monitor.blocks first.index block here place.within) place.within in
    let places = method_places monitor here.method in
    (here.method, subst (λ (formula : Formula). fits_formula places formula ≡ true) (sym (guard.holds condition)) (guard_fits places here is.fits))
  where
    get_or_same : (xs : List Block) (index : ℕ) (d e : Block) → index < length xs → get_or xs index d ≡ get_or xs index e
    get_or_same xs index d e within = get_or_default xs index d e within

pub condition_fits : (monitor : MonitorParts) (number : ℕ) (condition : Condition) (state : List Value) → IsMonitor monitor → 1 ≤ number → number - 1 < length monitor.conditions
    → condition ≡ get_or monitor.conditions (number - 1) condition → condition.reads_inputs ≡ false → FitsState monitor state
    → fits_formula (held_places state no_inputs) condition.guard ≡ true
condition_fits monitor number condition state rule one within is alone fits =
    let here = get_or monitor.conditions (number - 1) condition in
    let exact = (rule.described (number - 1) condition within).inputs in
    let low : reads_inputs here.guard ≡ false = sym exact ∙ ap (λ (which : Condition). which.reads_inputs) (sym is) ∙ alone in
    let first = rule.in_order number one (omega arith) in
    let some = fits_some_block monitor number condition (some_of monitor.blocks first.index _ first.has) rule one (omega arith) in
    let kinds = kinds_of monitor.fields in
    let bare : fits_formula (fields_alone kinds) here.guard ≡ true = sym (fits_alone (method_places monitor some.0) here.guard low) ∙ some.1 in
    let guard : fits_formula (fields_alone kinds) condition.guard ≡ true = ap (λ (which : Condition). fits_formula (fields_alone kinds) which.guard) is ∙ bare in
    ap (λ (held : List Kind). fits_formula (fields_alone held) condition.guard) (kinds_held kinds state fits) ∙ guard

-- the same of a condition as it is read
pub read_condition_fits : (monitor : MonitorParts) (number : ℕ) (conditions : List Condition) (condition : Condition) (state some_values : List Value)
    → IsMonitor monitor → conditions ≡ monitor.conditions → some_values ≡ state → condition ≡ get_or conditions (number - 1) condition
    → 1 ≤ number → ReadsNoInputs (slice_get monitor.conditions (number - 1)) → FitsState monitor state
    → fits_formula (held_places some_values no_inputs) (get_or conditions (number - 1) condition).guard ≡ true
read_condition_fits monitor number conditions condition state some_values rule same values_are is one alone fits =
    let place = at_place (λ (which : Condition). which.reads_inputs ≡ false) monitor.conditions (number - 1) alone in
    let here : condition ≡ get_or monitor.conditions (number - 1) condition = is ∙ ap (λ (list : List Condition). get_or list (number - 1) condition) same in
    let reads : condition.reads_inputs ≡ false = ap (λ (which : Condition). which.reads_inputs) here ∙ place.holds condition in
    ap (λ (list : List Value). fits_formula (held_places list no_inputs) (get_or conditions (number - 1) condition).guard) values_are
    ∙ ap (λ (which : Condition). fits_formula (held_places state no_inputs) which.guard) (sym is)
    ∙ condition_fits monitor number condition state rule one place.within here reads fits

pub read_condition_truth : (monitor : MonitorParts) (number : ℕ) (conditions : List Condition) (condition : Condition) (state some_values : List Value) (truth : Bool)
    → conditions ≡ monitor.conditions → some_values ≡ state → ReadsNoInputs (slice_get monitor.conditions (number - 1))
    → truth ≡ truth_of (valuation some_values no_inputs) (get_or conditions (number - 1) condition).guard
    → truth ≡ condition_truth monitor state number
read_condition_truth monitor number conditions condition state some_values truth same values_are alone is =
    let place = at_place (λ (which : Condition). which.reads_inputs ≡ false) monitor.conditions (number - 1) alone in
    is
    ∙ ap (λ (list : List Value). truth_of (valuation list no_inputs) (get_or conditions (number - 1) condition).guard) values_are
    ∙ ap (λ (list : List Condition). truth_of (valuation state no_inputs) (get_or list (number - 1) condition).guard) same
    ∙ sym (ap (condition_guard_truth state) (slice_get-get_or monitor.conditions (number - 1) condition place.within))
