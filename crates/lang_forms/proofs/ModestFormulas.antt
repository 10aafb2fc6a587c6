-- Formulas whose numbers are far within the range that a negation asks, and stay there when they
-- are negated.
use Rattle.std.proofs.Common.{◌≡◌, ℕ, ◌+◌, ◌^◌, ℤ, pos, neg_ℤ, ◌+ℤ◌, ◌-ℤ◌, Bool, true, false, List, [], ◌∷◌, map, refl, sym, ap, subst, ◌∙◌, arith}
use Rattle.std.specs.Prelude.{Option, Some, None, int_le, ◌&&◌, if◌then◌else◌}
use Rattle.std.specs.List.{list_all}
use Rattle.std.specs.Ordering.{int_eq}
use Rattle.std.proofs.lemmas.Int.{ints}
use Rattle.logic_linear.specs.declared.form.Term.{Term}
use Rattle.logic_linear.specs.declared.formula.Formula.{Formula}
use Rattle.logic_linear.specs.declared.formula.Formula.TheVariants as formulas
use Rattle.logic_linear.specs.declared.formula.Formula.TheOpen as layers
use Rattle.logic_linear.specs.declared.formula.Formula.TheOpen.{Formula-F}
use Rattle.logic_linear.specs.declared.formula.Formula.TheViews.{roll-Formula}
use Rattle.logic_linear.specs.declared.formula.Formula.TheFolds.{fold-Formula, ind-Formula, map-Formula, fold-roll-Formula}
use Rattle.logic_linear.specs.Linear.{Linear}
use Rattle.logic_linear.specs.Negation.{can_negate, can_negate_layer, can_negate_number, can_negate_term, layer_negation, negation, negative_term, opposite}
use Rattle.lang_tree.specs.declared.tree.Op.{Op}
use Rattle.lang_tree.specs.declared.tree.Op.TheVariants as ops
use Rattle.lang_forms.specs.declared.scope.Meaning.{Meaning}
use Rattle.lang_forms.specs.declared.scope.Meaning.TheVariants as meanings
use Rattle.lang_forms.specs.declared.scope.Entry.{Entry}
use Rattle.lang_forms.specs.Forms.{Form, is_limited, minus, raised, terms_of, linear_of, meaning_place}
use Rattle.lang_base.specs.Numbers.{is_within}
use Rattle.lang_forms.specs.Sense.{at_most, less, comparison_formula, truth_formula, meaning_formula, entry_formula}
use Rattle.lang_forms.proofs.LimitedForms.{both_true, opposite_limited}

-- ---- modest numbers

-- A constant may be one more than the greatest magnitude: one less it then is at least its
-- opposite.
abbrev pub is_modest_number : ℤ → Bool
is_modest_number number = int_le (neg_ℤ (pos (2 ^ 63))) number && int_le number (pos (2 ^ 63 + 1))

abbrev pub is_modest_term : Term → Bool
is_modest_term term = is_within (2 ^ 31) term.times

abbrev pub is_modest_row : Linear → Bool
is_modest_row linear = list_all is_modest_term linear.terms && is_modest_number linear.constant

abbrev pub modest_layer : Formula-F Bool → Bool
modest_layer (layers.Row linear) = is_modest_row linear
modest_layer (layers.Flag place is) = true
modest_layer (layers.All parts) = list_all (λ part. part) parts
modest_layer (layers.Any parts) = list_all (λ part. part) parts

abbrev pub is_modest : Formula → Bool
is_modest = fold-Formula Bool modest_layer

pub modest-Row : (linear : Linear) → is_modest (formulas.Row linear) ≡ is_modest_row linear
modest-Row linear = ap is_modest (sym (formulas.rolls-Row linear)) ∙ fold-roll-Formula Bool modest_layer (layers.Row linear)

pub modest-Flag : (place : ℕ) (is : Bool) → is_modest (formulas.Flag place is) ≡ true
modest-Flag place is = ap is_modest (sym (formulas.rolls-Flag place is)) ∙ fold-roll-Formula Bool modest_layer (layers.Flag place is)

pub modest-All : (parts : List Formula) → is_modest (formulas.All parts) ≡ list_all (λ part. part) (map is_modest parts)
modest-All parts = ap is_modest (sym (formulas.rolls-All parts)) ∙ fold-roll-Formula Bool modest_layer (layers.All parts)

pub modest-Any : (parts : List Formula) → is_modest (formulas.Any parts) ≡ list_all (λ part. part) (map is_modest parts)
modest-Any parts = ap is_modest (sym (formulas.rolls-Any parts)) ∙ fold-roll-Formula Bool modest_layer (layers.Any parts)

-- ---- what they may be asked

number_turns : (number : ℤ) → is_modest_number number ≡ true → can_negate_number number ≡ true
number_turns number modest = grind (arith, ints)

time_turns : (number : ℤ) → is_within (2 ^ 31) number ≡ true → can_negate_number number ≡ true
time_turns number modest = grind (arith, ints)

terms_turn : (terms : List Term) → list_all is_modest_term terms ≡ true → list_all can_negate_term terms ≡ true
terms_turn [] modest = refl
terms_turn (term ∷ terms) modest =
    let both = both_true (is_modest_term term) (list_all is_modest_term terms) modest in
    rw (time_turns term.times both.0, terms_turn terms both.1) refl

abbrev Turns : Formula → Type 0
Turns formula = is_modest formula ≡ true → can_negate formula ≡ true

parts_turn : (parts : List ((formula : Formula) × Turns formula)) → list_all (λ part. part) (map is_modest (map (λ part. part.0) parts)) ≡ true → list_all (λ part. part) (map can_negate (map (λ part. part.0) parts)) ≡ true
parts_turn [] modest = refl
parts_turn (part ∷ parts) modest =
    let both = both_true (is_modest part.0) (list_all (λ part. part) (map is_modest (map (λ part. part.0) parts))) modest in
    rw (part.1 both.0, parts_turn parts both.1) refl

abbrev LayerTurns : Formula-F Formula → Type 0
LayerTurns layer = modest_layer (map-Formula _ Bool is_modest layer) ≡ true → can_negate_layer (map-Formula _ Bool can_negate layer) ≡ true

layer_turns : (layer : Formula-F ((formula : Formula) × Turns formula)) → LayerTurns (map-Formula _ Formula (λ part. part.0) layer)
layer_turns (layers.Row linear) modest =
    let both = both_true (list_all is_modest_term linear.terms) (is_modest_number linear.constant) modest in
    rw (terms_turn linear.terms both.0, number_turns linear.constant both.1) refl
layer_turns (layers.Flag place is) modest = refl
layer_turns (layers.All parts) modest = parts_turn parts modest
layer_turns (layers.Any parts) modest = parts_turn parts modest

formula_turns : (layer : Formula-F Formula) → LayerTurns layer → Turns (roll-Formula layer)
formula_turns layer turns modest = fold-roll-Formula Bool can_negate_layer layer ∙ turns (sym (fold-roll-Formula Bool modest_layer layer) ∙ modest)

-- A modest formula can be negated.
pub modest_turns : (formula : Formula) → is_modest formula ≡ true → can_negate formula ≡ true
modest_turns = ind-Formula Turns (λ layer parts is. subst (λ (z : Formula-F Formula). Turns (roll-Formula z)) is (formula_turns (map-Formula _ Formula (λ part. part.0) parts) (layer_turns parts)))

-- ---- negations

time_stays : (number : ℤ) → is_within (2 ^ 31) (neg_ℤ number) ≡ is_within (2 ^ 31) number
time_stays number = grind (arith, ints)

number_stays : (number : ℤ) → is_modest_number (pos 1 -ℤ number) ≡ is_modest_number number
number_stays number = grind (arith, ints)

terms_stay : (terms : List Term) → list_all is_modest_term (map negative_term terms) ≡ list_all is_modest_term terms
terms_stay [] = refl
terms_stay (term ∷ terms) = rw (time_stays term.times, terms_stay terms) refl

abbrev Stays : Formula → Type 0
Stays formula = is_modest (negation formula) ≡ is_modest formula

parts_stay : (parts : List ((formula : Formula) × Stays formula)) → list_all (λ part. part) (map is_modest (map negation (map (λ part. part.0) parts))) ≡ list_all (λ part. part) (map is_modest (map (λ part. part.0) parts))
parts_stay [] = refl
parts_stay (part ∷ parts) = rw (part.1, parts_stay parts) refl

abbrev LayerStays : Formula-F Formula → Type 0
LayerStays layer = modest_layer (map-Formula _ Bool is_modest (opposite (map-Formula _ Formula negation layer))) ≡ modest_layer (map-Formula _ Bool is_modest layer)

layer_stays : (layer : Formula-F ((formula : Formula) × Stays formula)) → LayerStays (map-Formula _ Formula (λ part. part.0) layer)
layer_stays (layers.Row linear) = rw (terms_stay linear.terms, number_stays linear.constant) refl
layer_stays (layers.Flag place is) = refl
layer_stays (layers.All parts) = parts_stay parts
layer_stays (layers.Any parts) = parts_stay parts

formula_stays : (layer : Formula-F Formula) → LayerStays layer → Stays (roll-Formula layer)
formula_stays layer stays = ap is_modest (fold-roll-Formula Formula layer_negation layer) ∙ fold-roll-Formula Bool modest_layer (opposite (map-Formula _ Formula negation layer)) ∙ stays ∙ sym (fold-roll-Formula Bool modest_layer layer)

-- The negation of a modest formula is modest.
pub modest_negation : (formula : Formula) → is_modest (negation formula) ≡ is_modest formula
modest_negation = ind-Formula Stays (λ layer parts is. subst (λ (z : Formula-F Formula). Stays (roll-Formula z)) is (formula_stays (map-Formula _ Formula (λ part. part.0) parts) (layer_stays parts)))

-- ---- comparisons

kept_modest : (test : Bool) (term : Term) (terms : List Term) → is_modest_term term ≡ true → list_all is_modest_term terms ≡ true → list_all is_modest_term (if test then terms else term ∷ terms) ≡ true
kept_modest true term terms this rest = rest
kept_modest false term terms this rest = rw (this, rest) refl

terms_modest : (scope : List Entry) (times : List ℤ) → list_all (is_within (2 ^ 31)) times ≡ true → list_all is_modest_term (terms_of scope times) ≡ true
terms_modest [] times within = refl
terms_modest (entry ∷ scope) [] within = refl
terms_modest (entry ∷ scope) (number ∷ times) within =
    let both = both_true (is_within (2 ^ 31) number) (list_all (is_within (2 ^ 31)) times) within in
    kept_modest (int_eq number (pos 0)) (record { place = meaning_place entry.meaning; times = number }) (terms_of scope times) both.0 (terms_modest scope times both.1)

number_modest : (number : ℤ) → is_within (2 ^ 63) number ≡ true → is_modest_number number ≡ true
number_modest number within = grind (arith, ints)

raised_modest : (number : ℤ) → is_within (2 ^ 63) number ≡ true → is_modest_number (number +ℤ pos 1) ≡ true
raised_modest number within = grind (arith, ints)

at_most_modest : (scope : List Entry) (left right : Form) → is_limited (minus left right) ≡ true → is_modest (at_most scope left right) ≡ true
at_most_modest scope left right limited =
    let both = both_true (list_all (is_within (2 ^ 31)) (minus left right).times) (is_within (2 ^ 63) (minus left right).constant) limited in
    modest-Row (linear_of scope (minus left right)) ∙ rw (terms_modest scope (minus left right).times both.0, number_modest (minus left right).constant both.1) refl

less_modest : (scope : List Entry) (left right : Form) → is_limited (minus left right) ≡ true → is_modest (less scope left right) ≡ true
less_modest scope left right limited =
    let both = both_true (list_all (is_within (2 ^ 31)) (minus left right).times) (is_within (2 ^ 63) (minus left right).constant) limited in
    modest-Row (linear_of scope (raised (pos 1) (minus left right))) ∙ rw (terms_modest scope (minus left right).times both.0, raised_modest (minus left right).constant both.1) refl

all_of_two : (one other : Formula) → is_modest one ≡ true → is_modest other ≡ true → is_modest (formulas.All (one ∷ other ∷ [])) ≡ true
all_of_two one other this that = modest-All (one ∷ other ∷ []) ∙ rw (this, that) refl

any_of_two : (one other : Formula) → is_modest one ≡ true → is_modest other ≡ true → is_modest (formulas.Any (one ∷ other ∷ [])) ≡ true
any_of_two one other this that = modest-Any (one ∷ other ∷ []) ∙ rw (this, that) refl

pub compared_modest : (scope : List Entry) (op : Op) (left right : Form) → is_limited (minus left right) ≡ true → is_modest (comparison_formula scope op left right) ≡ true
compared_modest scope ops.Equal left right limited = all_of_two (at_most scope left right) (at_most scope right left) (at_most_modest scope left right limited) (at_most_modest scope right left (opposite_limited left right limited))
compared_modest scope ops.Differs left right limited = any_of_two (less scope right left) (less scope left right) (less_modest scope right left (opposite_limited left right limited)) (less_modest scope left right limited)
compared_modest scope ops.Less left right limited = less_modest scope left right limited
compared_modest scope ops.AtMost left right limited = at_most_modest scope left right limited
compared_modest scope ops.More left right limited = less_modest scope right left (opposite_limited left right limited)
compared_modest scope ops.AtLeast left right limited = at_most_modest scope right left (opposite_limited left right limited)

-- ---- names and truth values

pub truth_modest : (truth : Bool) → is_modest (truth_formula truth) ≡ true
truth_modest true = modest-All []
truth_modest false = modest-Any []

meaning_modest : (meaning : Meaning) → is_modest (meaning_formula meaning) ≡ true
meaning_modest (meanings.Number number) = modest-All []
meaning_modest (meanings.Int place) = modest-All []
meaning_modest (meanings.Flag place) = modest-Flag place true

pub entry_modest : (entry : Option Entry) → is_modest (entry_formula entry) ≡ true
entry_modest None = modest-All []
entry_modest (Some entry) = meaning_modest entry.meaning
