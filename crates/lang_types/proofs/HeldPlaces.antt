-- The forms and formulas of a method's scope have places of the right kinds.
use Rattle.std.proofs.Common.{◌≡◌, ℕ, zero, suc, ◌^◌, ℤ, pos, neg_ℤ, ◌+ℤ◌, ◌*ℤ◌, Bool, true, false, List, [], ◌∷◌, map, set, Option, Some, None, refl, sym, ap, subst, ◌∙◌, arith}
use Rattle.std.specs.Prelude.{◌&&◌, slice_get, if◌then◌else◌}
use Rattle.std.specs.List.{list_all}
use Rattle.std.specs.Ordering.{int_eq}
use Rattle.std.proofs.lemmas.Int.{ints}
use Rattle.logic_linear.specs.declared.form.Term.{Term}
use Rattle.logic_linear.specs.declared.formula.Formula.{Formula}
use Rattle.logic_linear.specs.declared.formula.Formula.TheVariants as formulas
use Rattle.logic_linear.specs.declared.formula.Formula.TheOpen as layers
use Rattle.logic_linear.specs.declared.formula.Formula.TheOpen.{Formula-F}
use Rattle.logic_linear.specs.declared.formula.Formula.TheViews.{roll-Formula}
use Rattle.logic_linear.specs.declared.formula.Formula.TheFolds.{fold-Formula, ind-Formula, map-Formula, fold-roll-Formula}
use Rattle.logic_linear.specs.Linear.{Linear}
use Rattle.logic_linear.specs.Negation.{layer_negation, negation, negative_term, opposite}
use Rattle.lang_tree.specs.declared.tree.Op.{Op}
use Rattle.lang_tree.specs.declared.tree.Op.TheVariants as ops
use Rattle.lang_tree.specs.declared.tree.Expr.{Expr, roll-Expr}
use Rattle.lang_tree.specs.declared.tree.Addend.{Addend, roll-Addend}
use Rattle.lang_tree.specs.declared.tree.Factor.{Factor, roll-Factor}
use Rattle.lang_tree.specs.declared.tree.Expr.TheOpen.{Expr-F, Addend-F, Factor-F, Number, Truth, Named, Minus, Not, Product, Sum, Compare, Both, Either}
use Rattle.lang_tree.specs.declared.tree.Expr.TheFolds.{fold-roll-Expr, fold-roll-Addend, fold-roll-Factor, map-Expr, ind-Expr}
use Rattle.lang_base.specs.declared.kind.Kind.TheVariants as kinds
use Rattle.lang_forms.specs.declared.scope.Meaning.{Meaning}
use Rattle.lang_forms.specs.declared.scope.Meaning.TheVariants as meanings
use Rattle.lang_forms.specs.declared.scope.Entry.{Entry}
use Rattle.lang_forms.specs.Scope.{entry_at, entry_named, index_of}
use Rattle.lang_forms.specs.Forms.{Form, added, entry_form, is_constant, linear_of, meaning_form, minus, name_form, no_times, meaning_place, plus, product, raised, scaled, terms_of}
use Rattle.lang_base.specs.Numbers.{is_within}
use Rattle.lang_forms.specs.Sense.{Sense, AddendSense, FactorSense, is_other, product_form, signed_form, sum_form, at_most, less, comparison_formula, truth_formula, meaning_formula, entry_formula, sense, sense_step, addend_step, factor_step}
use Rattle.lang_forms.specs.Making.{has_small_numbers}
use Rattle.lang_forms.proofs.LimitedForms.{both_true}
use Rattle.lang_forms.proofs.ModestFormulas.{is_modest, is_modest_number, is_modest_row, is_modest_term, modest_layer}
use Rattle.lang_forms.proofs.SenseLayers.{found_addend, found_factor}
use Rattle.lang_forms.proofs.SoundSenses.{every_sense_is_sound}
use Rattle.lang_monitor.specs.MonitorParts.{Places, fits_form, fits_formula, fits_term, fits_formula_step, is_kind, kind_at}
use Rattle.lang_types.proofs.ScopePlaces.{fits_entry, fits_found, fits_meaning, fits_scope, fits_target, found_named}

-- ---- numbers of ints alone

-- a bool and a constant count 0 times
abbrev pub Counts : Meaning → ℤ → Type 0
Counts (meanings.Number value) number = number ≡ pos 0
Counts (meanings.Int place) number = Unit {0}
Counts (meanings.Flag place) number = number ≡ pos 0

abbrev pub CountInts : List Entry → List ℤ → Type 0
CountInts [] times = Unit {0}
CountInts (entry ∷ scope) [] = Unit {0}
CountInts (entry ∷ scope) (number ∷ times) = Counts entry.meaning number × CountInts scope times

zero_counts : (meaning : Meaning) → Counts meaning (pos 0)
zero_counts (meanings.Number value) = refl
zero_counts (meanings.Int place) = tt
zero_counts (meanings.Flag place) = refl

no_times_count : (scope : List Entry) → CountInts scope (no_times scope)
no_times_count [] = tt
no_times_count (entry ∷ scope) = (zero_counts entry.meaning, no_times_count scope)

some_is : {X : Type 0} (x y : X) → Some x ≡ Some y → x ≡ y
some_is x y is = cc

once_counts : (scope : List Entry) (index : ℕ) (entry : Entry) → slice_get scope index ≡ Some entry → Counts entry.meaning (pos 1) → CountInts scope (set (no_times scope) index (pos 1))
once_counts [] index entry is can = tt
once_counts (e ∷ scope) zero entry is can = (subst (λ (x : Entry). Counts x.meaning (pos 1)) (sym (some_is e entry is)) can, no_times_count scope)
once_counts (e ∷ scope) (suc index) entry is can = (zero_counts e.meaning, once_counts scope index entry is can)

meaning_counts : (scope : List Entry) (index : ℕ) (entry : Entry) (meaning : Meaning) → meaning ≡ entry.meaning → slice_get scope index ≡ Some entry → CountInts scope (meaning_form scope index meaning).times
meaning_counts scope index entry (meanings.Number value) means is = no_times_count scope
meaning_counts scope index entry (meanings.Int place) means is = once_counts scope index entry is (subst (λ meaning. Counts meaning (pos 1)) means tt)
meaning_counts scope index entry (meanings.Flag place) means is = no_times_count scope

found_counts : (scope : List Entry) (index : ℕ) (found : Option Entry) → slice_get scope index ≡ found → CountInts scope (entry_form scope (Some index) found).times
found_counts scope index None is = no_times_count scope
found_counts scope index (Some entry) is = meaning_counts scope index entry entry.meaning refl is

entry_counts : (scope : List Entry) (index : Option ℕ) → CountInts scope (entry_form scope index (entry_at scope index)).times
entry_counts scope None = no_times_count scope
entry_counts scope (Some index) = found_counts scope index _ refl

name_counts : (scope : List Entry) (name : List ℕ) → CountInts scope (name_form scope name).times
name_counts scope name = entry_counts scope (index_of scope name)

sum_of_counts : (meaning : Meaning) (a b : ℤ) → Counts meaning a → Counts meaning b → Counts meaning (a +ℤ b)
sum_of_counts (meanings.Number value) a b can also = rw (can, also) refl
sum_of_counts (meanings.Int place) a b can also = tt
sum_of_counts (meanings.Flag place) a b can also = rw (can, also) refl

added_count : (scope : List Entry) (a b : List ℤ) → CountInts scope a → CountInts scope b → CountInts scope (added a b)
added_count [] a b count also = tt
added_count (entry ∷ scope) [] b count also = tt
added_count (entry ∷ scope) (x ∷ a) [] count also = tt
added_count (entry ∷ scope) (x ∷ a) (y ∷ b) count also = (sum_of_counts entry.meaning x y count.0 also.0, added_count scope a b count.1 also.1)

times_count : (meaning : Meaning) (by a : ℤ) → Counts meaning a → Counts meaning (by *ℤ a)
times_count (meanings.Number value) by a can = rw can (grind (arith, ints))
times_count (meanings.Int place) by a can = tt
times_count (meanings.Flag place) by a can = rw can (grind (arith, ints))

scaled_count : (scope : List Entry) (by : ℤ) (times : List ℤ) → CountInts scope times → CountInts scope (map (λ number. by *ℤ number) times)
scaled_count [] by times count = tt
scaled_count (entry ∷ scope) by [] count = tt
scaled_count (entry ∷ scope) by (x ∷ times) count = (times_count entry.meaning by x count.0, scaled_count scope by times count.1)

either_count : (scope : List Entry) (test : Bool) (a b : Form) → CountInts scope a.times → CountInts scope b.times → CountInts scope (if test then a else b).times
either_count scope true a b count also = count
either_count scope false a b count also = also

product_counts : (scope : List Entry) (a b : Form) → CountInts scope a.times → CountInts scope b.times → CountInts scope (product a b).times
product_counts scope a b count also = either_count scope (is_constant a) (scaled a.constant b) (scaled b.constant a) (scaled_count scope a.constant b.times also) (scaled_count scope b.constant a.times count)

minus_counts : (scope : List Entry) (a b : Form) → CountInts scope a.times → CountInts scope b.times → CountInts scope (minus a b).times
minus_counts scope a b count also = added_count scope a.times (scaled (neg_ℤ (pos 1)) b).times count (scaled_count scope (neg_ℤ (pos 1)) b.times also)

-- ---- places of the right kinds

abbrev pub has_place : Places → Term → Bool
has_place places term = is_kind kinds.Int (kind_at places term.place)

abbrev pub place_step : Places → Formula-F Bool → Bool
place_step places (layers.Row form) = list_all (has_place places) form.terms
place_step places (layers.Flag place is) = is_kind kinds.Bool (kind_at places place)
place_step places (layers.All parts) = list_all (λ part. part) parts
place_step places (layers.Any parts) = list_all (λ part. part) parts

abbrev pub has_places : Places → Formula → Bool
has_places places = fold-Formula Bool (place_step places)

places-Row : (places : Places) (linear : Linear) → has_places places (formulas.Row linear) ≡ list_all (has_place places) linear.terms
places-Row places linear = ap (has_places places) (sym (formulas.rolls-Row linear)) ∙ fold-roll-Formula Bool (place_step places) (layers.Row linear)

places-Flag : (places : Places) (place : ℕ) (is : Bool) → has_places places (formulas.Flag place is) ≡ is_kind kinds.Bool (kind_at places place)
places-Flag places place is = ap (has_places places) (sym (formulas.rolls-Flag place is)) ∙ fold-roll-Formula Bool (place_step places) (layers.Flag place is)

places-All : (places : Places) (parts : List Formula) → has_places places (formulas.All parts) ≡ list_all (λ part. part) (map (has_places places) parts)
places-All places parts = ap (has_places places) (sym (formulas.rolls-All parts)) ∙ fold-roll-Formula Bool (place_step places) (layers.All parts)

places-Any : (places : Places) (parts : List Formula) → has_places places (formulas.Any parts) ≡ list_all (λ part. part) (map (has_places places) parts)
places-Any places parts = ap (has_places places) (sym (formulas.rolls-Any parts)) ∙ fold-roll-Formula Bool (place_step places) (layers.Any parts)

-- the terms of a form that counts ints alone
kept_place : (places : Places) (out : Bool) (term : Term) (terms : List Term) → (out ≡ false → has_place places term ≡ true) → list_all (has_place places) terms ≡ true → list_all (has_place places) (if out then terms else term ∷ terms) ≡ true
kept_place places true term terms this rest = rest
kept_place places false term terms this rest = rw (this refl, rest) refl

zero_is : (number : ℤ) → number ≡ pos 0 → int_eq number (pos 0) ≡ true
zero_is number is = rw is refl

counted_place : (places : Places) (meaning : Meaning) (number : ℤ) → fits_meaning places meaning ≡ true → Counts meaning number → int_eq number (pos 0) ≡ false → is_kind kinds.Int (kind_at places (meaning_place meaning)) ≡ true
counted_place places (meanings.Number value) number fits counts some = let none = zero_is number counts in absurd (cc)
counted_place places (meanings.Int place) number fits counts some = fits
counted_place places (meanings.Flag place) number fits counts some = let none = zero_is number counts in absurd (cc)

pub terms_have_places : (places : Places) (scope : List Entry) (times : List ℤ) → fits_scope places scope ≡ true → CountInts scope times → list_all (has_place places) (terms_of scope times) ≡ true
terms_have_places places [] times fits counts = refl
terms_have_places places (entry ∷ scope) [] fits counts = refl
terms_have_places places (entry ∷ scope) (number ∷ times) fits counts =
    let both = both_true (fits_entry places entry) (fits_scope places scope) fits in
    let here = both_true (fits_meaning places entry.meaning) (fits_target places entry) both.0 in
    kept_place places (int_eq number (pos 0)) (record { place = meaning_place entry.meaning; times = number }) (terms_of scope times)
    (λ some. counted_place places entry.meaning number here.0 counts.0 some)
    (terms_have_places places scope times both.1 counts.1)

-- ---- formulas

row_has : (places : Places) (scope : List Entry) (form : Form) → fits_scope places scope ≡ true → CountInts scope form.times → has_places places (formulas.Row (linear_of scope form)) ≡ true
row_has places scope form fits counts = places-Row places (linear_of scope form) ∙ terms_have_places places scope form.times fits counts

at_most_has : (places : Places) (scope : List Entry) (left right : Form) → fits_scope places scope ≡ true → CountInts scope left.times → CountInts scope right.times → has_places places (at_most scope left right) ≡ true
at_most_has places scope left right fits one other = row_has places scope (minus left right) fits (minus_counts scope left right one other)

less_has : (places : Places) (scope : List Entry) (left right : Form) → fits_scope places scope ≡ true → CountInts scope left.times → CountInts scope right.times → has_places places (less scope left right) ≡ true
less_has places scope left right fits one other = row_has places scope (raised (pos 1) (minus left right)) fits (minus_counts scope left right one other)

all_of_two : (places : Places) (one other : Formula) → has_places places one ≡ true → has_places places other ≡ true → has_places places (formulas.All (one ∷ other ∷ [])) ≡ true
all_of_two places one other this that = places-All places (one ∷ other ∷ []) ∙ rw (this, that) refl

any_of_two : (places : Places) (one other : Formula) → has_places places one ≡ true → has_places places other ≡ true → has_places places (formulas.Any (one ∷ other ∷ [])) ≡ true
any_of_two places one other this that = places-Any places (one ∷ other ∷ []) ∙ rw (this, that) refl

compared_has : (places : Places) (scope : List Entry) (op : Op) (left right : Form) → fits_scope places scope ≡ true → CountInts scope left.times → CountInts scope right.times → has_places places (comparison_formula scope op left right) ≡ true
compared_has places scope ops.Equal left right fits one other = all_of_two places (at_most scope left right) (at_most scope right left) (at_most_has places scope left right fits one other) (at_most_has places scope right left fits other one)
compared_has places scope ops.Differs left right fits one other = any_of_two places (less scope right left) (less scope left right) (less_has places scope right left fits other one) (less_has places scope left right fits one other)
compared_has places scope ops.Less left right fits one other = less_has places scope left right fits one other
compared_has places scope ops.AtMost left right fits one other = at_most_has places scope left right fits one other
compared_has places scope ops.More left right fits one other = less_has places scope right left fits other one
compared_has places scope ops.AtLeast left right fits one other = at_most_has places scope right left fits other one

truth_has : (places : Places) (truth : Bool) → has_places places (truth_formula truth) ≡ true
truth_has places true = places-All places []
truth_has places false = places-Any places []

meaning_has : (places : Places) (meaning : Meaning) → fits_meaning places meaning ≡ true → has_places places (meaning_formula meaning) ≡ true
meaning_has places (meanings.Number number) fits = places-All places []
meaning_has places (meanings.Int place) fits = places-All places []
meaning_has places (meanings.Flag place) fits = places-Flag places place true ∙ fits

entry_has : (places : Places) (entry : Option Entry) → fits_found places entry ≡ true → has_places places (entry_formula entry) ≡ true
entry_has places None fits = places-All places []
entry_has places (Some entry) fits = meaning_has places entry.meaning (both_true (fits_meaning places entry.meaning) (fits_target places entry) fits).0

-- ---- negations

terms_stay : (places : Places) (terms : List Term) → list_all (has_place places) (map negative_term terms) ≡ list_all (has_place places) terms
terms_stay places [] = refl
terms_stay places (term ∷ terms) = ap (λ rest. has_place places term && rest) (terms_stay places terms)

abbrev Stays : Places → Formula → Type 0
Stays places formula = has_places places (negation formula) ≡ has_places places formula

parts_stay : (places : Places) (parts : List ((formula : Formula) × Stays places formula)) → list_all (λ part. part) (map (has_places places) (map negation (map (λ part. part.0) parts))) ≡ list_all (λ part. part) (map (has_places places) (map (λ part. part.0) parts))
parts_stay places [] = refl
parts_stay places (part ∷ parts) = rw (part.1, parts_stay places parts) refl

abbrev LayerStays : Places → Formula-F Formula → Type 0
LayerStays places layer = place_step places (map-Formula _ Bool (has_places places) (opposite (map-Formula _ Formula negation layer))) ≡ place_step places (map-Formula _ Bool (has_places places) layer)

layer_stays : (places : Places) (layer : Formula-F ((formula : Formula) × Stays places formula)) → LayerStays places (map-Formula _ Formula (λ part. part.0) layer)
layer_stays places (layers.Row linear) = terms_stay places linear.terms
layer_stays places (layers.Flag place is) = refl
layer_stays places (layers.All parts) = parts_stay places parts
layer_stays places (layers.Any parts) = parts_stay places parts

formula_stays : (places : Places) (layer : Formula-F Formula) → LayerStays places layer → Stays places (roll-Formula layer)
formula_stays places layer stays = ap (has_places places) (fold-roll-Formula Formula layer_negation layer) ∙ fold-roll-Formula Bool (place_step places) (opposite (map-Formula _ Formula negation layer)) ∙ stays ∙ sym (fold-roll-Formula Bool (place_step places) layer)

pub negation_has : (places : Places) (formula : Formula) → has_places places (negation formula) ≡ has_places places formula
negation_has places = ind-Formula (Stays places) (λ layer parts is. subst (λ (z : Formula-F Formula). Stays places (roll-Formula z)) is (formula_stays places (map-Formula _ Formula (λ part. part.0) parts) (layer_stays places parts)))

-- ---- modest formulas with places fit

term_fits : (places : Places) (terms : List Term) → list_all is_modest_term terms ≡ true → list_all (has_place places) terms ≡ true → list_all (fits_term places) terms ≡ true
term_fits places [] modest has = refl
term_fits places (term ∷ terms) modest has =
    let one = both_true (is_modest_term term) (list_all is_modest_term terms) modest in
    let other = both_true (has_place places term) (list_all (has_place places) terms) has in
    rw (other.0, one.0, term_fits places terms one.1 other.1) refl

constant_fits : (number : ℤ) → is_modest_number number ≡ true → is_within (2 ^ 64) number ≡ true
constant_fits number modest = grind (arith, ints)

row_fits : (places : Places) (linear : Linear) → is_modest_row linear ≡ true → list_all (has_place places) linear.terms ≡ true → fits_form places linear ≡ true
row_fits places linear modest has =
    let both = both_true (list_all is_modest_term linear.terms) (is_modest_number linear.constant) modest in
    rw (term_fits places linear.terms both.0 has, constant_fits linear.constant both.1) refl

abbrev Fits : Places → Formula → Type 0
Fits places formula = is_modest formula ≡ true → has_places places formula ≡ true → fits_formula places formula ≡ true

parts_fit : (places : Places) (parts : List ((formula : Formula) × Fits places formula)) → list_all (λ part. part) (map is_modest (map (λ part. part.0) parts)) ≡ true → list_all (λ part. part) (map (has_places places) (map (λ part. part.0) parts)) ≡ true → list_all (λ part. part) (map (fits_formula places) (map (λ part. part.0) parts)) ≡ true
parts_fit places [] modest has = refl
parts_fit places (part ∷ parts) modest has =
    let one = both_true (is_modest part.0) (list_all (λ part. part) (map is_modest (map (λ part. part.0) parts))) modest in
    let other = both_true (has_places places part.0) (list_all (λ part. part) (map (has_places places) (map (λ part. part.0) parts))) has in
    rw (part.1 one.0 other.0, parts_fit places parts one.1 other.1) refl

abbrev LayerFits : Places → Formula-F Formula → Type 0
LayerFits places layer = modest_layer (map-Formula _ Bool is_modest layer) ≡ true → place_step places (map-Formula _ Bool (has_places places) layer) ≡ true → fits_formula_step places (map-Formula _ Bool (fits_formula places) layer) ≡ true

layer_fits : (places : Places) (layer : Formula-F ((formula : Formula) × Fits places formula)) → LayerFits places (map-Formula _ Formula (λ part. part.0) layer)
layer_fits places (layers.Row linear) modest has = row_fits places linear modest has
layer_fits places (layers.Flag place is) modest has = has
layer_fits places (layers.All parts) modest has = parts_fit places parts modest has
layer_fits places (layers.Any parts) modest has = parts_fit places parts modest has

roll_fits : (places : Places) (layer : Formula-F Formula) → LayerFits places layer → Fits places (roll-Formula layer)
roll_fits places layer fits modest has =
    fold-roll-Formula Bool (fits_formula_step places) layer ∙ fits (sym (fold-roll-Formula Bool modest_layer layer) ∙ modest) (sym (fold-roll-Formula Bool (place_step places) layer) ∙ has)

pub modest_fits : (places : Places) (formula : Formula) → is_modest formula ≡ true → has_places places formula ≡ true → fits_formula places formula ≡ true
modest_fits places = ind-Formula (Fits places) (λ layer parts is. subst (λ (z : Formula-F Formula). Fits places (roll-Formula z)) is (roll_fits places (map-Formula _ Formula (λ part. part.0) parts) (layer_fits places parts)))

-- ---- every expression

pub record IsHeld (places : Places) (scope : List Entry) (found : Sense) : Type 0 where
  pub form : CountInts scope found.form.times
  pub formula : has_places places found.formula ≡ true

abbrev AreHeld : Places → List Entry → List Sense → Type 0
AreHeld places scope [] = Unit {0}
AreHeld places scope (part ∷ parts) = IsHeld places scope part × AreHeld places scope parts

signed_counts : (scope : List Entry) (minus : Bool) (form : Form) → CountInts scope form.times → CountInts scope (if minus then scaled (neg_ℤ (pos 1)) form else form).times
signed_counts scope true form counts = scaled_count scope (neg_ℤ (pos 1)) form.times counts
signed_counts scope false form counts = counts

sum_counts : (places : Places) (scope : List Entry) (form : Form) (rest : List AddendSense) → CountInts scope form.times → AreHeld places scope (map (λ addend. addend.of) rest) → CountInts scope (sum_form form rest).times
sum_counts places scope form [] counts held = counts
sum_counts places scope form (addend ∷ rest) counts held =
    sum_counts places scope (plus form (signed_form addend)) rest (added_count scope form.times (signed_form addend).times counts (signed_counts scope addend.minus addend.of.form held.0.form)) held.1

products_count : (places : Places) (scope : List Entry) (form : Form) (rest : List FactorSense) → CountInts scope form.times → AreHeld places scope (map (λ factor. factor.of) rest) → CountInts scope (product_form form rest).times
products_count places scope form [] counts held = counts
products_count places scope form (factor ∷ rest) counts held = products_count places scope (product form factor.of.form) rest (product_counts scope form factor.of.form counts held.0.form) held.1

parts_have : (places : Places) (scope : List Entry) (parts : List Sense) → AreHeld places scope parts → list_all (λ part. part) (map (has_places places) (map (λ part. part.formula) parts)) ≡ true
parts_have places scope [] held = refl
parts_have places scope (part ∷ parts) held = rw (held.0.formula, parts_have places scope parts held.1) refl

abbrev Held : Places → List Entry → Expr → Type 0
Held places scope expression = IsHeld places scope (sense scope expression)

abbrev HeldAddend : Places → List Entry → Addend → Type 0
HeldAddend places scope addend = IsHeld places scope (found_addend scope addend).of

abbrev HeldFactor : Places → List Entry → Factor → Type 0
HeldFactor places scope factor = IsHeld places scope (found_factor scope factor).of

addends_held : (places : Places) (scope : List Entry) (rest : List ((addend : Addend) × HeldAddend places scope addend)) → AreHeld places scope (map (λ addend. addend.of) (map (found_addend scope) (map (λ addend. addend.0) rest)))
addends_held places scope [] = tt
addends_held places scope (addend ∷ rest) = (addend.1, addends_held places scope rest)

factors_held : (places : Places) (scope : List Entry) (rest : List ((factor : Factor) × HeldFactor places scope factor)) → AreHeld places scope (map (λ factor. factor.of) (map (found_factor scope) (map (λ factor. factor.0) rest)))
factors_held places scope [] = tt
factors_held places scope (factor ∷ rest) = (factor.1, factors_held places scope rest)

parts_held : (places : Places) (scope : List Entry) (parts : List ((part : Expr) × Held places scope part)) → AreHeld places scope (map (sense scope) (map (λ part. part.0) parts))
parts_held places scope [] = tt
parts_held places scope (part ∷ parts) = (part.1, parts_held places scope parts)

abbrev Layer : Places → List Entry → Type 0
Layer places scope = Expr-F ((expression : Expr) × Held places scope expression) ((addend : Addend) × HeldAddend places scope addend) ((factor : Factor) × HeldFactor places scope factor)

abbrev bare_layer : (places : Places) (scope : List Entry) → Layer places scope → Expr-F Expr Addend Factor
bare_layer places scope = map-Expr ((expression : Expr) × Held places scope expression) ((addend : Addend) × HeldAddend places scope addend) ((factor : Factor) × HeldFactor places scope factor) Expr Addend Factor (λ e. e.0) (λ e. e.0) (λ e. e.0)

abbrev found_layer : List Entry → Expr-F Expr Addend Factor → Sense
found_layer scope layer = sense_step scope (map-Expr Expr Addend Factor Sense AddendSense FactorSense (sense scope) (found_addend scope) (found_factor scope) layer)

layer_held : (places : Places) (scope : List Entry) → fits_scope places scope ≡ true → (layer : Layer places scope) → IsHeld places scope (found_layer scope (bare_layer places scope layer))
layer_held places scope fits (Number at value) = record { form = no_times_count scope; formula = places-All places [] }
layer_held places scope fits (Truth at value) = record { form = no_times_count scope; formula = truth_has places value }
layer_held places scope fits (Named at name) = record { form = name_counts scope name; formula = entry_has places (entry_named scope name) (found_named places scope name fits) }
layer_held places scope fits (Minus at of) = record { form = scaled_count scope (neg_ℤ (pos 1)) (sense scope of.0).form.times of.1.form; formula = places-All places [] }
layer_held places scope fits (Not at of) = record { form = no_times_count scope; formula = negation_has places (sense scope of.0).formula ∙ of.1.formula }
layer_held places scope fits (Product first rest) = record { form = products_count places scope (sense scope first.0).form _ first.1.form (factors_held places scope rest); formula = places-All places [] }
layer_held places scope fits (Sum first rest) = record { form = sum_counts places scope (sense scope first.0).form _ first.1.form (addends_held places scope rest); formula = places-All places [] }
layer_held places scope fits (Compare op left right) = record { form = no_times_count scope; formula = compared_has places scope op (sense scope left.0).form (sense scope right.0).form fits left.1.form right.1.form }
layer_held places scope fits (Both parts) = record {
  form = no_times_count scope;
  formula = let found = map (sense scope) (map (λ part. part.0) parts) in places-All places (map (λ part. part.formula) found) ∙ parts_have places scope found (parts_held places scope parts);
}
layer_held places scope fits (Either parts) = record {
  form = no_times_count scope;
  formula = let found = map (sense scope) (map (λ part. part.0) parts) in places-Any places (map (λ part. part.formula) found) ∙ parts_have places scope found (parts_held places scope parts);
}

roll_held : (places : Places) (scope : List Entry) (layer : Expr-F Expr Addend Factor) → IsHeld places scope (found_layer scope layer) → Held places scope (roll-Expr layer)
roll_held places scope layer held = subst (IsHeld places scope) (sym (fold-roll-Expr Sense AddendSense FactorSense (sense_step scope) addend_step factor_step layer)) held

addend_held : (places : Places) (scope : List Entry) (layer : Addend-F Expr Addend Factor) → Held places scope layer.of → HeldAddend places scope (roll-Addend layer)
addend_held places scope layer held =
    subst (λ (found : AddendSense). IsHeld places scope found.of) (sym (fold-roll-Addend Sense AddendSense FactorSense (sense_step scope) addend_step factor_step layer)) held

factor_held : (places : Places) (scope : List Entry) (layer : Factor-F Expr Addend Factor) → Held places scope layer.of → HeldFactor places scope (roll-Factor layer)
factor_held places scope layer held =
    subst (λ (found : FactorSense). IsHeld places scope found.of) (sym (fold-roll-Factor Sense AddendSense FactorSense (sense_step scope) addend_step factor_step layer)) held

pub every_sense_is_held : (places : Places) (scope : List Entry) → fits_scope places scope ≡ true → (expression : Expr) → IsHeld places scope (sense scope expression)
every_sense_is_held places scope fits =
    ind-Expr (Held places scope) (HeldAddend places scope) (HeldFactor places scope)
    (λ x y is. subst (λ (z : Expr-F Expr Addend Factor). Held places scope (roll-Expr z)) is (roll_held places scope (bare_layer places scope y) (layer_held places scope fits y)))
    (λ x y is. subst (λ (z : Addend-F Expr Addend Factor). HeldAddend places scope (roll-Addend z)) is (addend_held places scope (record { minus = y.minus; of = y.of.0 }) y.of.1))
    (λ x y is. subst (λ (z : Factor-F Expr Addend Factor). HeldFactor places scope (roll-Factor z)) is (factor_held places scope (record { at = y.at; of = y.of.0 }) y.of.1))

-- ---- what fits

limited_terms : (scope : List Entry) (times : List ℤ) → list_all (is_within (2 ^ 31)) times ≡ true → list_all is_modest_term (terms_of scope times) ≡ true
limited_terms [] times within = refl
limited_terms (entry ∷ scope) [] within = refl
limited_terms (entry ∷ scope) (number ∷ times) within =
    let both = both_true (is_within (2 ^ 31) number) (list_all (is_within (2 ^ 31)) times) within in
    kept_modest (int_eq number (pos 0)) (record { place = meaning_place entry.meaning; times = number }) (terms_of scope times) both.0 (limited_terms scope times both.1)
  where
    kept_modest : (out : Bool) (term : Term) (terms : List Term) → is_modest_term term ≡ true → list_all is_modest_term terms ≡ true → list_all is_modest_term (if out then terms else term ∷ terms) ≡ true
    kept_modest true term terms this rest = rest
    kept_modest false term terms this rest = rw (this, rest) refl

limited_constant : (number : ℤ) → is_within (2 ^ 63) number ≡ true → is_modest_number number ≡ true
limited_constant number within = grind (arith, ints)

-- The linear form of an int expression that breaks no rule fits.
pub int_fits : (places : Places) (scope : List Entry) (expression : Expr) → fits_scope places scope ≡ true → has_small_numbers scope ≡ true → (sense scope expression).faults ≡ [] → is_other kinds.Int (sense scope expression).kind ≡ false → fits_form places (linear_of scope (sense scope expression).form) ≡ true
int_fits places scope expression fits small none int =
    let form = (sense scope expression).form in
    let limited = (every_sense_is_sound scope small expression).limited none int in
    let both = both_true (list_all (is_within (2 ^ 31)) form.times) (is_within (2 ^ 63) form.constant) limited in
    let modest : is_modest_row (linear_of scope form) ≡ true = rw (limited_terms scope form.times both.0, limited_constant form.constant both.1) refl in
    row_fits places (linear_of scope form) modest (terms_have_places places scope form.times fits (every_sense_is_held places scope fits expression).form)

-- The formula of a bool expression that breaks no rule fits.
pub bool_fits : (places : Places) (scope : List Entry) (expression : Expr) → fits_scope places scope ≡ true → has_small_numbers scope ≡ true → (sense scope expression).faults ≡ [] → is_other kinds.Bool (sense scope expression).kind ≡ false → fits_formula places (sense scope expression).formula ≡ true
bool_fits places scope expression fits small none bool =
    modest_fits places (sense scope expression).formula ((every_sense_is_sound scope small expression).modest none bool) (every_sense_is_held places scope fits expression).formula
