-- A value that is written without a test is within 64 bits.
use Rattle.std.proofs.Common.{◌≡◌, ℕ, ℤ, pos, neg_ℤ, Bool, true, false, List, [], ◌∷◌, Option, Some, None, refl, sym, ap, subst, ◌∙◌, true≢false}
use Rattle.std.specs.Prelude.{nat_lt, not}
use Rattle.lang_tree.specs.declared.tree.Addend.{Addend}
use Rattle.lang_tree.specs.declared.tree.Factor.{Factor}
use Rattle.lang_tree.specs.declared.tree.Expr.{Expr, out-Expr, roll-Expr, roll-out-Expr}
use Rattle.lang_tree.specs.declared.tree.Expr.TheOpen.{Expr-F, Number, Truth, Named, Minus, Not, Product, Sum, Compare, Both, Either}
use Rattle.lang_tree.specs.declared.tree.Expr.TheFolds.{fold-Addend, fold-Factor, fold-roll-Expr, map-Expr}
use Rattle.lang_base.specs.Limits.{GREATEST_NUMBER}
use Rattle.lang_base.specs.declared.kind.Kind.TheVariants as kinds
use Rattle.lang_base.specs.declared.value.Value.TheVariants as values
use Rattle.lang_forms.specs.declared.scope.Meaning.{Meaning}
use Rattle.lang_forms.specs.declared.scope.Meaning.TheVariants as meanings
use Rattle.lang_forms.specs.declared.scope.Entry.{Entry}
use Rattle.lang_forms.specs.Scope.{entry_named}
use Rattle.lang_forms.specs.Sense as senses
use Rattle.lang_forms.specs.Sense.{Sense, AddendSense, FactorSense, sense, sense_step, part_faults, large_form}
use Rattle.lang_forms.specs.Forms.{opposite}
use Rattle.lang_forms.specs.Plain as plains
use Rattle.lang_forms.specs.Plain.{Plain, number_in, plain_step, plain_value, addend_value, factor_value, entry_value, meaning_value}
use Rattle.lang_forms.proofs.FineParts.{no_fault, or_else_none, parts_fine}
use Rattle.lang_forms.proofs.SenseLayers.{found_addend, found_factor}
use Rattle.lang_monitor.specs.Bodies.{Memory, reading}
use Rattle.emit_expressions.specs.Scopes.{ScopeParts}
use Rattle.emit_expressions.specs.Expressions as writing
use Rattle.emit_expressions.specs.Expressions.{Written, Later, written, written_step}
use Rattle.lang_base.specs.declared.value.Value.{Value}
use Rattle.lang_types.proofs.NamedPlaces.{named_is_found}
use Rattle.emit_numbers.specs.Calls.{entries, as_value, plain_now, value_now}
use Rattle.emit_numbers.specs.Laws.{AreShort}
use Rattle.emit_numbers.proofs.Short.{IsShort, HasShort, ArePlain, FoundPlain, found_plain, natural_short, negative_short, read_short, zero_is_short}

-- ---- one layer of an expression, of each fold

abbrev pub Bare : Type 0
Bare = Expr-F Expr Addend Factor

abbrev pub sense_layer : List Entry → Bare → Sense
sense_layer scope layer =
    sense_step scope (map-Expr Expr Addend Factor Sense AddendSense FactorSense (sense scope) (found_addend scope) (found_factor scope) layer)

pub sense_rolled : (scope : List Entry) (layer : Bare) → sense scope (roll-Expr layer) ≡ sense_layer scope layer
sense_rolled scope layer = fold-roll-Expr Sense AddendSense FactorSense (sense_step scope) senses.addend_step senses.factor_step layer

abbrev pub written_layer : ScopeParts → Bare → Written
written_layer scope layer =
    written_step scope (map-Expr Expr Addend Factor Written Later Later (written scope)
    (fold-Addend Written Later Later (written_step scope) writing.addend_step writing.factor_step)
    (fold-Factor Written Later Later (written_step scope) writing.addend_step writing.factor_step) layer)

pub written_rolled : (scope : ScopeParts) (layer : Bare) → written scope (roll-Expr layer) ≡ written_layer scope layer
written_rolled scope layer = fold-roll-Expr Written Later Later (written_step scope) writing.addend_step writing.factor_step layer

-- ---- where an expression is read

pub record Reading : Type 0 where
  pub scope : ScopeParts
  pub arguments : List Value
  pub memory : Memory
  pub plain : ArePlain (entries scope)
  pub given : AreShort arguments
  pub short : HasShort memory

abbrev plain_layer : Reading → Bare → Plain
plain_layer here layer =
    let scope = entries here.scope in
    let valuation = reading here.arguments here.memory in
    plain_step scope valuation (map-Expr Expr Addend Factor Plain ℤ ℤ (plain_value scope valuation)
    (fold-Addend Plain ℤ ℤ (plain_step scope valuation) addend_value factor_value)
    (fold-Factor Plain ℤ ℤ (plain_step scope valuation) addend_value factor_value) layer)

plain_rolled : (here : Reading) (layer : Bare) → plain_now here.scope here.arguments here.memory (roll-Expr layer) ≡ plain_layer here layer
plain_rolled here layer = fold-roll-Expr Plain ℤ ℤ (plain_step (entries here.scope) (reading here.arguments here.memory)) addend_value factor_value layer

-- ---- numbers

-- a number without a sign that is within its limit
abbrev pub IsNatural : Plain → Type 0
IsNatural plain = (number : ℕ) × (plain ≡ plains.number (pos number)) × (nat_lt GREATEST_NUMBER number ≡ false)

layer_natural : (here : Reading) (layer : Bare) → (sense_layer (entries here.scope) layer).faults ≡ [] → (written_layer here.scope layer).is_number ≡ true → IsNatural (plain_layer here layer)
layer_natural here (Number at value) none is = (value, refl, no_fault (nat_lt GREATEST_NUMBER value) _ none)
layer_natural here (Truth at value) none is = absurd (true≢false (sym is))
layer_natural here (Named at name) none is = absurd (true≢false (sym is))
layer_natural here (Minus at of) none is = absurd (true≢false (sym is))
layer_natural here (Not at of) none is = absurd (true≢false (sym is))
layer_natural here (Product first rest) none is = absurd (true≢false (sym is))
layer_natural here (Sum first rest) none is = absurd (true≢false (sym is))
layer_natural here (Compare op left right) none is = absurd (true≢false (sym is))
layer_natural here (Both parts) none is = absurd (true≢false (sym is))
layer_natural here (Either parts) none is = absurd (true≢false (sym is))

rolled_natural : (here : Reading) (layer : Bare) → (sense (entries here.scope) (roll-Expr layer)).faults ≡ [] → (written here.scope (roll-Expr layer)).is_number ≡ true
    → IsNatural (plain_now here.scope here.arguments here.memory (roll-Expr layer))
rolled_natural here layer none is =
    subst IsNatural (sym (plain_rolled here layer))
    (layer_natural here layer (ap (λ (x : Sense). x.faults) (sym (sense_rolled (entries here.scope) layer)) ∙ none) (ap (λ (x : Written). x.is_number) (sym (written_rolled here.scope layer)) ∙ is))

pub is_natural : (here : Reading) (expression : Expr) → (sense (entries here.scope) expression).faults ≡ [] → (written here.scope expression).is_number ≡ true
    → IsNatural (plain_now here.scope here.arguments here.memory expression)
is_natural here expression =
    subst (λ (x : Expr). (sense (entries here.scope) x).faults ≡ [] → (written here.scope x).is_number ≡ true → IsNatural (plain_now here.scope here.arguments here.memory x))
    (roll-out-Expr expression) (rolled_natural here (out-Expr expression))

pub negated_short : (plain : Plain) → IsNatural plain → IsShort (values.Int (neg_ℤ (number_in plain)))
negated_short plain (number, is, small) = subst (λ (x : Plain). IsShort (values.Int (neg_ℤ (number_in x)))) (sym is) (negative_short number small)

-- ---- names

meaning_short : (here : Reading) (variable : Bool) (meaning : Meaning) → FoundPlain (Some (record { name = []; meaning = meaning; is_variable = variable }))
    → IsShort (as_value (meaning_value (reading here.arguments here.memory) meaning))
meaning_short here variable (meanings.Number constant) plain = plain.1
meaning_short here variable (meanings.Int place) plain = read_short here.memory here.arguments place here.short here.given
meaning_short here variable (meanings.Flag place) plain = refl

pub entry_short : (here : Reading) (entry : Option Entry) → FoundPlain entry → IsShort (as_value (entry_value (reading here.arguments here.memory) entry))
entry_short here None plain = zero_is_short
entry_short here (Some entry) plain = meaning_short here entry.is_variable entry.meaning plain

-- ---- values without a test

abbrev LayerShort : Reading → Bare → Type 0
LayerShort here layer = (sense_layer (entries here.scope) layer).faults ≡ [] → (written_layer here.scope layer).narrows ≡ false → IsShort (as_value (plain_layer here layer))

not_true : (test : Bool) → not test ≡ false → test ≡ true
not_true true is = refl
not_true false is = absurd (true≢false is)

layer_short : (here : Reading) (layer : Bare) → LayerShort here layer
layer_short here (Number at value) none is = natural_short value (no_fault (nat_lt GREATEST_NUMBER value) _ none)
layer_short here (Truth at value) none is = refl
layer_short here (Named at name) none is =
    let scope = entries here.scope in
    entry_short here (entry_named scope name) (subst FoundPlain (sym (named_is_found scope name)) (found_plain scope name here.plain))
layer_short here (Minus at of) none is =
    let part = sense (entries here.scope) of in
    let outer = or_else_none (part_faults kinds.Int (part ∷ [])) (large_form at (opposite part.form)) none in
    let fine = parts_fine kinds.Int (part ∷ []) outer.0 in
    negated_short (plain_now here.scope here.arguments here.memory of) (is_natural here of fine.0.0 (not_true (written here.scope of).is_number is))
layer_short here (Not at of) none is = refl
layer_short here (Product first rest) none is = absurd (true≢false is)
layer_short here (Sum first rest) none is = absurd (true≢false is)
layer_short here (Compare op left right) none is = refl
layer_short here (Both parts) none is = refl
layer_short here (Either parts) none is = refl

abbrev ValueShort : Reading → Expr → Type 0
ValueShort here expression =
    (sense (entries here.scope) expression).faults ≡ [] → (written here.scope expression).narrows ≡ false → IsShort (value_now here.scope here.arguments here.memory expression)

rolled_short : (here : Reading) (layer : Bare) → ValueShort here (roll-Expr layer)
rolled_short here layer none is =
    subst (λ (x : Plain). IsShort (as_value x)) (sym (plain_rolled here layer))
    (layer_short here layer (ap (λ (x : Sense). x.faults) (sym (sense_rolled (entries here.scope) layer)) ∙ none) (ap (λ (x : Written). x.narrows) (sym (written_rolled here.scope layer)) ∙ is))

pub value_short : (here : Reading) (expression : Expr) → ValueShort here expression
value_short here expression = subst (ValueShort here) (roll-out-Expr expression) (rolled_short here (out-Expr expression))
