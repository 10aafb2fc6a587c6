-- The value of an expression by names is its value in the scope, and of its kind.
use Rattle.std.proofs.Common.{◌≡◌, ℕ, ℤ, List, [], Option, Some, None, refl, sym, subst}
use Rattle.lang_tree.specs.declared.tree.Addend.{Addend}
use Rattle.lang_tree.specs.declared.tree.Factor.{Factor}
use Rattle.lang_tree.specs.declared.tree.Expr.{Expr, out-Expr, roll-Expr, roll-out-Expr}
use Rattle.lang_tree.specs.declared.tree.Expr.TheOpen.{Expr-F, Number, Truth, Named, Minus, Not, Product, Sum, Compare, Both, Either}
use Rattle.lang_tree.specs.declared.tree.Expr.TheFolds.{fold-Expr, fold-Addend, fold-Factor, fold-roll-Expr, map-Expr}
use Rattle.logic_linear.specs.Truth.{Valuation}
use Rattle.lang_base.specs.declared.kind.Kind.{Kind}
use Rattle.lang_base.specs.declared.kind.Kind.TheVariants as kinds
use Rattle.lang_forms.specs.declared.scope.Meaning.{Meaning}
use Rattle.lang_forms.specs.declared.scope.Meaning.TheVariants as meanings
use Rattle.lang_forms.specs.declared.scope.Entry.{Entry}
use Rattle.lang_forms.specs.Scope.{entry_named}
use Rattle.lang_forms.specs.Sense.{Sense, AddendSense, FactorSense, entry_kind, meaning_kind, sense, sense_step, addend_step, factor_step, unknown}
use Rattle.lang_forms.specs.Plain.{Plain, number, truth, number_in, truth_in, meaning_value, entry_value, plain_step, plain_value, addend_value, factor_value}
use Rattle.lang_forms.proofs.SenseLayers.{found_addend, found_factor}
use Rattle.lang_types.specs.PlainRuns.{Environment, value_step, expression_value}

-- ---- by names and in the scope

-- each name stands for what it finds in the scope
abbrev pub ReadsAlike : List Entry → Valuation → Environment → Type 0
ReadsAlike scope valuation names = (name : List ℕ) → entry_value valuation (entry_named scope name) ≡ names name

step_alike : (scope : List Entry) (valuation : Valuation) (names : Environment) → ReadsAlike scope valuation names
    → (layer : Expr-F Plain ℤ ℤ) → plain_step scope valuation layer ≡ value_step names layer
step_alike scope valuation names alike (Number at value) = refl
step_alike scope valuation names alike (Truth at value) = refl
step_alike scope valuation names alike (Named at name) = alike name
step_alike scope valuation names alike (Minus at of) = refl
step_alike scope valuation names alike (Not at of) = refl
step_alike scope valuation names alike (Product first rest) = refl
step_alike scope valuation names alike (Sum first rest) = refl
step_alike scope valuation names alike (Compare op left right) = refl
step_alike scope valuation names alike (Both parts) = refl
step_alike scope valuation names alike (Either parts) = refl

pub value_alike : (scope : List Entry) (valuation : Valuation) (names : Environment) → ReadsAlike scope valuation names
    → (expression : Expr) → plain_value scope valuation expression ≡ expression_value names expression
value_alike scope valuation names alike expression =
    λ i. fold-Expr Plain ℤ ℤ (λ layer. step_alike scope valuation names alike layer i) addend_value factor_value expression

-- ---- values of the kind that is found

abbrev OfKind : Option Kind → Plain → Type 0
OfKind None value = Unit {0}
OfKind (Some kinds.Int) value = value ≡ number (number_in value)
OfKind (Some kinds.Bool) value = value ≡ truth (truth_in value)

meaning_of_kind : (valuation : Valuation) (meaning : Meaning) → OfKind (Some (meaning_kind meaning)) (meaning_value valuation meaning)
meaning_of_kind valuation (meanings.Number value) = refl
meaning_of_kind valuation (meanings.Int place) = refl
meaning_of_kind valuation (meanings.Flag place) = refl

entry_of_kind : (valuation : Valuation) (entry : Option Entry) → OfKind (entry_kind entry) (entry_value valuation entry)
entry_of_kind valuation None = tt
entry_of_kind valuation (Some entry) = meaning_of_kind valuation entry.meaning

abbrev found_layer : List Entry → Expr-F Expr Addend Factor → Sense
found_layer scope layer =
    sense_step scope (map-Expr Expr Addend Factor Sense AddendSense FactorSense (sense scope) (found_addend scope) (found_factor scope) layer)

abbrev plain_layer : List Entry → Valuation → Expr-F Expr Addend Factor → Plain
plain_layer scope valuation layer =
    plain_step scope valuation (map-Expr Expr Addend Factor Plain ℤ ℤ (plain_value scope valuation)
    (fold-Addend Plain ℤ ℤ (plain_step scope valuation) addend_value factor_value)
    (fold-Factor Plain ℤ ℤ (plain_step scope valuation) addend_value factor_value) layer)

layer_of_kind : (scope : List Entry) (valuation : Valuation) (layer : Expr-F Expr Addend Factor) → OfKind (found_layer scope layer).kind (plain_layer scope valuation layer)
layer_of_kind scope valuation (Number at value) = refl
layer_of_kind scope valuation (Truth at value) = refl
layer_of_kind scope valuation (Named at name) = entry_of_kind valuation (entry_named scope name)
layer_of_kind scope valuation (Minus at of) = refl
layer_of_kind scope valuation (Not at of) = refl
layer_of_kind scope valuation (Product first rest) = refl
layer_of_kind scope valuation (Sum first rest) = refl
layer_of_kind scope valuation (Compare op left right) = refl
layer_of_kind scope valuation (Both parts) = refl
layer_of_kind scope valuation (Either parts) = refl

roll_of_kind : (scope : List Entry) (valuation : Valuation) (layer : Expr-F Expr Addend Factor) → OfKind (sense scope (roll-Expr layer)).kind (plain_value scope valuation (roll-Expr layer))
roll_of_kind scope valuation layer =
    subst (λ (found : Sense). OfKind found.kind (plain_value scope valuation (roll-Expr layer))) (sym (fold-roll-Expr Sense AddendSense FactorSense (sense_step scope) addend_step factor_step layer))
    (subst (OfKind (found_layer scope layer).kind) (sym (fold-roll-Expr Plain ℤ ℤ (plain_step scope valuation) addend_value factor_value layer)) (layer_of_kind scope valuation layer))

value_of_kind : (scope : List Entry) (valuation : Valuation) (expression : Expr) → OfKind (sense scope expression).kind (plain_value scope valuation expression)
value_of_kind scope valuation expression =
    subst (λ (x : Expr). OfKind (sense scope x).kind (plain_value scope valuation x)) (roll-out-Expr expression) (roll_of_kind scope valuation (out-Expr expression))

pub int_value : (scope : List Entry) (valuation : Valuation) (expression : Expr) → (sense scope expression).kind ≡ Some kinds.Int
    → plain_value scope valuation expression ≡ number (number_in (plain_value scope valuation expression))
int_value scope valuation expression is = subst (λ (kind : Option Kind). OfKind kind (plain_value scope valuation expression)) is (value_of_kind scope valuation expression)

pub bool_value : (scope : List Entry) (valuation : Valuation) (expression : Expr) → (sense scope expression).kind ≡ Some kinds.Bool
    → plain_value scope valuation expression ≡ truth (truth_in (plain_value scope valuation expression))
bool_value scope valuation expression is = subst (λ (kind : Option Kind). OfKind kind (plain_value scope valuation expression)) is (value_of_kind scope valuation expression)

-- ---- what breaks no rule has a kind

abbrev HasKind : Sense → Type 0
HasKind found = found.faults ≡ [] → found.kind ≡ None → ⊥

some_is_none : (kind : Kind) → Some kind ≡ None → ⊥
some_is_none kind is = cc

entry_has : (at : ℕ) (entry : Option Entry) → unknown at entry ≡ [] → entry_kind entry ≡ None → ⊥
entry_has at None none is = absurd cc
entry_has at (Some entry) none is = some_is_none (meaning_kind entry.meaning) is

layer_has : (scope : List Entry) (layer : Expr-F Expr Addend Factor) → HasKind (found_layer scope layer)
layer_has scope (Number at value) none is = some_is_none kinds.Int is
layer_has scope (Truth at value) none is = some_is_none kinds.Bool is
layer_has scope (Named at name) none is = entry_has at (entry_named scope name) none is
layer_has scope (Minus at of) none is = some_is_none kinds.Int is
layer_has scope (Not at of) none is = some_is_none kinds.Bool is
layer_has scope (Product first rest) none is = some_is_none kinds.Int is
layer_has scope (Sum first rest) none is = some_is_none kinds.Int is
layer_has scope (Compare op left right) none is = some_is_none kinds.Bool is
layer_has scope (Both parts) none is = some_is_none kinds.Bool is
layer_has scope (Either parts) none is = some_is_none kinds.Bool is

pub has_kind : (scope : List Entry) (expression : Expr) → (sense scope expression).faults ≡ [] → (sense scope expression).kind ≡ None → ⊥
has_kind scope expression =
    subst (λ (x : Expr). HasKind (sense scope x)) (roll-out-Expr expression)
    (subst HasKind (sym (fold-roll-Expr Sense AddendSense FactorSense (sense_step scope) addend_step factor_step (out-Expr expression))) (layer_has scope (out-Expr expression)))
