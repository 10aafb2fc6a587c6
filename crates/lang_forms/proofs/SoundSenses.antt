-- What is found of every expression: forms of the scope, of limited numbers where no rule is
-- broken, and formulas that can be negated.
use Rattle.std.proofs.Common.{◌≡◌, ℕ, ◌^◌, ◌≤◌, pos, neg_ℤ, Bool, true, false, List, [], ◌∷◌, map, refl, sym, subst, ◌∙◌, arith}
use Rattle.std.specs.Prelude.{nat_lt, ◌||◌, if◌then◌else◌}
use Rattle.std.specs.List.{list_all}
use Rattle.std.proofs.lemmas.Int.{ints}
use Rattle.std.proofs.lemmas.Bool.Decides.{nat_tests}
use Rattle.lang_tree.specs.declared.tree.Expr.{Expr, roll-Expr}
use Rattle.lang_tree.specs.declared.tree.Addend.{Addend, roll-Addend}
use Rattle.lang_tree.specs.declared.tree.Factor.{Factor, roll-Factor}
use Rattle.lang_tree.specs.declared.tree.Expr.TheOpen.{Expr-F, Addend-F, Factor-F, Number, Truth, Named, Minus, Not, Product, Sum, Compare, Both, Either}
use Rattle.lang_tree.specs.declared.tree.Expr.TheFolds.{fold-roll-Expr, fold-roll-Addend, fold-roll-Factor, map-Expr, ind-Expr}
use Rattle.lang_base.specs.declared.kind.Kind.TheVariants as kinds
use Rattle.lang_base.specs.declared.source_fault.SourceFault.{SourceFault}
use Rattle.lang_forms.specs.declared.scope.Entry.{Entry}
use Rattle.lang_base.specs.Limits.{GREATEST_NUMBER}
use Rattle.lang_forms.specs.Scope.{entry_named}
use Rattle.lang_forms.specs.Forms.{Form, scaled, plus, minus, product, is_constant, is_limited}
use Rattle.lang_forms.specs.inner.FormBounds.{IsFormOf}
use Rattle.lang_base.specs.Numbers.{is_within}
use Rattle.lang_base.specs.SourceFaults.{◌or_else◌}
use Rattle.lang_forms.specs.Sense.{Sense, AddendSense, FactorSense, is_other, part_faults, large_number, large_form, product_faults, product_form, signed_form, sum_form, sense, sense_step, addend_step, factor_step}
use Rattle.lang_forms.specs.Making.{has_small_numbers}
use Rattle.lang_forms.proofs.SenseLayers.{found_addend, found_factor}
use Rattle.lang_forms.proofs.FormShapes.{name_is_form, number_is_form, plus_is_form, product_is_form, scaled_is_form}
use Rattle.lang_forms.proofs.LimitedForms.{name_limited, number_limited}
pub use Rattle.lang_forms.proofs.FineParts.{or_else_none}
use Rattle.lang_forms.proofs.FineParts.{AreFine, no_fault, parts_fine}
use Rattle.lang_forms.proofs.ModestFormulas.{is_modest, modest-All, modest-Any, modest_negation, compared_modest, truth_modest, entry_modest}

-- ---- faults

no_fault_unless : (test : Bool) (fault : SourceFault) → (if test then [] else fault ∷ []) ≡ [] → test ≡ true
no_fault_unless true fault none = refl
no_fault_unless false fault none = absurd (cc)

pub large_form_none : (at : ℕ) (form : Form) → large_form at form ≡ [] → is_limited form ≡ true
large_form_none at form none = no_fault_unless (is_limited form) _ none

-- ---- what is found

pub record IsSound (scope : List Entry) (found : Sense) : Type 0 where
  pub of_scope : IsFormOf scope found.form
  pub limited : found.faults ≡ [] → is_other kinds.Int found.kind ≡ false → is_limited found.form ≡ true
  pub modest : found.faults ≡ [] → is_other kinds.Bool found.kind ≡ false → is_modest found.formula ≡ true

abbrev AreSound : List Entry → List Sense → Type 0
AreSound scope [] = Unit {0}
AreSound scope (part ∷ parts) = IsSound scope part × AreSound scope parts

pub signed_is_form : (scope : List Entry) (minus : Bool) (form : Form) → IsFormOf scope form → IsFormOf scope (if minus then scaled (neg_ℤ (pos 1)) form else form)
signed_is_form scope true form of_scope = scaled_is_form scope (neg_ℤ (pos 1)) form of_scope
signed_is_form scope false form of_scope = of_scope

sum_is_form : (scope : List Entry) (form : Form) (rest : List AddendSense) → IsFormOf scope form → AreSound scope (map (λ addend. addend.of) rest) → IsFormOf scope (sum_form form rest)
sum_is_form scope form [] of_scope sound = of_scope
sum_is_form scope form (addend ∷ rest) of_scope sound =
    sum_is_form scope (plus form (signed_form addend)) rest (plus_is_form scope form (signed_form addend) of_scope (signed_is_form scope addend.minus addend.of.form sound.0.of_scope)) sound.1

products_are_form : (scope : List Entry) (form : Form) (rest : List FactorSense) → IsFormOf scope form → AreSound scope (map (λ factor. factor.of) rest) → IsFormOf scope (product_form form rest)
products_are_form scope form [] of_scope sound = of_scope
products_are_form scope form (factor ∷ rest) of_scope sound = products_are_form scope (product form factor.of.form) rest (product_is_form scope form factor.of.form of_scope sound.0.of_scope) sound.1

-- one turn of a product
pub product_fine : (test : Bool) (at : ℕ) (form : Form) (fault : SourceFault) (later : List SourceFault) → (if test then large_form at form or_else later else fault ∷ []) ≡ [] → (test ≡ true) × (is_limited form ≡ true) × (later ≡ [])
product_fine true at form fault later none = let both = or_else_none (large_form at form) later none in (refl, large_form_none at form both.0, both.1)
product_fine false at form fault later none = absurd (cc)

pub product_turn : (at : ℕ) (form : Form) (factor : FactorSense) (rest : List FactorSense) → product_faults at form (factor ∷ rest) ≡ [] → (is_limited (product form factor.of.form) ≡ true) × (product_faults at (product form factor.of.form) rest ≡ [])
product_turn at form factor rest none =
    let fine = product_fine (is_constant form || is_constant factor.of.form) at (product form factor.of.form) _ (product_faults at (product form factor.of.form) rest) none in
    (fine.1, fine.2)

products_limited : (at : ℕ) (form : Form) (rest : List FactorSense) → is_limited form ≡ true → product_faults at form rest ≡ [] → is_limited (product_form form rest) ≡ true
products_limited at form [] limited none = limited
products_limited at form (factor ∷ rest) limited none = let turn = product_turn at form factor rest none in products_limited at (product form factor.of.form) rest turn.0 turn.1

parts_modest : (scope : List Entry) (parts : List Sense) → AreSound scope parts → AreFine kinds.Bool parts → list_all (λ part. part) (map is_modest (map (λ part. part.formula) parts)) ≡ true
parts_modest scope [] sound fine = refl
parts_modest scope (part ∷ parts) sound fine = rw (sound.0.modest fine.0.0 fine.0.1, parts_modest scope parts sound.1 fine.1) refl

pub small_number : (at value : ℕ) → large_number at value ≡ [] → value ≤ GREATEST_NUMBER
small_number at value none = let small = no_fault (nat_lt GREATEST_NUMBER value) _ none in grind (arith, nat_tests)

value_within : (value : ℕ) → value ≤ GREATEST_NUMBER → is_within (2 ^ 63) (pos value) ≡ true
value_within value small = grind (arith, ints)

-- ---- each layer

abbrev Sound : List Entry → Expr → Type 0
Sound scope expression = IsSound scope (sense scope expression)

abbrev SoundAddend : List Entry → Addend → Type 0
SoundAddend scope addend = IsSound scope (found_addend scope addend).of

abbrev SoundFactor : List Entry → Factor → Type 0
SoundFactor scope factor = IsSound scope (found_factor scope factor).of

addends_sound : (scope : List Entry) (rest : List ((addend : Addend) × SoundAddend scope addend)) → AreSound scope (map (λ addend. addend.of) (map (found_addend scope) (map (λ addend. addend.0) rest)))
addends_sound scope [] = tt
addends_sound scope (addend ∷ rest) = (addend.1, addends_sound scope rest)

factors_sound : (scope : List Entry) (rest : List ((factor : Factor) × SoundFactor scope factor)) → AreSound scope (map (λ factor. factor.of) (map (found_factor scope) (map (λ factor. factor.0) rest)))
factors_sound scope [] = tt
factors_sound scope (factor ∷ rest) = (factor.1, factors_sound scope rest)

parts_sound : (scope : List Entry) (parts : List ((part : Expr) × Sound scope part)) → AreSound scope (map (sense scope) (map (λ part. part.0) parts))
parts_sound scope [] = tt
parts_sound scope (part ∷ parts) = (part.1, parts_sound scope parts)

abbrev Layer : List Entry → Type 0
Layer scope = Expr-F ((expression : Expr) × Sound scope expression) ((addend : Addend) × SoundAddend scope addend) ((factor : Factor) × SoundFactor scope factor)

abbrev bare_layer : (scope : List Entry) → Layer scope → Expr-F Expr Addend Factor
bare_layer scope = map-Expr ((expression : Expr) × Sound scope expression) ((addend : Addend) × SoundAddend scope addend) ((factor : Factor) × SoundFactor scope factor) Expr Addend Factor (λ e. e.0) (λ e. e.0) (λ e. e.0)

abbrev found_layer : List Entry → Expr-F Expr Addend Factor → Sense
found_layer scope layer = sense_step scope (map-Expr Expr Addend Factor Sense AddendSense FactorSense (sense scope) (found_addend scope) (found_factor scope) layer)

true_not_false : {P : Type 0} → true ≡ false → P
true_not_false is = absurd (cc)

layer_sound : (scope : List Entry) → has_small_numbers scope ≡ true → (layer : Layer scope) → IsSound scope (found_layer scope (bare_layer scope layer))
layer_sound scope small (Number at value) = record {
  of_scope = number_is_form scope (pos value);
  limited = λ none other. number_limited scope (pos value) (value_within value (small_number at value none));
  modest = λ none other. true_not_false other;
}
layer_sound scope small (Truth at value) = record { of_scope = number_is_form scope (pos 0); limited = λ none other. true_not_false other; modest = λ none other. truth_modest value }
layer_sound scope small (Named at name) = record {
  of_scope = name_is_form scope name;
  limited = λ none other. name_limited scope name small;
  modest = λ none other. entry_modest (entry_named scope name);
}
layer_sound scope small (Minus at of) = record {
  of_scope = scaled_is_form scope (neg_ℤ (pos 1)) (sense scope of.0).form of.1.of_scope;
  limited = λ none other. large_form_none at (scaled (neg_ℤ (pos 1)) (sense scope of.0).form) (or_else_none (part_faults kinds.Int (sense scope of.0 ∷ [])) _ none).1;
  modest = λ none other. true_not_false other;
}
layer_sound scope small (Not at of) = record {
  of_scope = number_is_form scope (pos 0);
  limited = λ none other. true_not_false other;
  modest = λ none other.
      let fine = parts_fine kinds.Bool (sense scope of.0 ∷ []) none in
      modest_negation (sense scope of.0).formula ∙ of.1.modest fine.0.0 fine.0.1;
}
layer_sound scope small (Product first rest) = record {
  of_scope = products_are_form scope (sense scope first.0).form _ first.1.of_scope (factors_sound scope rest);
  limited = λ none other.
      let later = map (found_factor scope) (map (λ factor. factor.0) rest) in
      let both = or_else_none (part_faults kinds.Int (sense scope first.0 ∷ map (λ factor. factor.of) later)) _ none in
      let fine = parts_fine kinds.Int (sense scope first.0 ∷ map (λ factor. factor.of) later) both.0 in
      products_limited (sense scope first.0).first (sense scope first.0).form later (first.1.limited fine.0.0 fine.0.1) both.1;
  modest = λ none other. true_not_false other;
}
layer_sound scope small (Sum first rest) = record {
  of_scope = sum_is_form scope (sense scope first.0).form _ first.1.of_scope (addends_sound scope rest);
  limited = λ none other.
      let later = map (found_addend scope) (map (λ addend. addend.0) rest) in
      large_form_none (sense scope first.0).first (sum_form (sense scope first.0).form later) (or_else_none (part_faults kinds.Int (sense scope first.0 ∷ map (λ addend. addend.of) later)) _ none).1;
  modest = λ none other. true_not_false other;
}
layer_sound scope small (Compare op left right) = record {
  of_scope = number_is_form scope (pos 0);
  limited = λ none other. true_not_false other;
  modest = λ none other.
      let both = or_else_none (part_faults kinds.Int (sense scope left.0 ∷ sense scope right.0 ∷ [])) _ none in
      compared_modest scope op (sense scope left.0).form (sense scope right.0).form (large_form_none (sense scope left.0).first (minus (sense scope left.0).form (sense scope right.0).form) both.1);
}
layer_sound scope small (Both parts) = record {
  of_scope = number_is_form scope (pos 0);
  limited = λ none other. true_not_false other;
  modest = λ none other.
      let found = map (sense scope) (map (λ part. part.0) parts) in
      modest-All (map (λ part. part.formula) found) ∙ parts_modest scope found (parts_sound scope parts) (parts_fine kinds.Bool found none);
}
layer_sound scope small (Either parts) = record {
  of_scope = number_is_form scope (pos 0);
  limited = λ none other. true_not_false other;
  modest = λ none other.
      let found = map (sense scope) (map (λ part. part.0) parts) in
      modest-Any (map (λ part. part.formula) found) ∙ parts_modest scope found (parts_sound scope parts) (parts_fine kinds.Bool found none);
}

-- ---- every expression

roll_sound : (scope : List Entry) (layer : Expr-F Expr Addend Factor) → IsSound scope (found_layer scope layer) → Sound scope (roll-Expr layer)
roll_sound scope layer sound = subst (IsSound scope) (sym (fold-roll-Expr Sense AddendSense FactorSense (sense_step scope) addend_step factor_step layer)) sound

addend_sound : (scope : List Entry) (layer : Addend-F Expr Addend Factor) → Sound scope layer.of → SoundAddend scope (roll-Addend layer)
addend_sound scope layer sound =
    subst (λ (found : AddendSense). IsSound scope found.of) (sym (fold-roll-Addend Sense AddendSense FactorSense (sense_step scope) addend_step factor_step layer)) sound

factor_sound : (scope : List Entry) (layer : Factor-F Expr Addend Factor) → Sound scope layer.of → SoundFactor scope (roll-Factor layer)
factor_sound scope layer sound =
    subst (λ (found : FactorSense). IsSound scope found.of) (sym (fold-roll-Factor Sense AddendSense FactorSense (sense_step scope) addend_step factor_step layer)) sound

pub every_sense_is_sound : (scope : List Entry) → has_small_numbers scope ≡ true → (expression : Expr) → IsSound scope (sense scope expression)
every_sense_is_sound scope small =
    ind-Expr (Sound scope) (SoundAddend scope) (SoundFactor scope)
    (λ x y is. subst (λ (z : Expr-F Expr Addend Factor). Sound scope (roll-Expr z)) is (roll_sound scope (bare_layer scope y) (layer_sound scope small y)))
    (λ x y is. subst (λ (z : Addend-F Expr Addend Factor). SoundAddend scope (roll-Addend z)) is (addend_sound scope (record { minus = y.minus; of = y.of.0 }) y.of.1))
    (λ x y is. subst (λ (z : Factor-F Expr Addend Factor). SoundFactor scope (roll-Factor z)) is (factor_sound scope (record { at = y.at; of = y.of.0 }) y.of.1))
