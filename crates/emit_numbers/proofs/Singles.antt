-- One operation in 64 bits: each number on the way has 64 bits just where the last one has.
use Rattle.std.proofs.Common.{◌≡◌, ℕ, ℤ, pos, neg_ℤ, Bool, true, false, ◌&&◌, ◌||◌, List, [], ◌∷◌, ◌++◌, map, refl, sym, ap, subst, ◌∙◌, true≢false}
use Rattle.std.specs.Prelude.{nat_lt, if◌then◌else◌}
use Rattle.lang_tree.specs.declared.tree.Addend.{Addend, out-Addend}
use Rattle.lang_tree.specs.declared.tree.Factor.{Factor, out-Factor}
use Rattle.lang_tree.specs.declared.tree.Expr.{Expr, out-Expr, roll-Expr, roll-out-Expr}
use Rattle.lang_tree.specs.declared.tree.Expr.TheOpen.{Number, Truth, Named, Minus, Not, Product, Sum, Compare, Both, Either}
use Rattle.lang_tree.specs.declared.tree.Expr.TheFolds.{fold_out-Addend, fold_out-Factor}
use Rattle.lang_tree.specs.declared.tree.Expr.TheViews.{out-roll-Expr}
use Rattle.lang_base.specs.Limits.{GREATEST_NUMBER}
use Rattle.lang_base.specs.declared.kind.Kind.TheVariants as kinds
use Rattle.lang_base.specs.declared.value.Value.TheVariants as values
use Rattle.lang_forms.specs.Scope.{entry_named}
use Rattle.lang_forms.specs.Forms.{opposite}
use Rattle.lang_forms.specs.Plain.{Plain, number, truth, number_in, entry_value}
use Rattle.lang_forms.specs.Sense as senses
use Rattle.lang_forms.specs.Sense.{Sense, AddendSense, FactorSense, sense, sense_step, large_form, part_faults, product_faults, sum_form}
use Rattle.lang_forms.proofs.FineParts.{no_fault, or_else_none, parts_fine}
use Rattle.lang_forms.proofs.LimitedForms.{both_true}
use Rattle.lang_forms.proofs.SenseLayers.{found_addend, found_factor}
use Rattle.lang_monitor.specs.Bodies.{fits_64, reading}
use Rattle.lang_types.proofs.NamedPlaces.{named_is_found}
use Rattle.emit_expressions.specs.Scopes.{ScopeParts}
use Rattle.emit_expressions.specs.Expressions.{Written, written}
use Rattle.emit_expressions.specs.Values.{is_atom, is_atom_in, is_single, is_single_in, is_variable, is_variable_in}
use Rattle.emit_numbers.specs.Calls.{all_fit, as_value, entries, keeps_64, plain_now, value_now}
use Rattle.emit_numbers.specs.Widths.{Worked, WorkedPart, worked_addend, worked_factor, worked_step}
use Rattle.emit_numbers.proofs.Short.{FoundPlain, IsShort, found_plain, natural_short}
use Rattle.emit_numbers.proofs.Atoms.{Bare, Reading, entry_short, is_natural, negated_short, sense_layer, sense_rolled, written_layer, written_rolled}
use Rattle.emit_numbers.proofs.Worked.{worked_layer, worked_of, worked_of_addend, worked_of_factor, worked_rolled, worked_worth}

-- ---- lists of numbers

all_one : (x : ℤ) → IsShort (values.Int x) → all_fit (x ∷ []) ≡ true
all_one x short = rw (short) refl

then_one : (xs : List ℤ) (x : ℤ) → all_fit xs ≡ true → all_fit (xs ++ (x ∷ [])) ≡ fits_64 (values.Int x)
then_one [] x fit = by_one (fits_64 (values.Int x)) where
  by_one : (test : Bool) → (test && true) ≡ test
  by_one true = refl
  by_one false = refl
then_one (first ∷ xs) x fit =
    let both = both_true (fits_64 (values.Int first)) (all_fit xs) fit in
    ap (λ (t : Bool). t && all_fit (xs ++ (x ∷ []))) both.0 ∙ then_one xs x both.1

then_more : (xs ys : List ℤ) → all_fit xs ≡ true → all_fit (xs ++ ys) ≡ all_fit ys
then_more [] ys fit = refl
then_more (first ∷ xs) ys fit =
    let both = both_true (fits_64 (values.Int first)) (all_fit xs) fit in
    ap (λ (t : Bool). t && all_fit (xs ++ ys)) both.0 ∙ then_more xs ys both.1

number_short : (plain : Plain) → IsShort (as_value plain) → IsShort (values.Int (number_in plain))
number_short (number n) short = short
number_short (truth b) short = refl

variable_atom : (scope : ScopeParts) (layer : Bare) → is_variable_in scope layer ≡ true → is_atom_in scope layer ≡ true
variable_atom scope (Number at value) is = absurd (true≢false (sym is))
variable_atom scope (Truth at value) is = absurd (true≢false (sym is))
variable_atom scope (Named at name) is = refl
variable_atom scope (Minus at of) is = absurd (true≢false (sym is))
variable_atom scope (Not at of) is = absurd (true≢false (sym is))
variable_atom scope (Product first rest) is = absurd (true≢false (sym is))
variable_atom scope (Sum first rest) is = absurd (true≢false (sym is))
variable_atom scope (Compare op left right) is = absurd (true≢false (sym is))
variable_atom scope (Both parts) is = absurd (true≢false (sym is))
variable_atom scope (Either parts) is = absurd (true≢false (sym is))

module _ (here : Reading) where
  abbrev made_of : Expr → Worked
  made_of = worked_of (entries here.scope) (reading here.arguments here.memory)

  abbrev made_of_addend : Addend → WorkedPart
  made_of_addend = worked_of_addend (entries here.scope) (reading here.arguments here.memory)

  abbrev made_of_factor : Factor → WorkedPart
  made_of_factor = worked_of_factor (entries here.scope) (reading here.arguments here.memory)

  abbrev made_layer : Bare → Worked
  made_layer = worked_layer (entries here.scope) (reading here.arguments here.memory)

  abbrev IsFaultless : Expr → Type 0
  IsFaultless expression = (sense (entries here.scope) expression).faults ≡ []

  -- a fact of each layer is one of each expression
  faults_rolled : (layer : Bare) → IsFaultless (roll-Expr layer) → (sense_layer (entries here.scope) layer).faults ≡ []
  faults_rolled layer none = ap (λ (x : Sense). x.faults) (sym (sense_rolled (entries here.scope) layer)) ∙ none

  made_rolled : (layer : Bare) → made_of (roll-Expr layer) ≡ made_layer layer
  made_rolled = worked_rolled (entries here.scope) (reading here.arguments here.memory)

  -- ---- atoms

  natural_layer : (layer : Bare) → (sense_layer (entries here.scope) layer).faults ≡ [] → (written_layer here.scope layer).is_number ≡ true → all_fit (made_layer layer).made ≡ true
  natural_layer (Number at value) none is = all_one (pos value) (natural_short value (no_fault (nat_lt GREATEST_NUMBER value) _ none))
  natural_layer (Truth at value) none is = absurd (true≢false (sym is))
  natural_layer (Named at name) none is = absurd (true≢false (sym is))
  natural_layer (Minus at of) none is = absurd (true≢false (sym is))
  natural_layer (Not at of) none is = absurd (true≢false (sym is))
  natural_layer (Product first rest) none is = absurd (true≢false (sym is))
  natural_layer (Sum first rest) none is = absurd (true≢false (sym is))
  natural_layer (Compare op left right) none is = absurd (true≢false (sym is))
  natural_layer (Both parts) none is = absurd (true≢false (sym is))
  natural_layer (Either parts) none is = absurd (true≢false (sym is))

  abbrev NaturalMade : Expr → Type 0
  NaturalMade expression = IsFaultless expression → (written here.scope expression).is_number ≡ true → all_fit (made_of expression).made ≡ true

  natural_rolled : (layer : Bare) → NaturalMade (roll-Expr layer)
  natural_rolled layer none is =
      ap (λ (w : Worked). all_fit w.made) (made_rolled layer) ∙ natural_layer layer (faults_rolled layer none) (ap (λ (x : Written). x.is_number) (sym (written_rolled here.scope layer)) ∙ is)

  natural_made : (expression : Expr) → NaturalMade expression
  natural_made expression = subst NaturalMade (roll-out-Expr expression) (natural_rolled (out-Expr expression))

  negative_made : (of : Expr) → IsFaultless of → (written here.scope of).is_number ≡ true → IsShort (values.Int (neg_ℤ (number_in (made_of of).value)))
  negative_made of none is =
      subst (λ (p : Plain). IsShort (values.Int (neg_ℤ (number_in p)))) (sym (worked_worth (entries here.scope) (reading here.arguments here.memory) of))
      (negated_short (plain_now here.scope here.arguments here.memory of) (is_natural here of none is))

  atom_layer : (layer : Bare) → (sense_layer (entries here.scope) layer).faults ≡ [] → is_atom_in here.scope layer ≡ true → all_fit (made_layer layer).made ≡ true
  atom_layer (Number at value) none is = all_one (pos value) (natural_short value (no_fault (nat_lt GREATEST_NUMBER value) _ none))
  atom_layer (Truth at value) none is = absurd (true≢false (sym is))
  atom_layer (Named at name) none is =
      let scope = entries here.scope in
      let value = entry_value (reading here.arguments here.memory) (entry_named scope name) in
      all_one (number_in value) (number_short value (entry_short here (entry_named scope name) (subst FoundPlain (sym (named_is_found scope name)) (found_plain scope name here.plain))))
  atom_layer (Minus at of) none is =
      let part = sense (entries here.scope) of in
      let outer = or_else_none (part_faults kinds.Int (part ∷ [])) (large_form at (opposite part.form)) none in
      let fine = parts_fine kinds.Int (part ∷ []) outer.0 in
      then_one (made_of of).made (neg_ℤ (number_in (made_of of).value)) (natural_made of fine.0.0 is) ∙ negative_made of fine.0.0 is
  atom_layer (Not at of) none is = absurd (true≢false (sym is))
  atom_layer (Product first rest) none is = absurd (true≢false (sym is))
  atom_layer (Sum first rest) none is = absurd (true≢false (sym is))
  atom_layer (Compare op left right) none is = absurd (true≢false (sym is))
  atom_layer (Both parts) none is = absurd (true≢false (sym is))
  atom_layer (Either parts) none is = absurd (true≢false (sym is))

  abbrev AtomMade : Expr → Type 0
  AtomMade expression = IsFaultless expression → is_atom here.scope expression ≡ true → all_fit (made_of expression).made ≡ true

  atom_rolled : (layer : Bare) → AtomMade (roll-Expr layer)
  atom_rolled layer none is =
      ap (λ (w : Worked). all_fit w.made) (made_rolled layer) ∙ atom_layer layer (faults_rolled layer none) (ap (is_atom_in here.scope) (sym (out-roll-Expr layer)) ∙ is)

  atom_made : (expression : Expr) → AtomMade expression
  atom_made expression = subst AtomMade (roll-out-Expr expression) (atom_rolled (out-Expr expression))

  -- ---- one operation

  factor_made : (factor : Factor) → IsFaultless (out-Factor factor).of → is_atom here.scope (out-Factor factor).of ≡ true → all_fit (made_of_factor factor).made ≡ true
  factor_made factor none is =
      ap (λ (w : WorkedPart). all_fit w.made) (fold_out-Factor Worked WorkedPart WorkedPart (worked_step (entries here.scope) (reading here.arguments here.memory)) worked_addend worked_factor factor)
      ∙ atom_made (out-Factor factor).of none is

  addend_made : (addend : Addend) → IsFaultless (out-Addend addend).of → is_atom here.scope (out-Addend addend).of ≡ true → all_fit (made_of_addend addend).made ≡ true
  addend_made addend none is =
      ap (λ (w : WorkedPart). all_fit w.made) (fold_out-Addend Worked WorkedPart WorkedPart (worked_step (entries here.scope) (reading here.arguments here.memory)) worked_addend worked_factor addend)
      ∙ atom_made (out-Addend addend).of none is

  factor_faultless : (factor : Factor) → (found_factor (entries here.scope) factor).of.faults ≡ [] → IsFaultless (out-Factor factor).of
  factor_faultless factor none = ap (λ (s : FactorSense). s.of.faults) (sym (fold_out-Factor Sense AddendSense FactorSense (sense_step (entries here.scope)) senses.addend_step senses.factor_step factor)) ∙ none

  addend_faultless : (addend : Addend) → (found_addend (entries here.scope) addend).of.faults ≡ [] → IsFaultless (out-Addend addend).of
  addend_faultless addend none = ap (λ (s : AddendSense). s.of.faults) (sym (fold_out-Addend Sense AddendSense FactorSense (sense_step (entries here.scope)) senses.addend_step senses.factor_step addend)) ∙ none

  abbrev KeepsLast : Worked → Type 0
  KeepsLast made = all_fit made.made ≡ fits_64 (as_value made.value)

  abbrev LayerKeeps : Bare → Type 0
  LayerKeeps layer = (sense_layer (entries here.scope) layer).faults ≡ [] → is_single_in here.scope layer ≡ true → KeepsLast (made_layer layer)

  both_made : (first part : List ℤ) (last : ℤ) → all_fit first ≡ true → all_fit part ≡ true → all_fit (first ++ (part ++ (last ∷ []))) ≡ fits_64 (values.Int last)
  both_made first part last this that = then_more first (part ++ (last ∷ [])) this ∙ then_one part last that

  layer_keeps : (layer : Bare) → LayerKeeps layer
  layer_keeps (Number at value) none is = absurd (true≢false (sym is))
  layer_keeps (Truth at value) none is = absurd (true≢false (sym is))
  layer_keeps (Named at name) none is = absurd (true≢false (sym is))
  layer_keeps (Minus at of) none is =
      let part = sense (entries here.scope) of in
      let outer = or_else_none (part_faults kinds.Int (part ∷ [])) (large_form at (opposite part.form)) none in
      let fine = parts_fine kinds.Int (part ∷ []) outer.0 in
      then_one (made_of of).made (neg_ℤ (number_in (made_of of).value)) (atom_made of fine.0.0 (variable_atom here.scope (out-Expr of) is))
  layer_keeps (Not at of) none is = absurd (true≢false (sym is))
  layer_keeps (Product first []) none is = absurd (true≢false (sym is))
  layer_keeps (Product first (one ∷ [])) none is =
      let scope = entries here.scope in
      let found = sense scope first in
      let factors = found_factor scope one ∷ [] in
      let parts = found ∷ map (λ factor. factor.of) factors in
      let outer = or_else_none (part_faults kinds.Int parts) (product_faults found.first found.form factors) none in
      let fine = parts_fine kinds.Int parts outer.0 in
      let atoms = both_true (is_atom here.scope first && is_atom here.scope (out-Factor one).of) (is_variable here.scope first || is_variable here.scope (out-Factor one).of) is in
      let each = both_true (is_atom here.scope first) (is_atom here.scope (out-Factor one).of) atoms.0 in
      both_made (made_of first).made (made_of_factor one).made _ (atom_made first fine.0.0 each.0) (factor_made one (factor_faultless one fine.1.0.0) each.1)
  layer_keeps (Product first (one ∷ other ∷ rest)) none is = absurd (true≢false (sym is))
  layer_keeps (Sum first []) none is = absurd (true≢false (sym is))
  layer_keeps (Sum first (one ∷ [])) none is =
      let scope = entries here.scope in
      let found = sense scope first in
      let addends = found_addend scope one ∷ [] in
      let parts = found ∷ map (λ addend. addend.of) addends in
      let outer = or_else_none (part_faults kinds.Int parts) (large_form found.first (sum_form found.form addends)) none in
      let fine = parts_fine kinds.Int parts outer.0 in
      let atoms = both_true (is_atom here.scope first && is_atom here.scope (out-Addend one).of) (is_variable here.scope first || is_variable here.scope (out-Addend one).of) is in
      let each = both_true (is_atom here.scope first) (is_atom here.scope (out-Addend one).of) atoms.0 in
      both_made (made_of first).made (made_of_addend one).made _ (atom_made first fine.0.0 each.0) (addend_made one (addend_faultless one fine.1.0.0) each.1)
  layer_keeps (Sum first (one ∷ other ∷ rest)) none is = absurd (true≢false (sym is))
  layer_keeps (Compare op left right) none is = absurd (true≢false (sym is))
  layer_keeps (Both parts) none is = absurd (true≢false (sym is))
  layer_keeps (Either parts) none is = absurd (true≢false (sym is))

  abbrev SingleKeeps : Expr → Type 0
  SingleKeeps expression = IsFaultless expression → is_single here.scope expression ≡ true → KeepsLast (made_of expression)

  single_rolled : (layer : Bare) → SingleKeeps (roll-Expr layer)
  single_rolled layer none is = subst KeepsLast (sym (made_rolled layer)) (layer_keeps layer (faults_rolled layer none) (ap (is_single_in here.scope) (sym (out-roll-Expr layer)) ∙ is))

  single_keeps : (expression : Expr) → SingleKeeps expression
  single_keeps expression = subst SingleKeeps (roll-out-Expr expression) (single_rolled (out-Expr expression))

  -- ---- any value

  by_single : (whole single made fits : Bool) → (single ≡ true → made ≡ fits) → (if whole && single then made else fits) ≡ fits
  by_single true true made fits same = same refl
  by_single true false made fits same = refl
  by_single false single made fits same = refl

  pub keeps_short : (expression : Expr) → IsFaultless expression → keeps_64 here.scope here.arguments here.memory expression ≡ fits_64 (value_now here.scope here.arguments here.memory expression)
  keeps_short expression none =
      by_single here.scope.whole (is_single here.scope expression) (all_fit (made_of expression).made) (fits_64 (value_now here.scope here.arguments here.memory expression))
      (λ is. single_keeps expression none is ∙ ap (λ (p : Plain). fits_64 (as_value p)) (worked_worth (entries here.scope) (reading here.arguments here.memory) expression))
