-- What is made on the way to an expression's value has 128 bits.
use Rattle.std.proofs.Common.{◌≡◌, ℕ, ◌+◌, ◌*◌, ◌^◌, ◌≤◌, ℤ, pos, negsuc, neg_ℤ, ◌+ℤ◌, ◌*ℤ◌, Bool, true, false, ◌&&◌, ◌||◌, List, [], ◌∷◌, map, length, Option, Some, None, All, refl, sym, ap, subst, ◌∙◌, arith}
use Rattle.std.specs.Prelude.{nat_le, unsigned_abs}
use Rattle.std.specs.List.{flat_map, list_all}
use Rattle.std.proofs.lemmas.Bool.Decides.{nat_tests}
use Rattle.std.proofs.lemmas.Int.{ints}
use Rattle.std.proofs.lemmas.List.{length-map}
use Rattle.std.proofs.lemmas.List.Elements.{All-nil, All-cons, All-append}
use Rattle.lang_tree.specs.declared.tree.Addend.{Addend, roll-Addend}
use Rattle.lang_tree.specs.declared.tree.Factor.{Factor, roll-Factor}
use Rattle.lang_tree.specs.declared.tree.Expr.{Expr, roll-Expr}
use Rattle.lang_tree.specs.declared.tree.Expr.TheOpen.{Expr-F, Addend-F, Factor-F, Number, Truth, Named, Minus, Not, Product, Sum, Compare, Both, Either}
use Rattle.lang_tree.specs.declared.tree.Expr.TheFolds.{fold-Addend, fold-Factor, fold-roll-Expr, fold-roll-Addend, fold-roll-Factor, map-Expr, ind-Expr}
use Rattle.logic_linear.specs.Truth.{Valuation}
use Rattle.lang_base.specs.Limits.{FILE_BYTES}
use Rattle.lang_base.specs.declared.kind.Kind.TheVariants as kinds
use Rattle.lang_base.specs.declared.value.Value.TheVariants as values
use Rattle.lang_forms.specs.declared.scope.Meaning.{Meaning}
use Rattle.lang_forms.specs.declared.scope.Meaning.TheVariants as meanings
use Rattle.lang_forms.specs.declared.scope.Entry.{Entry}
use Rattle.lang_forms.specs.Scope.{entry_named, signed}
use Rattle.lang_forms.specs.Forms.{Form, is_constant, minus, opposite, product}
use Rattle.lang_forms.specs.Plain.{number_in, entry_value, meaning_value}
use Rattle.lang_forms.specs.Sense.{Sense, AddendSense, FactorSense, addend_step, factor_step, large_form, part_faults, product_faults, sense, sense_step, sum_form}
use Rattle.lang_forms.proofs.FineParts.{AreFine, IsFine, or_else_none, parts_fine}
use Rattle.lang_forms.proofs.FormValues.{value, value_of_product}
use Rattle.lang_forms.proofs.LimitedForms.{both_true}
use Rattle.lang_forms.proofs.SoundSenses.{product_fine, small_number}
use Rattle.lang_types.proofs.NamedPlaces.{named_is_found}
use Rattle.emit_numbers.specs.Widths.{IsWide, Worked, WorkedPart, made_between, made_on, sums_made}
use Rattle.emit_expressions.specs.Expressions.{is_pieced}
use Rattle.emit_numbers.proofs.SumLengths.{has_short_sums, short_step}
use Rattle.emit_numbers.proofs.Short.{FoundPlain, IsShort, found_plain}
use Rattle.emit_numbers.proofs.Bounds.{IsBounded, IsLow, UNIT, abs_negative, abs_plus, form_low, form_worth, low_wide, part_low, parts_wide}
use Rattle.emit_numbers.proofs.Worked.{worked_addend_rolled, worked_factor_rolled, worked_layer, worked_of, worked_of_addend, worked_of_factor, worked_rolled, worked_worth}

one_wide : (number : ℤ) → unsigned_abs number ≤ UNIT → All IsWide (number ∷ [])
one_wide number low = All-cons IsWide number [] (low_wide number low) (All-nil IsWide)

-- ---- names

pub short_low : (number : ℤ) → IsShort (values.Int number) → unsigned_abs number ≤ 2 ^ 63
short_low (pos n) short = grind (arith, ints)
short_low (negsuc n) short = grind (arith, ints)

meaning_low : (valuation : Valuation) (variable : Bool) (meaning : Meaning) → IsLow valuation → FoundPlain (Some (record { name = []; meaning = meaning; is_variable = variable }))
    → unsigned_abs (number_in (meaning_value valuation meaning)) ≤ 2 ^ 63
meaning_low valuation variable (meanings.Number constant) low plain = short_low constant plain.1
meaning_low valuation variable (meanings.Int place) low plain = low place
meaning_low valuation variable (meanings.Flag place) low plain = omega arith

entry_low : (valuation : Valuation) (entry : Option Entry) → IsLow valuation → FoundPlain entry → unsigned_abs (number_in (entry_value valuation entry)) ≤ 2 ^ 63
entry_low valuation None low plain = omega arith
entry_low valuation (Some entry) low plain = meaning_low valuation entry.is_variable entry.meaning low plain

signed_abs : (minus : Bool) (number : ℤ) → unsigned_abs (signed minus number) ≡ unsigned_abs number
signed_abs true number = abs_negative number
signed_abs false number = refl

-- one part more
one_more : (parts so_far part whole unit : ℕ) → so_far ≤ parts * unit → part ≤ unit → whole ≤ so_far + part → whole ≤ (parts + 1) * unit
one_more parts so_far part whole unit few small is = omega arith

short_enough : (count : ℕ) → nat_le count FILE_BYTES ≡ true → 1 + count ≤ 65537
short_enough count is = grind (arith, nat_tests)

module _ (scope : List Entry) (valuation : Valuation) (bounded : IsBounded scope valuation) where
  abbrev sense_of : Expr → Sense
  sense_of = sense scope

  abbrev sense_of_addend : Addend → AddendSense
  sense_of_addend = fold-Addend Sense AddendSense FactorSense (sense_step scope) addend_step factor_step

  abbrev sense_of_factor : Factor → FactorSense
  sense_of_factor = fold-Factor Sense AddendSense FactorSense (sense_step scope) addend_step factor_step

  abbrev short_addend : Addend → Bool
  short_addend = fold-Addend Bool Bool Bool short_step (λ addend. addend.of) (λ factor. factor.of)

  abbrev short_factor : Factor → Bool
  short_factor = fold-Factor Bool Bool Bool short_step (λ addend. addend.of) (λ factor. factor.of)

  abbrev made_by : Expr → Worked
  made_by = worked_of scope valuation

  abbrev made_by_addend : Addend → WorkedPart
  made_by_addend = worked_of_addend scope valuation

  abbrev made_by_factor : Factor → WorkedPart
  made_by_factor = worked_of_factor scope valuation

  abbrev ExprWide : Expr → Type 0
  ExprWide expression = (sense_of expression).faults ≡ [] → has_short_sums expression ≡ true → All IsWide (made_by expression).made

  abbrev AddendWide : Addend → Type 0
  AddendWide addend = IsFine kinds.Int (sense_of_addend addend).of → short_addend addend ≡ true → All IsWide (made_by_addend addend).made × (unsigned_abs (made_by_addend addend).value ≤ UNIT)

  abbrev FactorWide : Factor → Type 0
  FactorWide factor =
      IsFine kinds.Int (sense_of_factor factor).of → short_factor factor ≡ true → All IsWide (made_by_factor factor).made × (value valuation scope (sense_of_factor factor).of.form ≡ (made_by_factor factor).value)

  abbrev Part : Type 0
  Part = (expression : Expr) × ExprWide expression

  abbrev AddendPart : Type 0
  AddendPart = (addend : Addend) × AddendWide addend

  abbrev FactorPart : Type 0
  FactorPart = (factor : Factor) × FactorWide factor

  abbrev bare_layer : Expr-F Part AddendPart FactorPart → Expr-F Expr Addend Factor
  bare_layer = map-Expr Part AddendPart FactorPart Expr Addend Factor (λ part. part.0) (λ part. part.0) (λ part. part.0)

  abbrev all_true : List Bool → Bool
  all_true tests = list_all (λ part. part) tests

  -- ---- values of parts

  int_low : (expression : Expr) → IsFine kinds.Int (sense_of expression) → unsigned_abs (number_in (made_by expression).value) ≤ UNIT
  int_low expression fine = subst (λ p. unsigned_abs (number_in p) ≤ UNIT) (sym (worked_worth scope valuation expression)) (part_low scope valuation bounded expression fine)

  int_worth : (expression : Expr) → IsFine kinds.Int (sense_of expression) → value valuation scope (sense_of expression).form ≡ number_in (made_by expression).value
  int_worth expression fine = form_worth scope valuation expression fine ∙ ap (λ p. number_in p) (sym (worked_worth scope valuation expression))

  -- ---- parts one after the other

  products_wide : (rest : List FactorPart) (at : ℕ) (form : Form) (so_far : ℤ) → value valuation scope form ≡ so_far → AreFine kinds.Int (map (λ factor. factor.of) (map sense_of_factor (map (λ x. x.0) rest)))
      → product_faults at form (map sense_of_factor (map (λ x. x.0) rest)) ≡ [] → all_true (map short_factor (map (λ x. x.0) rest)) ≡ true
      → All IsWide (made_on ◌*ℤ◌ so_far (map made_by_factor (map (λ x. x.0) rest)))
  products_wide [] at form so_far worth fine none short = All-nil IsWide
  products_wide (x ∷ rest) at form so_far worth fine none short =
      let factor = sense_of_factor x.0 in
      let both = both_true (short_factor x.0) (all_true (map short_factor (map (λ x. x.0) rest))) short in
      let turn = product_fine (is_constant form || is_constant factor.of.form) at (product form factor.of.form) _ (product_faults at (product form factor.of.form) (map sense_of_factor (map (λ x. x.0) rest))) none in
      let own = x.1 fine.0 both.0 in
      let next = so_far *ℤ (made_by_factor x.0).value in
      let is : value valuation scope (product form factor.of.form) ≡ next = value_of_product valuation scope form factor.of.form turn.0 ∙ (λ i. worth i *ℤ own.1 i) in
      let low = form_low valuation scope (product form factor.of.form) bounded.low bounded.few turn.1 in
      let later = products_wide rest at (product form factor.of.form) next is fine.1 turn.2 both.1 in
      All-append IsWide (made_by_factor x.0).made (next ∷ made_on ◌*ℤ◌ next (map made_by_factor (map (λ x. x.0) rest))) own.0
      (All-cons IsWide next (made_on ◌*ℤ◌ next (map made_by_factor (map (λ x. x.0) rest))) (low_wide next (subst (λ (n : ℤ). unsigned_abs n ≤ UNIT) is low)) later)

  sums_wide : (rest : List AddendPart) (parts : ℕ) (so_far : ℤ) → unsigned_abs so_far ≤ parts * UNIT → parts + length rest ≤ 65537 → AreFine kinds.Int (map (λ addend. addend.of) (map sense_of_addend (map (λ x. x.0) rest)))
      → all_true (map short_addend (map (λ x. x.0) rest)) ≡ true → All IsWide (made_on ◌+ℤ◌ so_far (map made_by_addend (map (λ x. x.0) rest)))
  sums_wide [] parts so_far low few fine short = All-nil IsWide
  sums_wide (x ∷ rest) parts so_far low few fine short =
      let both = both_true (short_addend x.0) (all_true (map short_addend (map (λ x. x.0) rest))) short in
      let own = x.1 fine.0 both.0 in
      let next = so_far +ℤ (made_by_addend x.0).value in
      let whole : unsigned_abs next ≤ (parts + 1) * UNIT = one_more parts (unsigned_abs so_far) (unsigned_abs (made_by_addend x.0).value) (unsigned_abs next) UNIT low own.1 (abs_plus so_far (made_by_addend x.0).value) in
      let later = sums_wide rest (parts + 1) next whole (omega arith) fine.1 both.1 in
      All-append IsWide (made_by_addend x.0).made (next ∷ made_on ◌+ℤ◌ next (map made_by_addend (map (λ x. x.0) rest))) own.0
      (All-cons IsWide next (made_on ◌+ℤ◌ next (map made_by_addend (map (λ x. x.0) rest))) (parts_wide (parts + 1) next (omega arith) whole) later)

  between_wide : (rest : List AddendPart) (first : ℤ) → unsigned_abs first ≤ UNIT → 1 + length rest ≤ 65537 → AreFine kinds.Int (map (λ addend. addend.of) (map sense_of_addend (map (λ x. x.0) rest)))
      → all_true (map short_addend (map (λ x. x.0) rest)) ≡ true → All IsWide (made_between first (map made_by_addend (map (λ x. x.0) rest)))
  between_wide [] first low few fine short = All-nil IsWide
  between_wide (x ∷ rest) first low few fine short =
      let both = both_true (short_addend x.0) (all_true (map short_addend (map (λ x. x.0) rest))) short in
      let own = x.1 fine.0 both.0 in
      let part = (made_by_addend x.0).value in
      let parts = map made_by_addend (map (λ x. x.0) rest) in
      All-append IsWide (made_on ◌+ℤ◌ first (made_by_addend x.0 ∷ parts)) (part ∷ made_between part parts) (sums_wide (x ∷ rest) 1 first (omega arith) few fine short)
      (All-cons IsWide part (made_between part parts) (low_wide part own.1) (between_wide rest part own.1 (omega arith) fine.1 both.1))

  pieces_wide : (pieced : Bool) (rest : List AddendPart) (first : ℤ) → unsigned_abs first ≤ UNIT → 1 + length rest ≤ 65537 → AreFine kinds.Int (map (λ addend. addend.of) (map sense_of_addend (map (λ x. x.0) rest)))
      → all_true (map short_addend (map (λ x. x.0) rest)) ≡ true → All IsWide (sums_made pieced first (map made_by_addend (map (λ x. x.0) rest)))
  pieces_wide true rest first low few fine short = between_wide rest first low few fine short
  pieces_wide false rest first low few fine short = sums_wide rest 1 first (omega arith) few fine short

  truths_wide : (parts : List Part) → AreFine kinds.Bool (map sense_of (map (λ x. x.0) parts)) → all_true (map has_short_sums (map (λ x. x.0) parts)) ≡ true
      → All IsWide (flat_map (λ part. part.made) (map made_by (map (λ x. x.0) parts)))
  truths_wide [] fine short = All-nil IsWide
  truths_wide (x ∷ parts) fine short =
      let both = both_true (has_short_sums x.0) (all_true (map has_short_sums (map (λ x. x.0) parts))) short in
      All-append IsWide (made_by x.0).made (flat_map (λ part. part.made) (map made_by (map (λ x. x.0) parts))) (x.1 fine.0.0 both.0) (truths_wide parts fine.1 both.1)

  -- ---- one layer

  abbrev sense_layer : Expr-F Expr Addend Factor → Sense
  sense_layer x = sense_step scope (map-Expr Expr Addend Factor Sense AddendSense FactorSense sense_of sense_of_addend sense_of_factor x)

  abbrev short_layer : Expr-F Expr Addend Factor → Bool
  short_layer x = short_step (map-Expr Expr Addend Factor Bool Bool Bool has_short_sums short_addend short_factor x)

  abbrev LayerWide : Expr-F Expr Addend Factor → Type 0
  LayerWide x = (sense_layer x).faults ≡ [] → short_layer x ≡ true → All IsWide (worked_layer scope valuation x).made

  layer_wide : (y : Expr-F Part AddendPart FactorPart) → LayerWide (bare_layer y)
  layer_wide (Number at number) none short = let small = small_number at number none in one_wide (pos number) (omega arith)
  layer_wide (Truth at truth) none short = All-nil IsWide
  layer_wide (Named at name) none short =
      let low = entry_low valuation (entry_named scope name) bounded.low (subst FoundPlain (sym (named_is_found scope name)) (found_plain scope name bounded.plain)) in
      one_wide (number_in (entry_value valuation (entry_named scope name))) (omega arith)
  layer_wide (Minus at of) none short =
      let part = sense_of of.0 in
      let outer = or_else_none (part_faults kinds.Int (part ∷ [])) (large_form at (opposite part.form)) none in
      let fine = (parts_fine kinds.Int (part ∷ []) outer.0).0 in
      let number = number_in (made_by of.0).value in
      All-append IsWide (made_by of.0).made (neg_ℤ number ∷ []) (of.1 fine.0 short)
      (one_wide (neg_ℤ number) (subst (λ (n : ℕ). n ≤ UNIT) (sym (abs_negative number)) (int_low of.0 fine)))
  layer_wide (Not at of) none short = of.1 (parts_fine kinds.Bool (sense_of of.0 ∷ []) none).0.0 short
  layer_wide (Product first rest) none short =
      let found = sense_of first.0 in
      let factors = map sense_of_factor (map (λ x. x.0) rest) in
      let parts = found ∷ map (λ factor. factor.of) factors in
      let outer = or_else_none (part_faults kinds.Int parts) (product_faults found.first found.form factors) none in
      let fine = parts_fine kinds.Int parts outer.0 in
      let both = both_true (has_short_sums first.0) (all_true (map short_factor (map (λ x. x.0) rest))) short in
      let number = number_in (made_by first.0).value in
      All-append IsWide (made_by first.0).made (made_on ◌*ℤ◌ number (map made_by_factor (map (λ x. x.0) rest))) (first.1 fine.0.0 both.0)
      (products_wide rest found.first found.form number (int_worth first.0 fine.0) fine.1 outer.1 both.1)
  layer_wide (Sum first rest) none short =
      let found = sense_of first.0 in
      let addends = map sense_of_addend (map (λ x. x.0) rest) in
      let parts = found ∷ map (λ addend. addend.of) addends in
      let outer = or_else_none (part_faults kinds.Int parts) (large_form found.first (sum_form found.form addends)) none in
      let fine = parts_fine kinds.Int parts outer.0 in
      let tests = map short_addend (map (λ x. x.0) rest) in
      let counted = both_true (nat_le (length tests) FILE_BYTES) (has_short_sums first.0 && all_true tests) short in
      let both = both_true (has_short_sums first.0) (all_true tests) counted.1 in
      let number = number_in (made_by first.0).value in
      let long : length tests ≡ length rest = length-map (map (λ x. x.0) rest) short_addend ∙ length-map rest (λ x. x.0) in
      let few = short_enough (length tests) counted.0 in
      let low = int_low first.0 fine.0 in
      let parts = map made_by_addend (map (λ x. x.0) rest) in
      let pieced = is_pieced (length parts) in
      All-append IsWide (made_by first.0).made (sums_made pieced number parts) (first.1 fine.0.0 both.0)
      (pieces_wide pieced rest number low (omega arith) fine.1 both.1)
  layer_wide (Compare op left right) none short =
      let l = sense_of left.0 in
      let r = sense_of right.0 in
      let outer = or_else_none (part_faults kinds.Int (l ∷ r ∷ [])) (large_form l.first (minus l.form r.form)) none in
      let fine = parts_fine kinds.Int (l ∷ r ∷ []) outer.0 in
      let both = both_true (has_short_sums left.0) (has_short_sums right.0) short in
      All-append IsWide (made_by left.0).made (made_by right.0).made (left.1 fine.0.0 both.0) (right.1 fine.1.0.0 both.1)
  layer_wide (Both parts) none short = truths_wide parts (parts_fine kinds.Bool (map sense_of (map (λ x. x.0) parts)) none) short
  layer_wide (Either parts) none short = truths_wide parts (parts_fine kinds.Bool (map sense_of (map (λ x. x.0) parts)) none) short

  -- ---- every layer

  roll_wide : (x : Expr-F Expr Addend Factor) → LayerWide x → ExprWide (roll-Expr x)
  roll_wide x wide none short =
      subst (λ (w : Worked). All IsWide w.made) (sym (worked_rolled scope valuation x))
      (wide (ap (λ (s : Sense). s.faults) (sym (fold-roll-Expr Sense AddendSense FactorSense (sense_step scope) addend_step factor_step x)) ∙ none)
      (sym (fold-roll-Expr Bool Bool Bool short_step (λ addend. addend.of) (λ factor. factor.of) x) ∙ short))

  addend_wide : (x : Addend-F Expr Addend Factor) → ExprWide x.of → AddendWide (roll-Addend x)
  addend_wide x wide fine short =
      let sensed = fold-roll-Addend Sense AddendSense FactorSense (sense_step scope) addend_step factor_step x in
      let own = subst (λ (s : AddendSense). IsFine kinds.Int s.of) sensed fine in
      let brief = sym (fold-roll-Addend Bool Bool Bool short_step (λ addend. addend.of) (λ factor. factor.of) x) ∙ short in
      subst (λ (w : WorkedPart). All IsWide w.made × (unsigned_abs w.value ≤ UNIT)) (sym (worked_addend_rolled scope valuation x))
      (wide own.0 brief, subst (λ (n : ℕ). n ≤ UNIT) (sym (signed_abs x.minus (number_in (made_by x.of).value))) (int_low x.of own))

  factor_wide : (x : Factor-F Expr Addend Factor) → ExprWide x.of → FactorWide (roll-Factor x)
  factor_wide x wide fine short =
      let sensed = fold-roll-Factor Sense AddendSense FactorSense (sense_step scope) addend_step factor_step x in
      let own = subst (λ (s : FactorSense). IsFine kinds.Int s.of) sensed fine in
      let brief = sym (fold-roll-Factor Bool Bool Bool short_step (λ addend. addend.of) (λ factor. factor.of) x) ∙ short in
      subst (λ (w : WorkedPart). All IsWide w.made × (value valuation scope (sense_of_factor (roll-Factor x)).of.form ≡ w.value)) (sym (worked_factor_rolled scope valuation x))
      (wide own.0 brief, ap (λ (s : FactorSense). value valuation scope s.of.form) sensed ∙ int_worth x.of own)

  pub expression_wide : (expression : Expr) → (sense scope expression).faults ≡ [] → has_short_sums expression ≡ true → All IsWide (worked_of scope valuation expression).made
  expression_wide =
      ind-Expr ExprWide AddendWide FactorWide
      (λ x y is. subst (λ (z : Expr-F Expr Addend Factor). ExprWide (roll-Expr z)) is (roll_wide (bare_layer y) (layer_wide y)))
      (λ x y is. subst (λ (z : Addend-F Expr Addend Factor). AddendWide (roll-Addend z)) is (addend_wide (record { minus = y.minus; of = y.of.0 }) y.of.1))
      (λ x y is. subst (λ (z : Factor-F Expr Addend Factor). FactorWide (roll-Factor z)) is (factor_wide (record { at = y.at; of = y.of.0 }) y.of.1))
