-- What is found of an expression keeps its plain meaning, by induction on its layers.
use Rattle.std.proofs.Common.{◌≡◌, ℕ, Bool, true, false, ◌||◌, cond, ℤ, pos, neg_ℤ, ◌+ℤ◌, ◌-ℤ◌, ◌*ℤ◌, List, [], ◌∷◌, map, length, Option, Some, None, refl, sym, ap, subst, ◌∙◌, arith}
use Rattle.std.specs.Prelude.{fold, int_le, int_lt, not, slice_get}
use Rattle.std.specs.List.{list_all, list_any}
use Rattle.std.specs.Ordering.{int_eq}
use Rattle.std.proofs.lemmas.Int.{ints}
use Rattle.std.proofs.lemmas.List.Folds.{list_all-map}
use Rattle.lang_tree.specs.declared.tree.Op.{Op}
use Rattle.lang_tree.specs.declared.tree.Op.TheVariants as ops
use Rattle.lang_tree.specs.declared.tree.Addend.{Addend, roll-Addend}
use Rattle.lang_tree.specs.declared.tree.Factor.{Factor, roll-Factor}
use Rattle.lang_tree.specs.declared.tree.Expr.{Expr, roll-Expr}
use Rattle.lang_tree.specs.declared.tree.Expr.TheOpen.{Expr-F, Addend-F, Factor-F, Number, Truth, Named, Minus, Not, Product, Sum, Compare, Both, Either}
use Rattle.lang_tree.specs.declared.tree.Expr.TheFolds.{fold-Addend, fold-Factor, fold-roll-Expr, fold-roll-Addend, fold-roll-Factor, map-Expr, ind-Expr}
use Rattle.logic_linear.specs.declared.formula.Formula.{Formula}
use Rattle.logic_linear.specs.declared.formula.Formula.TheVariants as formulas
use Rattle.logic_linear.specs.declared.formula.Formula.TheOpen as rows
use Rattle.logic_linear.specs.declared.formula.Formula.TheFolds.{fold-roll-Formula}
use Rattle.logic_linear.specs.Linear.{Linear}
use Rattle.logic_linear.specs.Negation.{negation}
use Rattle.logic_linear.specs.Truth.{Valuation, layer_truth, truth_of, value_of}
use Rattle.logic_linear.proofs.NegationLemmas.{negation_flips}
use Rattle.lang_base.specs.declared.kind.Kind.TheVariants as kinds
use Rattle.lang_base.specs.declared.source_fault.SourceFault.{SourceFault}
use Rattle.lang_base.specs.declared.source_fault.Refusal.TheVariants as refusals
use Rattle.lang_forms.specs.declared.scope.Meaning.{Meaning}
use Rattle.lang_forms.specs.declared.scope.Meaning.TheVariants as meanings
use Rattle.lang_forms.specs.declared.scope.Entry.{Entry}
use Rattle.lang_forms.specs.Scope.{signed, index_of, entry_at, entry_named}
use Rattle.lang_forms.specs.Forms.{Form, number_form, entry_form, plus, minus, scaled, raised, product, is_constant, linear_of}
use Rattle.lang_base.specs.SourceFaults.{fault_at, ◌or_else◌}
use Rattle.lang_forms.specs.Sense as senses
use Rattle.lang_forms.specs.Sense.{Sense, AddendSense, FactorSense, is_other, part_faults, product_faults, large_form, product_form, sum_form, signed_form, sense_step, addend_step, factor_step, sense, truth_formula, entry_kind, entry_formula, unknown}
use Rattle.lang_forms.specs.Plain as plains
use Rattle.lang_forms.specs.Plain.{Plain, number_in, truth_in, plain_step, addend_value, factor_value, plain_value, entry_value}
use Rattle.lang_forms.proofs.FineParts.{IsFine, AreFine, or_else_none, parts_fine}
use Rattle.lang_forms.proofs.FormValues.{value, value_of_linear, value_of_number, value_of_once, value_of_negative, value_of_plus, value_of_minus, value_of_raised, value_of_product, length_of_number, length_of_once, length_of_scaled, length_of_plus, length_of_product}

-- ---- one part

-- a form's value is the number, where nothing is broken
pub record IsWorth (valuation : Valuation) (scope : List Entry) (found : Sense) (number : ℤ) : Type 0 where
  pub entries : length found.form.times ≡ length scope
  pub worth : IsFine kinds.Int found → value valuation scope found.form ≡ number

-- the same, and a formula's truth is the truth value
pub record Agrees (valuation : Valuation) (scope : List Entry) (found : Sense) (plain : Plain) : Type 0 where
  pub ints : IsWorth valuation scope found (number_in plain)
  pub bools : IsFine kinds.Bool found → truth_of valuation found.formula ≡ truth_in plain

-- a part of a sum, with its sign
pub record AddendAgrees (valuation : Valuation) (scope : List Entry) (found : AddendSense) (number : ℤ) : Type 0 where
  pub entries : length (signed_form found).times ≡ length scope
  pub worth : IsFine kinds.Int found.of → value valuation scope (signed_form found) ≡ number

abbrev FactorAgrees : Valuation → List Entry → FactorSense → ℤ → Type 0
FactorAgrees valuation scope found number = IsWorth valuation scope found.of number

-- ---- formulas

truth_row : (valuation : Valuation) (linear : Linear) → truth_of valuation (formulas.Row linear) ≡ int_le (value_of valuation linear) (pos 0)
truth_row valuation linear = ap (truth_of valuation) (sym (formulas.rolls-Row linear)) ∙ fold-roll-Formula Bool (layer_truth valuation) (rows.Row linear)

truth_flag : (valuation : Valuation) (place : ℕ) → truth_of valuation (formulas.Flag place true) ≡ valuation.flag place
truth_flag valuation place = ap (truth_of valuation) (sym (formulas.rolls-Flag place true)) ∙ fold-roll-Formula Bool (layer_truth valuation) (rows.Flag place true)

truth_all : (valuation : Valuation) (parts : List Formula) → truth_of valuation (formulas.All parts) ≡ list_all (λ part. part) (map (truth_of valuation) parts)
truth_all valuation parts = ap (truth_of valuation) (sym (formulas.rolls-All parts)) ∙ fold-roll-Formula Bool (layer_truth valuation) (rows.All parts)

truth_any : (valuation : Valuation) (parts : List Formula) → truth_of valuation (formulas.Any parts) ≡ list_any (λ part. part) (map (truth_of valuation) parts)
truth_any valuation parts = ap (truth_of valuation) (sym (formulas.rolls-Any parts)) ∙ fold-roll-Formula Bool (layer_truth valuation) (rows.Any parts)

literal_truth : (valuation : Valuation) (truth : Bool) → truth_of valuation (truth_formula truth) ≡ truth
literal_truth valuation true = truth_all valuation []
literal_truth valuation false = truth_any valuation []

-- ---- comparisons

below_zero : (d l r : ℤ) → d ≡ l -ℤ r → int_le d (pos 0) ≡ int_le l r
below_zero d l r h = grind (arith, ints)

raised_below_zero : (d l r : ℤ) → d ≡ (l -ℤ r) +ℤ pos 1 → int_le d (pos 0) ≡ int_lt l r
raised_below_zero d l r h = grind (arith, ints)

both_at_most : (l r : ℤ) → list_all (λ part. part) (int_le l r ∷ int_le r l ∷ []) ≡ int_eq l r
both_at_most l r = grind (arith, ints)

either_less : (l r : ℤ) → list_any (λ part. part) (int_lt r l ∷ int_lt l r ∷ []) ≡ not (int_eq l r)
either_less l r = grind (arith, ints)

both_tests : (over : List Bool → Bool) (a b c d : Bool) → a ≡ c → b ≡ d → over (a ∷ b ∷ []) ≡ over (c ∷ d ∷ [])
both_tests over a b c d h k = cc

module _ (valuation : Valuation) (scope : List Entry) where
  at_most_truth : (left right : Form) (l r : ℤ) → length left.times ≡ length right.times → value valuation scope left ≡ l → value valuation scope right ≡ r → truth_of valuation (senses.at_most scope left right) ≡ int_le l r
  at_most_truth left right l r long e f =
      let worth : value_of valuation (linear_of scope (minus left right)) ≡ l -ℤ r = rw (← e, ← f) (value_of_linear valuation scope (minus left right) ∙ value_of_minus valuation scope left right long) in
      truth_row valuation (linear_of scope (minus left right)) ∙ below_zero _ l r worth

  less_truth : (left right : Form) (l r : ℤ) → length left.times ≡ length right.times → value valuation scope left ≡ l → value valuation scope right ≡ r → truth_of valuation (senses.less scope left right) ≡ int_lt l r
  less_truth left right l r long e f =
      let worth : value_of valuation (linear_of scope (raised (pos 1) (minus left right))) ≡ (l -ℤ r) +ℤ pos 1 =
      rw (← e, ← f) (value_of_linear valuation scope (raised (pos 1) (minus left right)) ∙ value_of_raised valuation scope (pos 1) (minus left right) ∙ ap (λ n. n +ℤ pos 1) (value_of_minus valuation scope left right long)) in
      truth_row valuation (linear_of scope (raised (pos 1) (minus left right))) ∙ raised_below_zero _ l r worth

  compared_truth : (op : Op) (left right : Form) (l r : ℤ) → length left.times ≡ length right.times → value valuation scope left ≡ l → value valuation scope right ≡ r → truth_of valuation (senses.comparison_formula scope op left right) ≡ plains.compared op l r
  compared_truth ops.Equal left right l r long e f =
      truth_all valuation (senses.at_most scope left right ∷ senses.at_most scope right left ∷ [])
      ∙ both_tests (λ tests. list_all (λ part. part) tests) _ _ _ _ (at_most_truth left right l r long e f) (at_most_truth right left r l (sym long) f e)
      ∙ both_at_most l r
  compared_truth ops.Differs left right l r long e f =
      truth_any valuation (senses.less scope right left ∷ senses.less scope left right ∷ [])
      ∙ both_tests (λ tests. list_any (λ part. part) tests) _ _ _ _ (less_truth right left r l (sym long) f e) (less_truth left right l r long e f)
      ∙ either_less l r
  compared_truth ops.Less left right l r long e f = less_truth left right l r long e f
  compared_truth ops.AtMost left right l r long e f = at_most_truth left right l r long e f
  compared_truth ops.More left right l r long e f = less_truth right left r l (sym long) f e
  compared_truth ops.AtLeast left right l r long e f = at_most_truth right left r l (sym long) f e

-- ---- names

abbrev name_sense : List Entry → ℕ → Option ℕ → Option Entry → Sense
name_sense scope at index entry = record { first = at; kind = entry_kind entry; faults = unknown at entry; form = entry_form scope index entry; formula = entry_formula entry }

module _ (valuation : Valuation) (scope : List Entry) (at : ℕ) where
  unknown_agrees : (index : Option ℕ) → Agrees valuation scope (name_sense scope at index None) (plains.number (pos 0))
  unknown_agrees None = record {
    ints = record { entries = length_of_number scope (pos 0); worth = λ fine. let broken = fine.0 in absurd cc };
    bools = λ fine. let broken = fine.0 in absurd cc;
  }
  unknown_agrees (Some index) = record {
    ints = record { entries = length_of_number scope (pos 0); worth = λ fine. let broken = fine.0 in absurd cc };
    bools = λ fine. let broken = fine.0 in absurd cc;
  }

  entry_agrees : (index : ℕ) (name : List ℕ) (meaning : Meaning) (is_variable : Bool) → slice_get scope index ≡ Some (record { name = name; meaning = meaning; is_variable = is_variable })
      → Agrees valuation scope (name_sense scope at (Some index) (Some (record { name = name; meaning = meaning; is_variable = is_variable }))) (entry_value valuation (Some (record { name = name; meaning = meaning; is_variable = is_variable })))
  entry_agrees index name (meanings.Number number) is_variable h = record {
    ints = record { entries = length_of_number scope number; worth = λ fine. value_of_number valuation scope number };
    bools = λ fine. let other = fine.1 in absurd cc;
  }
  entry_agrees index name (meanings.Int place) is_variable h = record {
    ints = record { entries = length_of_once scope index; worth = λ fine. value_of_once valuation scope index _ h };
    bools = λ fine. let other = fine.1 in absurd cc;
  }
  entry_agrees index name (meanings.Flag place) is_variable h = record {
    ints = record { entries = length_of_number scope (pos 0); worth = λ fine. let other = fine.1 in absurd cc };
    bools = λ fine. truth_flag valuation place;
  }

  name_agrees : (index : Option ℕ) (entry : Option Entry) → entry_at scope index ≡ entry → Agrees valuation scope (name_sense scope at index entry) (entry_value valuation entry)
  name_agrees index None h = unknown_agrees index
  name_agrees None (Some entry) h = absurd cc
  name_agrees (Some index) (Some entry) h = entry_agrees index entry.name entry.meaning entry.is_variable h

-- ---- parts one after the other

module _ (valuation : Valuation) (scope : List Entry) where
  signed_agrees : (minus : Bool) (found : Sense) (number : ℤ) → IsWorth valuation scope found number → AddendAgrees valuation scope (record { minus = minus; of = found }) (signed minus number)
  signed_agrees true found number h = record {
    entries = length_of_scaled (neg_ℤ (pos 1)) found.form ∙ h.entries;
    worth = λ fine. value_of_negative valuation scope found.form ∙ ap neg_ℤ (h.worth fine);
  }
  signed_agrees false found number h = record { entries = h.entries; worth = h.worth }

  added_worth : (form : Form) (addend : AddendSense) (n m : ℤ) → length form.times ≡ length scope → AddendAgrees valuation scope addend m → IsFine kinds.Int addend.of → value valuation scope form ≡ n
      → value valuation scope (plus form (signed_form addend)) ≡ n +ℤ m
  added_worth form addend n m long h fine e = rw (← e, ← h.worth fine) (value_of_plus valuation scope form (signed_form addend) (long ∙ sym h.entries))

  module _ {X : Type 0} (found : X → AddendSense) (number : X → ℤ) where
    abbrev Addends : Type 0
    Addends = List ((x : X) × AddendAgrees valuation scope (found x) (number x))

    abbrev found_addends : Addends → List AddendSense
    found_addends xs = map found (map (λ x. x.0) xs)

    sum_entries : (xs : Addends) (form : Form) → length form.times ≡ length scope → length (sum_form form (found_addends xs)).times ≡ length scope
    sum_entries [] form long = long
    sum_entries (x ∷ xs) form long = sum_entries xs (plus form (signed_form (found x.0))) (length_of_plus form (signed_form (found x.0)) (long ∙ sym x.1.entries) ∙ long)

    sum_worth : (xs : Addends) (form : Form) (n : ℤ) → length form.times ≡ length scope → value valuation scope form ≡ n → AreFine kinds.Int (map (λ addend. addend.of) (found_addends xs))
        → value valuation scope (sum_form form (found_addends xs)) ≡ fold ◌+ℤ◌ n (map number (map (λ x. x.0) xs))
    sum_worth [] form n long e fine = e
    sum_worth (x ∷ xs) form n long e fine =
        sum_worth xs (plus form (signed_form (found x.0))) (n +ℤ number x.0) (length_of_plus form (signed_form (found x.0)) (long ∙ sym x.1.entries) ∙ long)
        (added_worth form (found x.0) n (number x.0) long x.1 fine.0 e) fine.1

  module _ {X : Type 0} (found : X → FactorSense) (number : X → ℤ) where
    abbrev Factors : Type 0
    Factors = List ((x : X) × FactorAgrees valuation scope (found x) (number x))

    abbrev found_factors : Factors → List FactorSense
    found_factors xs = map found (map (λ x. x.0) xs)

    product_entries : (xs : Factors) (form : Form) → length form.times ≡ length scope → length (product_form form (found_factors xs)).times ≡ length scope
    product_entries [] form long = long
    product_entries (x ∷ xs) form long = product_entries xs (product form (found x.0).of.form) (length_of_product form (found x.0).of.form (long ∙ sym x.1.entries) ∙ long)

    product_worth : (xs : Factors) (at : ℕ) (form : Form) (n : ℤ) → value valuation scope form ≡ n → AreFine kinds.Int (map (λ factor. factor.of) (found_factors xs)) → product_faults at form (found_factors xs) ≡ []
        → value valuation scope (product_form form (found_factors xs)) ≡ fold ◌*ℤ◌ n (map number (map (λ x. x.0) xs))
    product_worth [] at form n e fine none = e
    product_worth (x ∷ xs) at form n e fine none = by_test (is_constant form || is_constant (found x.0).of.form) refl none (λ is rest. product_worth xs at (product form (found x.0).of.form) (n *ℤ number x.0) is fine.1 rest)
      where
        by_test : (test : Bool) → (is_constant form || is_constant (found x.0).of.form) ≡ test
            → cond test (large_form at (product form (found x.0).of.form) or_else product_faults at (product form (found x.0).of.form) (found_factors xs)) (fault_at refusals.NotLinear (found x.0).at ∷ []) ≡ []
            → (value valuation scope (product form (found x.0).of.form) ≡ n *ℤ number x.0 → product_faults at (product form (found x.0).of.form) (found_factors xs) ≡ []
            → value valuation scope (product_form (product form (found x.0).of.form) (found_factors xs)) ≡ fold ◌*ℤ◌ (n *ℤ number x.0) (map number (map (λ y. y.0) xs)))
            → value valuation scope (product_form (product form (found x.0).of.form) (found_factors xs)) ≡ fold ◌*ℤ◌ (n *ℤ number x.0) (map number (map (λ y. y.0) xs))
        by_test true t h go = go
            (rw (← e, ← x.1.worth fine.0) (value_of_product valuation scope form (found x.0).of.form t))
            (or_else_none (large_form at (product form (found x.0).of.form)) (product_faults at (product form (found x.0).of.form) (found_factors xs)) h).1
        by_test false t h go = absurd cc

  module _ {X : Type 0} (found : X → Sense) (plain : X → Plain) where
    abbrev Parts : Type 0
    Parts = List ((x : X) × Agrees valuation scope (found x) (plain x))

    parts_truth : (xs : Parts) → AreFine kinds.Bool (map found (map (λ x. x.0) xs))
        → map (truth_of valuation) (map (λ part. part.formula) (map found (map (λ x. x.0) xs))) ≡ map truth_in (map plain (map (λ x. x.0) xs))
    parts_truth [] fine = refl
    parts_truth (x ∷ xs) fine = let here = x.1.bools fine.0 in let rest = parts_truth xs fine.1 in cc

-- ---- one layer

list_any-map : {X : Type 0} (h : X → Bool) (xs : List X) → list_any (λ part. part) (map h xs) ≡ list_any (λ x. h x) xs
list_any-map h [] = refl
list_any-map h (x ∷ xs) = ap (λ b. h x || b) (list_any-map h xs)

module _ (valuation : Valuation) (scope : List Entry) where
  int_agrees : (first : ℕ) (broken : List SourceFault) (form : Form) (number : ℤ) → length form.times ≡ length scope → (broken ≡ [] → value valuation scope form ≡ number)
      → Agrees valuation scope (senses.int_sense first broken form) (plains.number number)
  int_agrees first broken form number long worth = record {
    ints = record { entries = long; worth = λ fine. worth fine.0 };
    bools = λ fine. let other = fine.1 in absurd cc;
  }

  bool_agrees : (first : ℕ) (broken : List SourceFault) (formula : Formula) (truth : Bool) → (broken ≡ [] → truth_of valuation formula ≡ truth) → Agrees valuation scope (senses.bool_sense scope first broken formula) (plains.truth truth)
  bool_agrees first broken formula truth worth = record {
    ints = record { entries = length_of_number scope (pos 0); worth = λ fine. let other = fine.1 in absurd cc };
    bools = λ fine. worth fine.0;
  }

  abbrev sense_of : Expr → Sense
  sense_of = sense scope

  abbrev sense_of_addend : Addend → AddendSense
  sense_of_addend = fold-Addend Sense AddendSense FactorSense (sense_step scope) addend_step factor_step

  abbrev sense_of_factor : Factor → FactorSense
  sense_of_factor = fold-Factor Sense AddendSense FactorSense (sense_step scope) addend_step factor_step

  abbrev value_of_expression : Expr → Plain
  value_of_expression = plain_value scope valuation

  abbrev value_of_addend : Addend → ℤ
  value_of_addend = fold-Addend Plain ℤ ℤ (plain_step scope valuation) addend_value factor_value

  abbrev value_of_factor : Factor → ℤ
  value_of_factor = fold-Factor Plain ℤ ℤ (plain_step scope valuation) addend_value factor_value

  abbrev ExprKept : Expr → Type 0
  ExprKept expression = Agrees valuation scope (sense_of expression) (value_of_expression expression)

  abbrev AddendKept : Addend → Type 0
  AddendKept addend = AddendAgrees valuation scope (sense_of_addend addend) (value_of_addend addend)

  abbrev FactorKept : Factor → Type 0
  FactorKept factor = FactorAgrees valuation scope (sense_of_factor factor) (value_of_factor factor)

  abbrev Part : Type 0
  Part = (expression : Expr) × ExprKept expression

  abbrev AddendPart : Type 0
  AddendPart = (addend : Addend) × AddendKept addend

  abbrev FactorPart : Type 0
  FactorPart = (factor : Factor) × FactorKept factor

  abbrev Layer : Type 0
  Layer = Expr-F Part AddendPart FactorPart

  abbrev bare_layer : Layer → Expr-F Expr Addend Factor
  bare_layer = map-Expr Part AddendPart FactorPart Expr Addend Factor (λ part. part.0) (λ part. part.0) (λ part. part.0)

  abbrev layer_sense : Expr-F Expr Addend Factor → Sense
  layer_sense x = sense_step scope (map-Expr Expr Addend Factor Sense AddendSense FactorSense sense_of sense_of_addend sense_of_factor x)

  abbrev layer_value : Expr-F Expr Addend Factor → Plain
  layer_value x = plain_step scope valuation (map-Expr Expr Addend Factor Plain ℤ ℤ value_of_expression value_of_addend value_of_factor x)

  layer_agrees : (y : Layer) → Agrees valuation scope (layer_sense (bare_layer y)) (layer_value (bare_layer y))
  layer_agrees (Number at number) = int_agrees at (senses.large_number at number) (number_form scope (pos number)) (pos number) (length_of_number scope (pos number)) (λ none. value_of_number valuation scope (pos number))
  layer_agrees (Truth at truth) = bool_agrees at [] (truth_formula truth) truth (λ none. literal_truth valuation truth)
  layer_agrees (Named at name) = name_agrees valuation scope at (index_of scope name) (entry_named scope name) refl
  layer_agrees (Minus at of) =
      let found = sense_of of.0 in
      int_agrees at (part_faults kinds.Int (found ∷ []) or_else large_form at (scaled (neg_ℤ (pos 1)) found.form)) (scaled (neg_ℤ (pos 1)) found.form) (neg_ℤ (number_in (value_of_expression of.0)))
      (length_of_scaled (neg_ℤ (pos 1)) found.form ∙ of.1.ints.entries)
      (λ none. value_of_negative valuation scope found.form ∙ ap neg_ℤ (of.1.ints.worth (parts_fine kinds.Int (found ∷ []) (or_else_none (part_faults kinds.Int (found ∷ [])) (large_form at (scaled (neg_ℤ (pos 1)) found.form)) none).0).0))
  layer_agrees (Not at of) =
      let found = sense_of of.0 in
      bool_agrees at (part_faults kinds.Bool (found ∷ [])) (negation found.formula) (not (truth_in (value_of_expression of.0)))
      (λ none. negation_flips valuation found.formula ∙ ap not (of.1.bools (parts_fine kinds.Bool (found ∷ []) none).0))
  layer_agrees (Product first rest) =
      let found = sense_of first.0 in
      let factors = found_factors valuation scope sense_of_factor value_of_factor rest in
      let parts = found ∷ map (λ factor. factor.of) factors in
      int_agrees found.first (part_faults kinds.Int parts or_else product_faults found.first found.form factors) (product_form found.form factors) (fold ◌*ℤ◌ (number_in (value_of_expression first.0)) (map value_of_factor (map (λ part. part.0) rest)))
      (product_entries valuation scope sense_of_factor value_of_factor rest found.form first.1.ints.entries)
      (λ none.
      let both = or_else_none (part_faults kinds.Int parts) (product_faults found.first found.form factors) none in
      let fine = parts_fine kinds.Int parts both.0 in
      product_worth valuation scope sense_of_factor value_of_factor rest found.first found.form (number_in (value_of_expression first.0)) (first.1.ints.worth fine.0) fine.1 both.1)
  layer_agrees (Sum first rest) =
      let found = sense_of first.0 in
      let addends = found_addends valuation scope sense_of_addend value_of_addend rest in
      let parts = found ∷ map (λ addend. addend.of) addends in
      int_agrees found.first (part_faults kinds.Int parts or_else large_form found.first (sum_form found.form addends)) (sum_form found.form addends) (fold ◌+ℤ◌ (number_in (value_of_expression first.0)) (map value_of_addend (map (λ part. part.0) rest)))
      (sum_entries valuation scope sense_of_addend value_of_addend rest found.form first.1.ints.entries)
      (λ none.
      let both = or_else_none (part_faults kinds.Int parts) (large_form found.first (sum_form found.form addends)) none in
      let fine = parts_fine kinds.Int parts both.0 in
      sum_worth valuation scope sense_of_addend value_of_addend rest found.form (number_in (value_of_expression first.0)) first.1.ints.entries (first.1.ints.worth fine.0) fine.1)
  layer_agrees (Compare op left right) =
      let l = sense_of left.0 in
      let r = sense_of right.0 in
      let parts = l ∷ r ∷ [] in
      bool_agrees l.first (part_faults kinds.Int parts or_else large_form l.first (minus l.form r.form)) (senses.comparison_formula scope op l.form r.form) (plains.compared op (number_in (value_of_expression left.0)) (number_in (value_of_expression right.0)))
      (λ none.
      let fine = parts_fine kinds.Int parts (or_else_none (part_faults kinds.Int parts) (large_form l.first (minus l.form r.form)) none).0 in
      compared_truth valuation scope op l.form r.form _ _ (left.1.ints.entries ∙ sym right.1.ints.entries) (left.1.ints.worth fine.0) (right.1.ints.worth fine.1.0))
  layer_agrees (Both parts) =
      let found = map sense_of (map (λ part. part.0) parts) in
      let plain = map value_of_expression (map (λ part. part.0) parts) in
      bool_agrees (senses.first_of found) (part_faults kinds.Bool found) (formulas.All (map (λ part. part.formula) found)) (list_all (λ part. truth_in part) plain)
      (λ none.
      truth_all valuation (map (λ part. part.formula) found)
      ∙ ap (λ tests. list_all (λ part. part) tests) (parts_truth valuation scope sense_of value_of_expression parts (parts_fine kinds.Bool found none))
      ∙ list_all-map (λ part. part) truth_in plain)
  layer_agrees (Either parts) =
      let found = map sense_of (map (λ part. part.0) parts) in
      let plain = map value_of_expression (map (λ part. part.0) parts) in
      bool_agrees (senses.first_of found) (part_faults kinds.Bool found) (formulas.Any (map (λ part. part.formula) found)) (list_any (λ part. truth_in part) plain)
      (λ none.
      truth_any valuation (map (λ part. part.formula) found)
      ∙ ap (λ tests. list_any (λ part. part) tests) (parts_truth valuation scope sense_of value_of_expression parts (parts_fine kinds.Bool found none))
      ∙ list_any-map truth_in plain)

  -- ---- every layer

  roll_kept : (x : Expr-F Expr Addend Factor) → Agrees valuation scope (layer_sense x) (layer_value x) → ExprKept (roll-Expr x)
  roll_kept x h =
      subst (λ (s : Sense). Agrees valuation scope s (value_of_expression (roll-Expr x))) (sym (fold-roll-Expr Sense AddendSense FactorSense (sense_step scope) addend_step factor_step x))
      (subst (λ (p : Plain). Agrees valuation scope (layer_sense x) p) (sym (fold-roll-Expr Plain ℤ ℤ (plain_step scope valuation) addend_value factor_value x)) h)

  addend_kept : (x : Addend-F Expr Addend Factor) → ExprKept x.of → AddendKept (roll-Addend x)
  addend_kept x h =
      subst (λ (s : AddendSense). AddendAgrees valuation scope s (value_of_addend (roll-Addend x))) (sym (fold-roll-Addend Sense AddendSense FactorSense (sense_step scope) addend_step factor_step x))
      (subst (λ (n : ℤ). AddendAgrees valuation scope (record { minus = x.minus; of = sense_of x.of }) n) (sym (fold-roll-Addend Plain ℤ ℤ (plain_step scope valuation) addend_value factor_value x))
      (signed_agrees valuation scope x.minus (sense_of x.of) (number_in (value_of_expression x.of)) h.ints))

  factor_kept : (x : Factor-F Expr Addend Factor) → ExprKept x.of → FactorKept (roll-Factor x)
  factor_kept x h =
      subst (λ (s : FactorSense). FactorAgrees valuation scope s (value_of_factor (roll-Factor x))) (sym (fold-roll-Factor Sense AddendSense FactorSense (sense_step scope) addend_step factor_step x))
      (subst (λ (n : ℤ). FactorAgrees valuation scope (record { at = x.at; of = sense_of x.of }) n) (sym (fold-roll-Factor Plain ℤ ℤ (plain_step scope valuation) addend_value factor_value x)) h.ints)

  kept : (expression : Expr) → ExprKept expression
  kept =
      ind-Expr ExprKept AddendKept FactorKept
      (λ x y is. subst (λ (z : Expr-F Expr Addend Factor). ExprKept (roll-Expr z)) is (roll_kept (bare_layer y) (layer_agrees y)))
      (λ x y is. subst (λ (z : Addend-F Expr Addend Factor). AddendKept (roll-Addend z)) is (addend_kept (record { minus = y.minus; of = y.of.0 }) y.of.1))
      (λ x y is. subst (λ (z : Factor-F Expr Addend Factor). FactorKept (roll-Factor z)) is (factor_kept (record { at = y.at; of = y.of.0 }) y.of.1))

-- A form has a number for each entry of the scope.
pub form_entries : (scope : List Entry) (expression : Expr) → length (sense scope expression).form.times ≡ length scope
form_entries scope expression = (kept (record { number = λ place. pos 0; flag = λ place. false }) scope expression).ints.entries

pub ints_keep_meaning : (scope : List Entry) (valuation : Valuation) (expression : Expr) → (sense scope expression).faults ≡ [] → is_other kinds.Int (sense scope expression).kind ≡ false
    → value_of valuation (linear_of scope (sense scope expression).form) ≡ number_in (plain_value scope valuation expression)
ints_keep_meaning scope valuation expression none kind = value_of_linear valuation scope (sense scope expression).form ∙ (kept valuation scope expression).ints.worth (none, kind)

pub bools_keep_meaning : (scope : List Entry) (valuation : Valuation) (expression : Expr) → (sense scope expression).faults ≡ [] → is_other kinds.Bool (sense scope expression).kind ≡ false
    → truth_of valuation (sense scope expression).formula ≡ truth_in (plain_value scope valuation expression)
bools_keep_meaning scope valuation expression none kind = (kept valuation scope expression).bools (none, kind)
