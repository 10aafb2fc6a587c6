-- What the checker finds of an expression: its kind, the rules that it breaks, its flattened form
-- or its formula.
use Rattle.std.specs.Prelude.{ℕ, pos, nat_lt, Bool, true, false, ◌||◌, List, [], ◌∷◌, map, fold}
use Rattle.std.specs.Prelude.{Option, Some, None, if◌then◌else◌}
use Rattle.std.specs.List.{flat_map}
use Rattle.lang_tree.specs.declared.tree.Op.{Op}
use Rattle.lang_tree.specs.declared.tree.Op.TheVariants as ops
use Rattle.lang_tree.specs.declared.tree.Expr.{Expr}
use Rattle.lang_tree.specs.declared.tree.Expr.TheOpen.{Expr-F, Addend-F, Factor-F, Number, Truth}
use Rattle.lang_tree.specs.declared.tree.Expr.TheOpen.{Named, Minus, Not, Product, Sum, Compare}
use Rattle.lang_tree.specs.declared.tree.Expr.TheOpen.{Both, Either}
use Rattle.lang_tree.specs.declared.tree.Expr.TheFolds.{fold-Expr}
use Rattle.logic_linear.specs.declared.formula.Formula.{Formula}
use Rattle.logic_linear.specs.declared.formula.Formula.TheVariants as formulas
use Rattle.logic_linear.specs.Negation.{negation}
use Rattle.lang_base.specs.Limits.{GREATEST_NUMBER}
use Rattle.lang_base.specs.declared.kind.Kind.{Kind}
use Rattle.lang_base.specs.declared.kind.Kind.TheVariants as kinds
use Rattle.lang_base.specs.declared.source_fault.SourceFault.{SourceFault}
use Rattle.lang_base.specs.declared.source_fault.Refusal.TheVariants as refusals
use Rattle.lang_forms.specs.declared.scope.Meaning.{Meaning}
use Rattle.lang_forms.specs.declared.scope.Meaning.TheVariants as meanings
use Rattle.lang_forms.specs.declared.scope.Entry.{Entry}
use Rattle.lang_forms.specs.Scope.{entry_named}
use Rattle.lang_forms.specs.Forms.{Form, number_form, name_form, plus, minus, opposite, raised}
use Rattle.lang_forms.specs.Forms.{product, is_constant, is_limited, linear_of}
use Rattle.lang_base.specs.SourceFaults.{fault_at, ◌or_else◌}

-- ---- kinds

-- is it a kind other than the wanted one? An unknown name has either kind, as wanted.
abbrev pub is_other : Kind → Option Kind → Bool
is_other kinds.Int (Some kinds.Bool) = true
is_other kinds.Bool (Some kinds.Int) = true
is_other wanted kind = false

abbrev pub meaning_kind : Meaning → Kind
meaning_kind (meanings.Number number) = kinds.Int
meaning_kind (meanings.Int place) = kinds.Int
meaning_kind (meanings.Flag place) = kinds.Bool

abbrev pub entry_kind : Option Entry → Option Kind
entry_kind None = None
entry_kind (Some entry) = Some (meaning_kind entry.meaning)

-- ---- formulas

-- left <= right, and left < right
abbrev pub at_most : List Entry → Form → Form → Formula
at_most scope left right = formulas.Row (linear_of scope (minus left right))

abbrev pub less : List Entry → Form → Form → Formula
less scope left right = formulas.Row (linear_of scope (raised (pos 1) (minus left right)))

abbrev pub comparison_formula : List Entry → Op → Form → Form → Formula
comparison_formula scope ops.Equal left right =
    formulas.All (at_most scope left right ∷ at_most scope right left ∷ [])
comparison_formula scope ops.Differs left right =
    formulas.Any (less scope right left ∷ less scope left right ∷ [])
comparison_formula scope ops.Less left right = less scope left right
comparison_formula scope ops.AtMost left right = at_most scope left right
comparison_formula scope ops.More left right = less scope right left
comparison_formula scope ops.AtLeast left right = at_most scope right left

abbrev pub truth_formula : Bool → Formula
truth_formula true = formulas.All []
truth_formula false = formulas.Any []

-- a bool name; no rule looks at the formula of another name
abbrev pub meaning_formula : Meaning → Formula
meaning_formula (meanings.Number number) = formulas.All []
meaning_formula (meanings.Int place) = formulas.All []
meaning_formula (meanings.Flag place) = formulas.Flag place true

abbrev pub entry_formula : Option Entry → Formula
entry_formula None = formulas.All []
entry_formula (Some entry) = meaning_formula entry.meaning

-- ---- what is found of an expression

-- `first` is the offset of its first token; an int expression has a form, a bool one a formula
pub record Sense : Type 0 where
  pub first : ℕ
  pub kind : Option Kind
  pub faults : List SourceFault
  pub form : Form
  pub formula : Formula

-- a factor after the first, with the offset of its `*`
pub record FactorSense : Type 0 where
  pub at : ℕ
  pub of : Sense

-- a part of a sum after the first
pub record AddendSense : Type 0 where
  pub minus : Bool
  pub of : Sense

-- ---- the rules, each with its place

abbrev pub unknown : ℕ → Option Entry → List SourceFault
unknown at None = fault_at refusals.Unknown at ∷ []
unknown at (Some entry) = []

abbrev pub large_number : ℕ → ℕ → List SourceFault
large_number at value =
    if nat_lt GREATEST_NUMBER value then fault_at refusals.TooLarge at ∷ [] else []

abbrev pub wrong_type : Kind → Sense → List SourceFault
wrong_type wanted part =
    if is_other wanted part.kind then fault_at refusals.WrongType part.first ∷ [] else []

abbrev pub large_form : ℕ → Form → List SourceFault
large_form at form = if is_limited form then [] else fault_at refusals.TooLarge at ∷ []

-- what the parts break, or, where they break nothing, which of them are of another kind
abbrev pub part_faults : Kind → List Sense → List SourceFault
part_faults wanted parts =
    flat_map (λ part. part.faults) parts or_else flat_map (wrong_type wanted) parts

-- From left to right: of the product before a `*` and the factor after it one is constant, and
-- their product is not too large. Only the first break is listed: behind it there is no form to
-- multiply.
abbrev pub product_faults : ℕ → Form → List FactorSense → List SourceFault
product_faults first form [] = []
product_faults first form (factor ∷ rest) =
    if is_constant form || is_constant factor.of.form
    then
    large_form first (product form factor.of.form)
    or_else product_faults first (product form factor.of.form) rest
    else fault_at refusals.NotLinear factor.at ∷ []

-- ---- forms of products and sums

abbrev pub product_form : Form → List FactorSense → Form
product_form form rest = fold (λ before factor. product before factor.of.form) form rest

abbrev pub signed_form : AddendSense → Form
signed_form addend = if addend.minus then opposite addend.of.form else addend.of.form

abbrev pub sum_form : Form → List AddendSense → Form
sum_form form rest = fold (λ before addend. plus before (signed_form addend)) form rest

-- ---- one layer, given what is found of its parts

abbrev pub first_of : List Sense → ℕ
first_of [] = 0
first_of (part ∷ more) = part.first

-- an int expression, and a bool one
abbrev pub int_sense : ℕ → List SourceFault → Form → Sense
int_sense first broken form = record {
  first = first;
  kind = Some kinds.Int;
  faults = broken;
  form = form;
  formula = formulas.All [];
}

abbrev pub bool_sense : List Entry → ℕ → List SourceFault → Formula → Sense
bool_sense scope first broken formula = record {
  first = first;
  kind = Some kinds.Bool;
  faults = broken;
  form = number_form scope (pos 0);
  formula = formula;
}

abbrev pub sense_step : List Entry → Expr-F Sense AddendSense FactorSense → Sense
sense_step scope (Number at value) =
    int_sense at (large_number at value) (number_form scope (pos value))
sense_step scope (Truth at value) = bool_sense scope at [] (truth_formula value)
sense_step scope (Named at name) = record {
  first = at;
  kind = entry_kind (entry_named scope name);
  faults = unknown at (entry_named scope name);
  form = name_form scope name;
  formula = entry_formula (entry_named scope name);
}
sense_step scope (Minus at of) =
    let broken = part_faults kinds.Int (of ∷ []) or_else large_form at (opposite of.form) in
    int_sense at broken (opposite of.form)
sense_step scope (Not at of) =
    bool_sense scope at (part_faults kinds.Bool (of ∷ [])) (negation of.formula)
sense_step scope (Product first rest) =
    let parts = first ∷ map (λ factor. factor.of) rest in
    let broken = part_faults kinds.Int parts or_else product_faults first.first first.form rest in
    int_sense first.first broken (product_form first.form rest)
sense_step scope (Sum first rest) =
    let parts = first ∷ map (λ addend. addend.of) rest in
    let form = sum_form first.form rest in
    let broken = part_faults kinds.Int parts or_else large_form first.first form in
    int_sense first.first broken form
sense_step scope (Compare op left right) =
    let large = large_form left.first (minus left.form right.form) in
    let broken = part_faults kinds.Int (left ∷ right ∷ []) or_else large in
    bool_sense scope left.first broken (comparison_formula scope op left.form right.form)
sense_step scope (Both parts) =
    let joined = formulas.All (map (λ part. part.formula) parts) in
    bool_sense scope (first_of parts) (part_faults kinds.Bool parts) joined
sense_step scope (Either parts) =
    let joined = formulas.Any (map (λ part. part.formula) parts) in
    bool_sense scope (first_of parts) (part_faults kinds.Bool parts) joined

abbrev pub addend_step : Addend-F Sense AddendSense FactorSense → AddendSense
addend_step addend = record { minus = addend.minus; of = addend.of }

abbrev pub factor_step : Factor-F Sense AddendSense FactorSense → FactorSense
factor_step factor = record { at = factor.at; of = factor.of }

-- what is found of an expression in a scope
abbrev pub sense : List Entry → Expr → Sense
sense scope = fold-Expr Sense AddendSense FactorSense (sense_step scope) addend_step factor_step

-- ---- each part of what is found

abbrev pub first_in : List Entry → Expr → ℕ
first_in scope expression = (sense scope expression).first

abbrev pub kind_in : List Entry → Expr → Option Kind
kind_in scope expression = (sense scope expression).kind

abbrev pub faults_in : List Entry → Expr → List SourceFault
faults_in scope expression = (sense scope expression).faults

abbrev pub form_in : List Entry → Expr → Form
form_in scope expression = (sense scope expression).form

abbrev pub formula_in : List Entry → Expr → Formula
formula_in scope expression = (sense scope expression).formula
