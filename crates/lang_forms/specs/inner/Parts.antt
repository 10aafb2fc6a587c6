-- What is found of the parts of an expression, part by part as the code goes over them.
use Rattle.std.specs.Prelude.{◌≡◌, ℕ, List, map, Option}
use Rattle.std.specs.List.{flat_map}
use Rattle.lang_tree.specs.declared.tree.Op.{Op}
use Rattle.lang_tree.specs.declared.tree.Expr.{Expr}
use Rattle.lang_tree.specs.declared.tree.Expr.TheVariants as exprs
use Rattle.lang_tree.specs.declared.tree.Addend.{Addend}
use Rattle.lang_tree.specs.declared.tree.Factor.{Factor}
use Rattle.logic_linear.specs.declared.formula.Formula.{Formula}
use Rattle.lang_base.specs.declared.source_fault.SourceFault.{SourceFault}
use Rattle.lang_forms.specs.declared.scope.Entry.{Entry}
use Rattle.lang_base.specs.SourceFaults.{least, earlier_of}
use Rattle.lang_forms.specs.Forms.{Form, minus}
use Rattle.lang_forms.specs.Sense.{AddendSense, FactorSense, at_most, comparison_formula, faults_in}
use Rattle.lang_forms.specs.Sense.{first_in, form_in, formula_in, less, product_faults}
use Rattle.lang_forms.specs.Sense.{product_form, sense, sum_form}

-- ---- the later parts of sums and products

abbrev pub addend_sense : List Entry → Addend → AddendSense
addend_sense scope addend = record { minus = addend.minus; of = sense scope addend.of }

abbrev pub factor_sense : List Entry → Factor → FactorSense
factor_sense scope factor = record { at = factor.at; of = sense scope factor.of }

abbrev pub sum_from : List Entry → Form → List Addend → Form
sum_from scope form rest = sum_form form (map (addend_sense scope) rest)

abbrev pub product_from : List Entry → Form → List Factor → Form
product_from scope form rest = product_form form (map (factor_sense scope) rest)

-- the rule of a product that begins at an offset with a form
abbrev pub broken_from : List Entry → ℕ → Form → List Factor → List SourceFault
broken_from scope at form rest = product_faults at form (map (factor_sense scope) rest)

-- ---- the faults in parts

abbrev pub faults_in_parts : List Entry → List Expr → List SourceFault
faults_in_parts scope parts = flat_map (λ part. faults_in scope part) parts

abbrev pub faults_in_addends : List Entry → List Addend → List SourceFault
faults_in_addends scope rest = flat_map (λ addend. faults_in scope addend.of) rest

abbrev pub faults_in_factors : List Entry → List Factor → List SourceFault
faults_in_factors scope rest = flat_map (λ factor. faults_in scope factor.of) rest

abbrev pub first_in_sum : List Entry → Expr → List Addend → Option SourceFault
first_in_sum scope first rest =
    earlier_of (least (faults_in scope first)) (least (faults_in_addends scope rest))

abbrev pub first_in_product : List Entry → Expr → List Factor → Option SourceFault
first_in_product scope first rest =
    earlier_of (least (faults_in scope first)) (least (faults_in_factors scope rest))

abbrev pub first_in_sides : List Entry → Expr → Expr → Option SourceFault
first_in_sides scope left right =
    earlier_of (least (faults_in scope left)) (least (faults_in scope right))

-- ---- wholes whose parts break no rule

abbrev pub difference : List Entry → Expr → Expr → Form
difference scope left right = minus (form_in scope left) (form_in scope right)

abbrev pub broken_product : List Entry → Expr → List Factor → List SourceFault
broken_product scope first rest =
    broken_from scope (first_in scope first) (form_in scope first) rest

-- ---- the first fault of a whole; wherever a `!` stands, and whichever sign compares

abbrev pub IsFirstOfProduct : List Entry → Expr → List Factor → Option SourceFault → Type 0
IsFirstOfProduct scope first rest fault = fault ≡ least (faults_in scope (exprs.Product first rest))

abbrev pub IsFirstOfSum : List Entry → Expr → List Addend → Option SourceFault → Type 0
IsFirstOfSum scope first rest fault = fault ≡ least (faults_in scope (exprs.Sum first rest))

abbrev pub IsFirstOfBoth : List Entry → List Expr → Option SourceFault → Type 0
IsFirstOfBoth scope parts fault = fault ≡ least (faults_in scope (exprs.Both parts))

abbrev pub IsFirstOfEither : List Entry → List Expr → Option SourceFault → Type 0
IsFirstOfEither scope parts fault = fault ≡ least (faults_in scope (exprs.Either parts))

abbrev pub IsFirstOfNot : List Entry → Expr → Option SourceFault → Type 0
IsFirstOfNot scope of fault = (at : ℕ) → fault ≡ least (faults_in scope (exprs.Not at of))

abbrev pub IsFirstOfComparison : List Entry → Expr → Expr → Option SourceFault → Type 0
IsFirstOfComparison scope left right fault =
    (op : Op) → fault ≡ least (faults_in scope (exprs.Compare op left right))

-- ---- formulas of parts

abbrev pub formulas_in : List Entry → List Expr → List Formula
formulas_in scope parts = map (λ part. formula_in scope part) parts

abbrev pub compared_formula : List Entry → Op → Expr → Expr → Formula
compared_formula scope op left right =
    comparison_formula scope op (form_in scope left) (form_in scope right)

abbrev pub at_most_formula : List Entry → Expr → Expr → Formula
at_most_formula scope left right = at_most scope (form_in scope left) (form_in scope right)

abbrev pub less_formula : List Entry → Expr → Expr → Formula
less_formula scope left right = less scope (form_in scope left) (form_in scope right)
