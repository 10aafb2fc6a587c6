-- That flattened forms and formulas keep the plain meaning of expressions.
use Rattle.std.specs.Prelude.{◌≡◌, false, List, []}
use Rattle.lang_tree.specs.declared.tree.Expr.{Expr}
use Rattle.logic_linear.specs.Truth.{Valuation, truth_of, value_of}
use Rattle.lang_base.specs.declared.kind.Kind.TheVariants as kinds
use Rattle.lang_forms.specs.declared.scope.Entry.{Entry}
use Rattle.lang_forms.specs.Forms.{linear_of}
use Rattle.lang_forms.specs.Plain.{number_in, plain_value, truth_in}
use Rattle.lang_forms.specs.Sense.{faults_in, form_in, formula_in, is_other, kind_in}

-- the form of an int expression that breaks no rule has the value that ordinary arithmetic gives it
abbrev pub FormsKeepMeaning : List Entry → Type 0
FormsKeepMeaning scope =
    (valuation : Valuation) (expression : Expr)
    → faults_in scope expression ≡ []
    → is_other kinds.Int (kind_in scope expression) ≡ false
    → value_of valuation (linear_of scope (form_in scope expression))
    ≡ number_in (plain_value scope valuation expression)

-- the formula of a bool expression that breaks no rule has the truth that ordinary logic gives it
abbrev pub FormulasKeepMeaning : List Entry → Type 0
FormulasKeepMeaning scope =
    (valuation : Valuation) (expression : Expr)
    → faults_in scope expression ≡ []
    → is_other kinds.Bool (kind_in scope expression) ≡ false
    → truth_of valuation (formula_in scope expression)
    ≡ truth_in (plain_value scope valuation expression)
