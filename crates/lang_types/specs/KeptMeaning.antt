-- Which expressions stand in statements, and when their forms and formulas mean what they say.
use Rattle.std.specs.Prelude.{◌≡◌, Bool, List, [], ◌∷◌, ◌++◌, All, Some}
use Rattle.std.specs.List.{flat_map}
use Rattle.lang_tree.specs.declared.tree.Decl.{Decl}
use Rattle.lang_tree.specs.declared.tree.Expr.{Expr}
use Rattle.lang_tree.specs.declared.tree.StmtTree.{StmtTree}
use Rattle.lang_tree.specs.declared.tree.StmtTree.TheOpen.{StmtTree-F, Set, If, Return}
use Rattle.lang_tree.specs.declared.tree.StmtTree.TheFolds.{fold-StmtTree}
use Rattle.logic_linear.specs.Truth.{Valuation, value_of, truth_of}
use Rattle.lang_base.specs.declared.kind.Kind.TheVariants as kinds
use Rattle.lang_forms.specs.declared.scope.Entry.{Entry}
use Rattle.lang_forms.specs.Scope.{scope_of}
use Rattle.lang_forms.specs.Forms.{linear_of}
use Rattle.lang_forms.specs.Sense.{sense}
use Rattle.lang_forms.specs.Plain.{number_in, truth_in, plain_value}
use Rattle.lang_types.specs.Typed.{PlacedBlock}

-- values that are assigned or returned, and conditions, with those of inner statements
abbrev pub expressions_step : StmtTree-F (List Expr) → List Expr
expressions_step (Set at name value) = value ∷ []
expressions_step (If at when body other) =
    when ∷ (flat_map (λ inner. inner) body ++ flat_map (λ inner. inner) other)
expressions_step (Return at value) = value ∷ []

abbrev pub expressions_of : StmtTree → List Expr
expressions_of = fold-StmtTree (List Expr) expressions_step

abbrev pub expressions_in : List StmtTree → List Expr
expressions_in statements = flat_map expressions_of statements

-- The form of an int expression has the value that ordinary arithmetic gives the expression, and
-- the formula of a bool one the truth that ordinary logic gives it.
pub record KeepsMeaning (scope : List Entry) (expression : Expr) : Type 0 where
  pub value : (valuation : Valuation) → (sense scope expression).kind ≡ Some kinds.Int
      → value_of valuation (linear_of scope (sense scope expression).form)
      ≡ number_in (plain_value scope valuation expression)
  pub holds : (valuation : Valuation) → (sense scope expression).kind ≡ Some kinds.Bool
      → truth_of valuation (sense scope expression).formula
      ≡ truth_in (plain_value scope valuation expression)

-- the truth that ordinary arithmetic and logic give a block's guard
abbrev pub plain_guard : List Decl → PlacedBlock → Valuation → Bool
plain_guard declared placed valuation =
    truth_in (plain_value (scope_of declared placed.method) valuation placed.block.guard)

abbrev pub BodyKeepsMeaning : List Decl → PlacedBlock → Type 0
BodyKeepsMeaning declared placed =
    All (KeepsMeaning (scope_of declared placed.method)) (expressions_in placed.block.body)
