-- What the making of forms and formulas asks of a scope and of an expression.
use Rattle.std.specs.Prelude.{◌≡◌, Bool, true, false, IsTrue, List, []}
use Rattle.std.specs.List.{list_all}
use Rattle.lang_tree.specs.declared.tree.Expr.{Expr}
use Rattle.lang_tree.specs.declared.tree.Decl.{Decl}
use Rattle.lang_tree.specs.declared.tree.MethodTree.{MethodTree}
use Rattle.lang_base.specs.declared.kind.Kind.TheVariants as kinds
use Rattle.lang_forms.specs.declared.scope.Meaning.{Meaning}
use Rattle.lang_forms.specs.declared.scope.Meaning.TheVariants as meanings
use Rattle.lang_forms.specs.declared.scope.Entry.{Entry}
use Rattle.lang_base.specs.Limits.{GREATEST_CONSTANT}
use Rattle.lang_base.specs.Numbers.{is_within}
use Rattle.lang_forms.specs.Scope.{scope_of}
use Rattle.lang_forms.specs.Sense.{is_other, sense}

-- the number of a constant is one that a flattened form may have
abbrev pub has_small_number : Meaning → Bool
has_small_number (meanings.Number number) = is_within GREATEST_CONSTANT number
has_small_number (meanings.Int place) = true
has_small_number (meanings.Flag place) = true

abbrev pub has_small_numbers : List Entry → Bool
has_small_numbers scope = list_all (λ entry. has_small_number entry.meaning) scope

-- an int expression that breaks no rule
pub record IsInt (scope : List Entry) (expression : Expr) : Type 0 where
  pub fine : (sense scope expression).faults ≡ []
  pub int : is_other kinds.Int (sense scope expression).kind ≡ false

-- a bool expression that breaks no rule
pub record IsBool (scope : List Entry) (expression : Expr) : Type 0 where
  pub fine : (sense scope expression).faults ≡ []
  pub bool : is_other kinds.Bool (sense scope expression).kind ≡ false

-- the numbers of constants in the scope of a method are small
abbrev pub HasSmallScope : List Decl → MethodTree → Type 0
HasSmallScope declared method = IsTrue (has_small_numbers (scope_of declared method))
