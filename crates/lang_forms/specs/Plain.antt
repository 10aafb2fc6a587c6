-- What an expression means by ordinary arithmetic and logic, over whole numbers without bounds.
use Rattle.std.specs.Prelude.{ℤ, pos, neg_ℤ, ◌+ℤ◌, ◌*ℤ◌, Bool, false, not, List, Option, Some, None}
use Rattle.std.specs.Prelude.{fold, int_lt, int_le}
use Rattle.std.specs.Ordering.{int_eq}
use Rattle.std.specs.List.{list_all, list_any}
use Rattle.lang_tree.specs.declared.tree.Op.{Op}
use Rattle.lang_tree.specs.declared.tree.Op.TheVariants as ops
use Rattle.lang_tree.specs.declared.tree.Expr.{Expr}
use Rattle.lang_tree.specs.declared.tree.Expr.TheOpen.{Expr-F, Addend-F, Factor-F, Number, Truth}
use Rattle.lang_tree.specs.declared.tree.Expr.TheOpen.{Named, Minus, Not, Product, Sum, Compare}
use Rattle.lang_tree.specs.declared.tree.Expr.TheOpen.{Both, Either}
use Rattle.lang_tree.specs.declared.tree.Expr.TheFolds.{fold-Expr}
use Rattle.logic_linear.specs.Truth.{Valuation}
use Rattle.lang_forms.specs.declared.scope.Meaning.{Meaning}
use Rattle.lang_forms.specs.declared.scope.Meaning.TheVariants as meanings
use Rattle.lang_forms.specs.declared.scope.Entry.{Entry}
use Rattle.lang_forms.specs.Scope.{signed, entry_named}

-- a number or a truth value
pub data Plain : Type 0 where
  number : ℤ → Plain
  truth : Bool → Plain

abbrev pub number_in : Plain → ℤ
number_in (number n) = n
number_in (truth b) = pos 0

abbrev pub truth_in : Plain → Bool
truth_in (number n) = false
truth_in (truth b) = b

abbrev pub meaning_value : Valuation → Meaning → Plain
meaning_value valuation (meanings.Number n) = number n
meaning_value valuation (meanings.Int place) = number (valuation.number place)
meaning_value valuation (meanings.Flag place) = truth (valuation.flag place)

-- what a name stands for; an unknown name, which no checked expression has, for 0
abbrev pub entry_value : Valuation → Option Entry → Plain
entry_value valuation None = number (pos 0)
entry_value valuation (Some entry) = meaning_value valuation entry.meaning

abbrev pub compared : Op → ℤ → ℤ → Bool
compared ops.Equal left right = int_eq left right
compared ops.Differs left right = not (int_eq left right)
compared ops.Less left right = int_lt left right
compared ops.AtMost left right = int_le left right
compared ops.More left right = int_lt right left
compared ops.AtLeast left right = int_le right left

-- one layer of an expression, given what its parts mean
abbrev pub plain_step : List Entry → Valuation → Expr-F Plain ℤ ℤ → Plain
plain_step scope valuation (Number at value) = number (pos value)
plain_step scope valuation (Truth at value) = truth value
plain_step scope valuation (Named at name) = entry_value valuation (entry_named scope name)
plain_step scope valuation (Minus at of) = number (neg_ℤ (number_in of))
plain_step scope valuation (Not at of) = truth (not (truth_in of))
plain_step scope valuation (Product first rest) = number (fold ◌*ℤ◌ (number_in first) rest)
plain_step scope valuation (Sum first rest) = number (fold ◌+ℤ◌ (number_in first) rest)
plain_step scope valuation (Compare op left right) =
    truth (compared op (number_in left) (number_in right))
plain_step scope valuation (Both parts) = truth (list_all (λ part. truth_in part) parts)
plain_step scope valuation (Either parts) = truth (list_any (λ part. truth_in part) parts)

abbrev pub addend_value : Addend-F Plain ℤ ℤ → ℤ
addend_value addend = signed addend.minus (number_in addend.of)

abbrev pub factor_value : Factor-F Plain ℤ ℤ → ℤ
factor_value factor = number_in factor.of

-- the value of an expression in a scope, where each place has a number and a truth value
abbrev pub plain_value : List Entry → Valuation → Expr → Plain
plain_value scope valuation =
    fold-Expr Plain ℤ ℤ (plain_step scope valuation) addend_value factor_value
