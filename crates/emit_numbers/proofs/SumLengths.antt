-- Expressions whose sums are no longer than a file.
use Rattle.std.specs.Prelude.{Bool, true, ◌&&◌, nat_le, length}
use Rattle.std.specs.List.{list_all}
use Rattle.lang_tree.specs.declared.tree.Expr.{Expr}
use Rattle.lang_tree.specs.declared.tree.Expr.TheOpen.{Expr-F, Number, Truth, Named, Minus, Not}
use Rattle.lang_tree.specs.declared.tree.Expr.TheOpen.{Product, Sum, Compare, Both, Either}
use Rattle.lang_tree.specs.declared.tree.Expr.TheFolds.{fold-Expr}
use Rattle.lang_base.specs.Limits.{FILE_BYTES}

-- one layer, by whether its parts are
abbrev pub short_step : Expr-F Bool Bool Bool → Bool
short_step (Number at value) = true
short_step (Truth at value) = true
short_step (Named at name) = true
short_step (Minus at of) = of
short_step (Not at of) = of
short_step (Product first rest) = first && list_all (λ part. part) rest
short_step (Sum first rest) =
    nat_le (length rest) FILE_BYTES && (first && list_all (λ part. part) rest)
short_step (Compare op left right) = left && right
short_step (Both parts) = list_all (λ part. part) parts
short_step (Either parts) = list_all (λ part. part) parts

-- no sum has more parts after its first than a file has bytes
abbrev pub has_short_sums : Expr → Bool
has_short_sums =
    fold-Expr Bool Bool Bool short_step (λ addend. addend.of) (λ factor. factor.of)
