-- The texts of parts of expressions, for their writers.
use Rattle.std.specs.Prelude.{ℕ, Bool, List, [], ◌∷◌, ◌++◌, ◌&&◌, length}
use Rattle.std.specs.List.{enumerate_from, flat_map, list_any}
use Rattle.lang_tree.specs.declared.tree.Addend.{Addend}
use Rattle.lang_tree.specs.declared.tree.Expr.{Expr}
use Rattle.lang_tree.specs.declared.tree.Factor.{Factor}
use Rattle.lang_tree.specs.declared.tree.Expr.TheFolds.{fold-Addend, fold-Factor}
use Rattle.emit_expressions.specs.Scopes.{ScopeParts}
use Rattle.emit_expressions.specs.Expressions.{Written, Later, written, written_step, addend_step}
use Rattle.emit_expressions.specs.Expressions.{addend_by, begins, closed, factor_by, factor_step}
use Rattle.emit_expressions.specs.Expressions.{is_pieced, joined_by, opened, plain_at, product_closed}
use Rattle.emit_expressions.specs.Expressions.{wide_at}

-- a part in 128 bits, in parentheses where it holds together less than is asked
abbrev pub wide_part : ScopeParts → ℕ → List ℕ → Expr → List ℕ
wide_part scope asked ending part = wide_at asked ending (written scope part)

abbrev pub plain_part : ScopeParts → ℕ → Expr → List ℕ
plain_part scope asked part = plain_at asked (written scope part)

abbrev pub later_factor : ScopeParts → Factor → Later
later_factor scope = fold-Factor Written Later Later (written_step scope) addend_step factor_step

abbrev pub later_addend : ScopeParts → Addend → Later
later_addend scope = fold-Addend Written Later Later (written_step scope) addend_step factor_step

-- a factor at this place of those after the first one
abbrev pub factor_at : ScopeParts → Bool → List ℕ → ℕ → Factor → List ℕ
factor_at scope pieced ending place factor =
    factor_by (pieced && begins place) ending (later_factor scope factor)

abbrev pub factors_text : ScopeParts → Bool → List ℕ → List Factor → List ℕ
factors_text scope pieced ending factors =
    flat_map (λ one. factor_at scope pieced ending one.0 one.1) (enumerate_from 0 factors)
    ++ product_closed pieced

-- an addend at this place of those after the first one
abbrev pub addend_at : ScopeParts → Bool → List ℕ → ℕ → Addend → List ℕ
addend_at scope pieced ending place addend =
    addend_by (pieced && begins place) ending (later_addend scope addend)

abbrev pub addends_text : ScopeParts → Bool → List ℕ → List Addend → List ℕ
addends_text scope pieced ending addends =
    flat_map (λ one. addend_at scope pieced ending one.0 one.1) (enumerate_from 0 addends)
    ++ closed pieced

-- a part at this place of those after the first one
abbrev pub part_at : ScopeParts → List ℕ → ℕ → Bool → ℕ → Expr → List ℕ
part_at scope sign asked pieced place part =
    joined_by (pieced && begins place) sign (plain_part scope asked part)

abbrev pub parts_in : ScopeParts → List ℕ → ℕ → Bool → Expr → List Expr → List ℕ
parts_in scope sign asked pieced first rest =
    opened pieced ++ plain_part scope asked first
    ++ flat_map (λ one. part_at scope sign asked pieced one.0 one.1) (enumerate_from 0 rest)
    ++ closed pieced

-- parts with a sign between them
abbrev pub joined_parts : ScopeParts → List ℕ → ℕ → List Expr → List ℕ
joined_parts scope sign asked [] = []
joined_parts scope sign asked (first ∷ rest) =
    parts_in scope sign asked (is_pieced (length rest)) first rest

abbrev pub any_factor : ScopeParts → List Factor → Bool
any_factor scope = list_any (λ factor. (later_factor scope factor).is_named)

abbrev pub any_addend : ScopeParts → List Addend → Bool
any_addend scope = list_any (λ addend. (later_addend scope addend).is_named)

abbrev pub any_part : ScopeParts → List Expr → Bool
any_part scope = list_any (λ part. (written scope part).is_named)
