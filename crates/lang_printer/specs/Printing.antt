-- The texts of parts of trees, for their writers.
use Rattle.std.specs.Prelude.{ℕ, ◌+◌, List, [], ◌∷◌, ◌++◌, map, codes}
use Rattle.std.specs.List.{flat_map}
use Rattle.lang_tree.specs.declared.tree.Addend.{Addend}
use Rattle.lang_tree.specs.declared.tree.Expr.{Expr}
use Rattle.lang_tree.specs.declared.tree.Factor.{Factor}
use Rattle.lang_tree.specs.declared.tree.Expr.TheFolds.{fold-Addend, fold-Factor}
use Rattle.lang_printer.specs.Canonical.{Printed, printed, printed_step, at_level, addend_text}
use Rattle.lang_printer.specs.Canonical.{factor_text, indent, otherwise, statement_text}
use Rattle.lang_tree.specs.declared.tree.StmtTree.{StmtTree}
use Rattle.lang_tree.specs.declared.tree.Item.{Item}
use Rattle.lang_printer.specs.CanonicalClients.{item_text}

-- a part, in parentheses where it holds together less than is asked
abbrev pub part_text : ℕ → Expr → List ℕ
part_text asked part = at_level asked (printed part)

-- a factor after the first, with its sign
abbrev pub later_factor : Factor → List ℕ
later_factor = fold-Factor Printed (List ℕ) (List ℕ) printed_step addend_text factor_text

-- an addend after the first, with its sign
abbrev pub later_addend : Addend → List ℕ
later_addend = fold-Addend Printed (List ℕ) (List ℕ) printed_step addend_text factor_text

-- parts with a sign between them
abbrev pub joined_parts : List ℕ → ℕ → List Expr → List ℕ
joined_parts sign asked [] = []
joined_parts sign asked (first ∷ rest) =
    part_text asked first ++ flat_map (λ part. sign ++ part_text asked part) rest

-- ---- statements, by the depth where they stand

abbrev pub statements_text : ℕ → List StmtTree → List ℕ
statements_text depth = flat_map (λ statement. statement_text statement depth)

-- statements one level deeper, and the brace that ends them
abbrev pub block_text : ℕ → List StmtTree → List ℕ
block_text depth statements = statements_text (depth + 1) statements ++ indent depth ++ codes "}"

abbrev pub else_text : ℕ → List StmtTree → List ℕ
else_text depth statements = otherwise depth (map statement_text statements)

-- ---- items, by the depth where they stand

abbrev pub items_text : ℕ → List Item → List ℕ
items_text depth = flat_map (λ item. item_text item depth)

-- items one level deeper, and the line that ends them
abbrev pub body_text : ℕ → List Item → List ℕ
body_text depth items = items_text (depth + 1) items ++ indent depth ++ codes "}\n"
