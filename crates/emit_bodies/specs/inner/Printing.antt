-- The texts of parts of statements, for their writers.
use Rattle.std.specs.Prelude.{ℕ, ◌+◌, List, ◌++◌, map, codes}
use Rattle.lang_tree.specs.declared.tree.StmtTree.{StmtTree}
use Rattle.emit_expressions.specs.Scopes.{ScopeParts}
use Rattle.emit_bodies.specs.Statements.{indent, otherwise, statement_text, statements_text}

-- statements one level deeper, and the brace that ends them
abbrev pub block_text : ScopeParts → ℕ → List StmtTree → List ℕ
block_text scope depth statements =
    statements_text scope (depth + 1) statements ++ indent depth ++ codes "}"

abbrev pub else_text : ScopeParts → ℕ → List StmtTree → List ℕ
else_text scope depth statements = otherwise depth (map (statement_text scope) statements)
