-- The statements of a body, each on lines of its own.
use Rattle.std.specs.Prelude.{ℕ, ◌+◌, ◌*◌, List, [], ◌∷◌, ◌++◌, codes, replicate}
use Rattle.std.specs.List.{flat_map}
use Rattle.lang_tree.specs.declared.tree.StmtTree.{StmtTree}
use Rattle.lang_tree.specs.declared.tree.StmtTree.TheOpen.{StmtTree-F, Set, If, Return}
use Rattle.lang_tree.specs.declared.tree.StmtTree.TheFolds.{fold-StmtTree}
use Rattle.emit_expressions.specs.Scopes.{ScopeParts, name_text}
use Rattle.emit_expressions.specs.Expressions.{plain_text}
use Rattle.emit_expressions.specs.Values.{value_text}

-- four blanks for each level
abbrev pub indent : ℕ → List ℕ
indent depth = replicate (4 * depth) 32

-- ` else {` and its lines, where there are any
abbrev pub otherwise : ℕ → List (ℕ → List ℕ) → List ℕ
otherwise depth [] = []
otherwise depth (first ∷ rest) =
    codes " else {\n" ++ flat_map (λ lines. lines (depth + 1)) (first ∷ rest) ++ indent depth
    ++ codes "}"

-- The lines of a statement, by the depth where it stands. What a body answers comes at its end.
abbrev pub statement_step : ScopeParts → StmtTree-F (ℕ → List ℕ) → ℕ → List ℕ
statement_step scope (Set at name value) depth =
    indent depth ++ name_text scope name ++ codes " = " ++ value_text scope value (codes "?")
    ++ codes ";\n"
statement_step scope (If at when body other) depth =
    indent depth ++ codes "if " ++ plain_text scope when ++ codes " {\n"
    ++ flat_map (λ lines. lines (depth + 1)) body ++ indent depth ++ codes "}"
    ++ otherwise depth other ++ codes "\n"
statement_step scope (Return at value) depth = []

abbrev pub statement_text : ScopeParts → StmtTree → ℕ → List ℕ
statement_text scope = fold-StmtTree (ℕ → List ℕ) (statement_step scope)

abbrev pub statements_text : ScopeParts → ℕ → List StmtTree → List ℕ
statements_text scope depth = flat_map (λ statement. statement_text scope statement depth)
