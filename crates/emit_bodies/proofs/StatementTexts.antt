-- The texts of statements, by their forms.
use Rattle.std.proofs.Common.{◌≡◌, ℕ, ◌+◌, ◌≤◌, List, [], ◌∷◌, ◌++◌, ◌∙◌, map, codes, length, ap, sym, append_assoc, arith}
use Rattle.std.proofs.lemmas.List.Folds.{flat_map-map}
use Rattle.std.specs.List.{flat_map}
use Rattle.lang_tree.specs.declared.tree.Expr.{Expr}
use Rattle.lang_tree.specs.declared.tree.StmtTree.{StmtTree}
use Rattle.lang_tree.specs.declared.tree.StmtTree.TheVariants.{Set, If, Return, rolls-Set, rolls-If, rolls-Return}
use Rattle.lang_tree.specs.declared.tree.StmtTree.TheOpen as layers
use Rattle.lang_tree.specs.declared.tree.StmtTree.TheFolds.{fold-roll-StmtTree}
use Rattle.emit_expressions.specs.Scopes.{ScopeParts, name_text}
use Rattle.emit_expressions.specs.Expressions.{plain_text}
use Rattle.emit_expressions.specs.Values.{value_text}
use Rattle.emit_bodies.specs.Statements.{indent, statement_text, statement_step, statements_text}
use Rattle.emit_bodies.specs.inner.Printing.{block_text, else_text}

module _ (scope : ScopeParts) where
  texts-map : (depth : ℕ) (statements : List StmtTree) → flat_map (λ (lines : ℕ → List ℕ). lines depth) (map (statement_text scope) statements) ≡ statements_text scope depth statements
  texts-map depth statements = flat_map-map (λ (lines : ℕ → List ℕ). lines depth) (statement_text scope) statements

  if_parts : (i f w b lines c o n : List ℕ) → i ++ f ++ w ++ b ++ (lines ++ i ++ c) ++ o ++ n ≡ i ++ f ++ w ++ b ++ lines ++ i ++ c ++ o ++ n
  if_parts i f w b lines c o n = simp append_assoc

  pub text-Set : (statement : StmtTree) (at : ℕ) (name : List ℕ) (value : Expr) (depth : ℕ) → statement ≡ Set at name value
      → indent depth ++ name_text scope name ++ codes " = " ++ value_text scope value (codes "?") ++ codes ";\n" ≡ statement_text scope statement depth
  text-Set statement at name value depth is =
      sym (ap (λ s. statement_text scope s depth) (is ∙ sym (rolls-Set at name value)) ∙ ap (λ (f : ℕ → List ℕ). f depth) (fold-roll-StmtTree (ℕ → List ℕ) (statement_step scope) (layers.Set at name value)))

  pub text-Return : (statement : StmtTree) (at : ℕ) (value : Expr) (depth : ℕ) → statement ≡ Return at value → [] ≡ statement_text scope statement depth
  text-Return statement at value depth is =
      sym (ap (λ s. statement_text scope s depth) (is ∙ sym (rolls-Return at value)) ∙ ap (λ (f : ℕ → List ℕ). f depth) (fold-roll-StmtTree (ℕ → List ℕ) (statement_step scope) (layers.Return at value)))

  if_text : (at : ℕ) (when : Expr) (body other : List StmtTree) (depth : ℕ)
      → indent depth ++ codes "if " ++ plain_text scope when ++ codes " {\n" ++ block_text scope depth body ++ else_text scope depth other ++ codes "\n" ≡ statement_text scope (If at when body other) depth
  if_text at when body other depth =
      if_parts (indent depth) (codes "if ") (plain_text scope when) (codes " {\n") (statements_text scope (depth + 1) body) (codes "}") (else_text scope depth other) (codes "\n")
      ∙ sym (
      ap (λ s. statement_text scope s depth) (sym (rolls-If at when body other))
      ∙ ap (λ (f : ℕ → List ℕ). f depth) (fold-roll-StmtTree (ℕ → List ℕ) (statement_step scope) (layers.If at when body other))
      ∙ ap (λ lines. indent depth ++ codes "if " ++ plain_text scope when ++ codes " {\n" ++ lines ++ indent depth ++ codes "}" ++ else_text scope depth other ++ codes "\n") (texts-map (depth + 1) body)
      )

  pub text-If : (statement : StmtTree) (at : ℕ) (when : Expr) (body other items others : List StmtTree) (depth : ℕ) → statement ≡ If at when body other → items ≡ body → others ≡ other
      → indent depth ++ codes "if " ++ plain_text scope when ++ codes " {\n" ++ block_text scope depth items ++ else_text scope depth others ++ codes "\n" ≡ statement_text scope statement depth
  text-If statement at when body other items others depth is first second =
      ap (λ l. indent depth ++ codes "if " ++ plain_text scope when ++ codes " {\n" ++ block_text scope depth l ++ else_text scope depth others ++ codes "\n") first
      ∙ ap (λ l. indent depth ++ codes "if " ++ plain_text scope when ++ codes " {\n" ++ block_text scope depth body ++ else_text scope depth l ++ codes "\n") second
      ∙ if_text at when body other depth
      ∙ sym (ap (λ s. statement_text scope s depth) is)

  pub else_text-some : (depth : ℕ) (statements : List StmtTree) → 1 ≤ length statements → codes " else {\n" ++ block_text scope depth statements ≡ else_text scope depth statements
  else_text-some depth [] some = absurd (omega arith)
  else_text-some depth (first ∷ rest) some = ap (λ l. codes " else {\n" ++ (l ++ indent depth ++ codes "}")) (sym (texts-map (depth + 1) (first ∷ rest)))
