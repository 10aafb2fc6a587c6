-- What may happen on the paths of statements, by their forms.
use Rattle.std.proofs.Common.{◌≡◌, ℕ, zero, suc, ◌+◌, ◌<◌, ◌≤◌, Bool, false, List, [], ◌∷◌, ◌∙◌, map, length, get_or, take, ap, sym, refl, add-one, arith}
use Rattle.std.proofs.lemmas.List.{take_all}
use Rattle.std.specs.List.{list_any}
use Rattle.lang_tree.specs.declared.tree.Expr.{Expr}
use Rattle.lang_tree.specs.declared.tree.StmtTree.{StmtTree}
use Rattle.lang_tree.specs.declared.tree.StmtTree.TheVariants.{Set, If, Return, rolls-Set, rolls-If, rolls-Return}
use Rattle.lang_tree.specs.declared.tree.StmtTree.TheOpen as layers
use Rattle.lang_tree.specs.declared.tree.StmtTree.TheFolds.{fold-roll-StmtTree}
use Rattle.emit_expressions.specs.Scopes.{ScopeParts, declares}
use Rattle.emit_bodies.specs.declared.traces.Trace.{Trace}
use Rattle.emit_bodies.specs.Traces.{and_then, body_trace, in_turn, nothing, or_else, statement_trace, trace_step, value_trace}

-- ---- one after the other

in_turn-push : {X : Type 0} (f : X → Trace) (before : Trace) (xs : List X) (i : ℕ) (d : X) → i < length xs
    → and_then (in_turn before (map f (take i xs))) (f (get_or xs i d)) ≡ in_turn before (map f (take (suc i) xs))
in_turn-push f before [] i d within = absurd (omega arith)
in_turn-push f before (x ∷ xs) zero d within = refl
in_turn-push f before (x ∷ xs) (suc i) d within = in_turn-push f (and_then before (f x)) xs i d (omega arith)

pub turn_goes : {X : Type 0} (f : X → Trace) (xs : List X) (i : ℕ) (x : X) (so_far made : Trace) → i < length xs → x ≡ get_or xs i x → made ≡ f x → so_far ≡ in_turn nothing (map f (take i xs))
    → and_then so_far made ≡ in_turn nothing (map f (take (i + 1) xs))
turn_goes f xs i x so_far made within is says before =
    ap (λ (t : Trace). and_then t made) before
    ∙ ap (and_then (in_turn nothing (map f (take i xs)))) (says ∙ ap f is)
    ∙ (rw add-one (in_turn-push f nothing xs i x within))

pub turn_ends : {X : Type 0} (f : X → Trace) (xs : List X) (i : ℕ) (so_far : Trace) → length xs ≤ i → so_far ≡ in_turn nothing (map f (take i xs)) → so_far ≡ in_turn nothing (map f xs)
turn_ends f xs i so_far within before = before ∙ ap (λ l. in_turn nothing (map f l)) (take_all i xs within)

-- ---- the forms

module _ (scope : ScopeParts) where
  pub trace-Set : (statement : StmtTree) (at : ℕ) (name bytes : List ℕ) (value : Expr) (writes : Bool) → statement ≡ Set at name value → bytes ≡ name → writes ≡ list_any (declares bytes) scope.tree.decls
      → value_trace scope writes value ≡ statement_trace scope statement
  trace-Set statement at name bytes value writes is same found =
      ap (λ (t : Bool). value_trace scope t value) (found ∙ ap (λ n. list_any (declares n) scope.tree.decls) same)
      ∙ sym (ap (statement_trace scope) (is ∙ sym (rolls-Set at name value)) ∙ fold-roll-StmtTree Trace (trace_step scope) (layers.Set at name value))

  pub trace-Return : (statement : StmtTree) (at : ℕ) (value : Expr) → statement ≡ Return at value → value_trace scope false value ≡ statement_trace scope statement
  trace-Return statement at value is =
      sym (ap (statement_trace scope) (is ∙ sym (rolls-Return at value)) ∙ fold-roll-StmtTree Trace (trace_step scope) (layers.Return at value))

  pub trace-If : (statement : StmtTree) (at : ℕ) (when : Expr) (body other items others : List StmtTree) (one next : Trace) → statement ≡ If at when body other → items ≡ body → others ≡ other → one ≡ body_trace scope items → next ≡ body_trace scope others
      → or_else one next ≡ statement_trace scope statement
  trace-If statement at when body other items others one next is first second left right =
      ap (λ (t : Trace). or_else t next) (left ∙ ap (body_trace scope) first)
      ∙ ap (or_else (body_trace scope body)) (right ∙ ap (body_trace scope) second)
      ∙ sym (ap (statement_trace scope) (is ∙ sym (rolls-If at when body other)) ∙ fold-roll-StmtTree Trace (trace_step scope) (layers.If at when body other))
