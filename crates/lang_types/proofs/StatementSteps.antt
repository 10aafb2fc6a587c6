-- What the code that types statements may count on at each of its calls.
use Rattle.std.proofs.Common.{◌≡◌, ℕ, suc, ◌-◌, ◌<◌, List, [], ◌∷◌, ◌++◌, length, get_or, map, refl, sym, ap, subst, ◌∙◌, arith, Some, Result}
use Rattle.std.specs.Prelude.{IfOk}
use Rattle.std.specs.List.{flat_map}
use Rattle.std.proofs.lemmas.List.Elements.{All-cons, All-nil}
use Rattle.std.proofs.lemmas.List.Folds.{flat_map-map}
use Rattle.logic_linear.specs.declared.formula.Formula.{Formula}
use Rattle.lang_tree.specs.declared.tree.Expr.{Expr}
use Rattle.lang_tree.specs.declared.tree.StmtTree.{StmtTree, out-StmtTree}
use Rattle.lang_tree.specs.declared.tree.StmtTree.TheVariants as trees
use Rattle.lang_tree.specs.declared.tree.StmtTree.TheOpen as layers
use Rattle.lang_tree.specs.declared.tree.StmtTree.TheFolds.{fold-roll-StmtTree}
use Rattle.lang_base.specs.declared.kind.Kind.TheVariants as kinds
use Rattle.lang_forms.specs.declared.scope.Entry.{Entry}
use Rattle.lang_forms.specs.Scope.{entry_named}
use Rattle.lang_forms.specs.Sense.{entry_kind, sense}
use Rattle.lang_rules.specs.Rules.{Finding, expected, finding, finding_step, misplaced, target_faults}
use Rattle.lang_monitor.specs.declared.monitor.Stmt.{Stmt}
use Rattle.lang_monitor.specs.declared.monitor.Stmt.TheVariants as statements
use Rattle.lang_monitor.specs.declared.monitor.Ret.{Ret}
use Rattle.lang_types.specs.inner.Making.{AreFineStatements}
use Rattle.lang_types.specs.Typed.{result_layer, result_of, statement_of, statement_of_step}
use Rattle.lang_types.proofs.FineTrees.{append_none}

-- ---- what each form of a statement breaks

finding-Set : (scope : List Entry) (at : ℕ) (name : List ℕ) (value : Expr) → finding scope (trees.Set at name value) ≡ finding_step scope (layers.Set at name value)
finding-Set scope at name value = ap (finding scope) (sym (trees.rolls-Set at name value)) ∙ fold-roll-StmtTree Finding (finding_step scope) (layers.Set at name value)

finding-If : (scope : List Entry) (at : ℕ) (when : Expr) (body other : List StmtTree) → finding scope (trees.If at when body other) ≡ finding_step scope (layers.If at when (map (finding scope) body) (map (finding scope) other))
finding-If scope at when body other = ap (finding scope) (sym (trees.rolls-If at when body other)) ∙ fold-roll-StmtTree Finding (finding_step scope) (layers.If at when body other)

pub set_fine : (scope : List Entry) (tree : StmtTree) (at : ℕ) (name : List ℕ) (value : Expr) → tree ≡ trees.Set at name value → (finding scope tree).faults ≡ [] → expected (entry_kind (entry_named scope name)) (sense scope value) ≡ []
set_fine scope tree at name value is none =
    (append_none (target_faults at (entry_named scope name)) (expected (entry_kind (entry_named scope name)) (sense scope value)) (sym (ap (λ (f : Finding). f.faults) (ap (finding scope) is ∙ finding-Set scope at name value)) ∙ none)).1

inner_fine : (scope : List Entry) (body : List StmtTree) → flat_map (λ inner. inner.faults ++ misplaced inner.returns) (map (finding scope) body) ≡ [] → AreFineStatements scope body
inner_fine scope [] none = All-nil (λ tree. (finding scope tree).faults ≡ [])
inner_fine scope (tree ∷ body) none =
    let found = finding scope tree in
    let both = append_none (found.faults ++ misplaced found.returns) (flat_map (λ inner. inner.faults ++ misplaced inner.returns) (map (finding scope) body)) none in
    All-cons (λ tree. (finding scope tree).faults ≡ []) tree body (append_none found.faults (misplaced found.returns) both.0).0 (inner_fine scope body both.1)

-- the parts of an `if` that breaks no rule
pub record IsFineIf (scope : List Entry) (when : Expr) (body other : List StmtTree) : Type 0 where
  pub guard_fine : expected (Some kinds.Bool) (sense scope when) ≡ []
  pub body_fine : AreFineStatements scope body
  pub other_fine : AreFineStatements scope other

pub if_fine : (scope : List Entry) (tree : StmtTree) (at : ℕ) (when : Expr) (body other : List StmtTree) → tree ≡ trees.If at when body other → (finding scope tree).faults ≡ [] → IsFineIf scope when body other
if_fine scope tree at when body other is none =
    let inner = λ (list : List StmtTree). flat_map (λ inner. inner.faults ++ misplaced inner.returns) (map (finding scope) list) in
    let whole = sym (ap (λ (f : Finding). f.faults) (ap (finding scope) is ∙ finding-If scope at when body other)) ∙ none in
    let guard = append_none (expected (Some kinds.Bool) (sense scope when)) (inner body ++ inner other) whole in
    let both = append_none (inner body) (inner other) guard.1 in
    record { guard_fine = guard.0; body_fine = inner_fine scope body both.0; other_fine = inner_fine scope other both.1 }

-- statements among which each breaks no rule
pub fine_statements : (scope : List Entry) (body : List StmtTree) → flat_map (λ statement. (finding scope statement).faults) body ≡ [] → AreFineStatements scope body
fine_statements scope [] none = All-nil (λ tree. (finding scope tree).faults ≡ [])
fine_statements scope (tree ∷ body) none =
    let both = append_none (finding scope tree).faults (flat_map (λ statement. (finding scope statement).faults) body) none in
    All-cons (λ tree. (finding scope tree).faults ≡ []) tree body both.0 (fine_statements scope body both.1)

-- ---- what is made

statement-If : (scope : List Entry) (at : ℕ) (when : Expr) (body other : List StmtTree) → statement_of scope (trees.If at when body other) ≡ statements.If (sense scope when).formula (flat_map (statement_of scope) body) (flat_map (statement_of scope) other) ∷ []
statement-If scope at when body other =
    ap (statement_of scope) (sym (trees.rolls-If at when body other))
    ∙ fold-roll-StmtTree (List Stmt) (statement_of_step scope) (layers.If at when body other)
    ∙ ap (λ inner. statements.If (sense scope when).formula inner (flat_map (λ inner. inner) (map (statement_of scope) other)) ∷ []) (flat_map-map (λ inner. inner) (statement_of scope) body)
    ∙ ap (λ inner. statements.If (sense scope when).formula (flat_map (statement_of scope) body) inner ∷ []) (flat_map-map (λ inner. inner) (statement_of scope) other)

pub if_made : (scope : List Entry) (tree : StmtTree) (at : ℕ) (when : Expr) (body other : List StmtTree) (old new : List Stmt) (guard : Formula) (inner others : List Stmt)
    → tree ≡ trees.If at when body other
    → guard ≡ (sense scope when).formula
    → inner ≡ flat_map (statement_of scope) body
    → others ≡ flat_map (statement_of scope) other
    → new ≡ old ++ statements.If guard inner others ∷ []
    → new ≡ old ++ statement_of scope tree
if_made scope tree at when body other old new guard inner others is guard_is inner_is others_is new_is =
    new_is
    ∙ ap (λ (f : Formula). old ++ statements.If f inner others ∷ []) guard_is
    ∙ ap (λ list. old ++ statements.If (sense scope when).formula list others ∷ []) inner_is
    ∙ ap (λ list. old ++ statements.If (sense scope when).formula (flat_map (statement_of scope) body) list ∷ []) others_is
    ∙ sym (ap (λ list. old ++ list) (ap (statement_of scope) is ∙ statement-If scope at when body other))

-- ---- results

pub last_is : (scope : List Entry) (body : List StmtTree) (d : StmtTree) → 0 < length body → result_of scope body ≡ result_layer scope (out-StmtTree (get_or body (length body - 1) d))
last_is scope [] d some = absurd (omega arith)
last_is scope (last ∷ []) d some = refl
last_is scope (first ∷ next ∷ more) d some =
    let one_less : length (first ∷ next ∷ more) - 1 ≡ suc (length (next ∷ more) - 1) = omega arith in
    rw one_less (last_is scope (next ∷ more) d (omega arith))

pub result_made : {E : Type 0} (made : Result Ret E) (a b : Ret) → IfOk made (λ result. result ≡ a) → a ≡ b → IfOk made (λ result. result ≡ b)
result_made made a b is same = subst (λ (x : Ret). IfOk made (λ result. result ≡ x)) same is

-- ---- the lists that the code reads

pub fine_items : (scope : List Entry) (items body : List StmtTree) → items ≡ body → AreFineStatements scope body → AreFineStatements scope items
fine_items scope items body is fine = subst (AreFineStatements scope) (sym is) fine
