-- Statements, results and blocks of what breaks no rule have places of the right kinds.
use Rattle.std.proofs.Common.{◌≡◌, ℕ, Bool, true, false, List, [], ◌∷◌, ◌++◌, map, Option, Some, None, refl, sym, ap, subst, ◌∙◌}
use Rattle.std.specs.Prelude.{◌&&◌, if◌then◌else◌}
use Rattle.std.specs.List.{flat_map, list_all}
use Rattle.std.proofs.lemmas.List.Folds.{list_all-append}
use Rattle.logic_linear.specs.declared.substitution.Put.TheVariants as puts
use Rattle.logic_linear.specs.Linear.{Linear}
use Rattle.logic_linear.specs.declared.formula.Formula.{Formula}
use Rattle.lang_tree.specs.declared.tree.Expr.{Expr}
use Rattle.lang_tree.specs.declared.tree.BlockTree.{BlockTree}
use Rattle.lang_tree.specs.declared.tree.StmtTree.{StmtTree, out-StmtTree, roll-StmtTree}
use Rattle.lang_tree.specs.declared.tree.StmtTree.TheOpen.{StmtTree-F, Set, If, Return}
use Rattle.lang_tree.specs.declared.tree.StmtTree.TheFolds.{fold-roll-StmtTree, fold_out-StmtTree, map-StmtTree, ind-StmtTree}
use Rattle.lang_base.specs.declared.kind.Kind.{Kind}
use Rattle.lang_base.specs.declared.kind.Kind.TheVariants as kinds
use Rattle.lang_base.specs.declared.source_fault.SourceFault.{SourceFault}
use Rattle.lang_forms.specs.declared.scope.Meaning.{Meaning}
use Rattle.lang_forms.specs.declared.scope.Meaning.TheVariants as meanings
use Rattle.lang_forms.specs.declared.scope.Entry.{Entry}
use Rattle.lang_forms.specs.Scope.{entry_named}
use Rattle.lang_forms.specs.Forms.{linear_of}
use Rattle.lang_forms.specs.Sense.{Sense, entry_kind, is_other, meaning_kind, sense, wrong_type}
use Rattle.lang_forms.specs.Making.{has_small_numbers}
use Rattle.lang_forms.proofs.LimitedForms.{both_true}
use Rattle.lang_forms.proofs.SoundSenses.{or_else_none}
use Rattle.lang_rules.specs.Rules.{Finding, expected, finding, finding_step, misplaced, return_faults, target_faults}
use Rattle.lang_monitor.specs.declared.monitor.Stmt.{Stmt}
use Rattle.lang_monitor.specs.declared.monitor.Stmt.TheVariants as statements
use Rattle.lang_monitor.proofs.Statements.{if_parts, put_part}
use Rattle.lang_monitor.specs.declared.monitor.Block.{Block}
use Rattle.lang_monitor.specs.MonitorParts.{Places, fits_block, fits_form, fits_formula, fits_put, fits_result, fits_statement, is_kind, target_at}
use Rattle.lang_monitor.specs.declared.monitor.Ret.TheVariants as rets
use Rattle.lang_types.specs.Typed.{IsBlockOf, assignment, result_layer, result_of, result_of_kind, set_of, statement_of, statement_of_step as typed_step}
use Rattle.lang_types.proofs.FineTrees.{append_none, no_fault, no_places}
use Rattle.lang_types.proofs.ScopePlaces.{fits_entry, fits_found, fits_meaning, fits_scope, fits_target, fits_variable, found_named}
use Rattle.lang_types.proofs.HeldPlaces.{bool_fits, int_fits}

-- ---- faults

no_fault_unless : (test : Bool) (fault : SourceFault) → (if test then [] else fault ∷ []) ≡ [] → test ≡ true
no_fault_unless true fault none = refl
no_fault_unless false fault none = absurd (cc)

-- an expression that breaks no rule and is of the wanted kind
pub value_fine : (wanted : Kind) (value : Sense) → expected (Some wanted) value ≡ [] → (value.faults ≡ []) × (is_other wanted value.kind ≡ false)
value_fine wanted value none =
    let both = or_else_none value.faults (wrong_type wanted value) none in
    (both.0, no_fault (is_other wanted value.kind) _ both.1)

-- a scope whose entries have places of their kinds, and small numbers
pub record IsFit (places : Places) (scope : List Entry) : Type 0 where
  pub fits : fits_scope places scope ≡ true
  pub small : has_small_numbers scope ≡ true

-- ---- each form of a statement

fits-Number : (places : Places) (place : ℕ) (form : Linear) → fits_statement places (statements.Put (puts.Number place form)) ≡ (is_kind kinds.Int (target_at places place) && fits_form places form)
fits-Number places place form = put_part (fits_put places) (fits_formula places) (puts.Number place form)

fits-Truth : (places : Places) (place : ℕ) (is : Formula) → fits_statement places (statements.Put (puts.Truth place is)) ≡ (is_kind kinds.Bool (target_at places place) && fits_formula places is)
fits-Truth places place is = put_part (fits_put places) (fits_formula places) (puts.Truth place is)

fits-If : (places : Places) (when : Formula) (body other : List Stmt) → fits_statement places (statements.If when body other) ≡ (fits_formula places when && (list_all (fits_statement places) body && list_all (fits_statement places) other))
fits-If places when body other = if_parts (fits_put places) (fits_formula places) when body other

one_fits : (places : Places) (statement : Stmt) → fits_statement places statement ≡ true → list_all (fits_statement places) (statement ∷ []) ≡ true
one_fits places statement fits = rw fits refl

-- ---- assignments

meaning_fits : (places : Places) (scope : List Entry) (meaning : Meaning) (value : Expr) → IsFit places scope → fits_variable places meaning ≡ true → expected (Some (meaning_kind meaning)) (sense scope value) ≡ [] → list_all (fits_statement places) (assignment scope meaning (sense scope value)) ≡ true
meaning_fits places scope (meanings.Number number) value fit fits none = refl
meaning_fits places scope (meanings.Int place) value fit fits none =
    let fine = value_fine kinds.Int (sense scope value) none in
    one_fits places (statements.Put (puts.Number place (linear_of scope (sense scope value).form))) (fits-Number places place (linear_of scope (sense scope value).form) ∙ rw (fits, int_fits places scope value fit.fits fit.small fine.0 fine.1) refl)
meaning_fits places scope (meanings.Flag place) value fit fits none =
    let fine = value_fine kinds.Bool (sense scope value) none in
    one_fits places (statements.Put (puts.Truth place (sense scope value).formula)) (fits-Truth places place (sense scope value).formula ∙ rw (fits, bool_fits places scope value fit.fits fit.small fine.0 fine.1) refl)

where_variable : (variable fits : Bool) → (if variable then fits else true) ≡ true → variable ≡ true → fits ≡ true
where_variable true fits is variable_is = is
where_variable false fits is variable_is = absurd (cc)

target_fits : (places : Places) (at : ℕ) (entry : Entry) → fits_entry places entry ≡ true → target_faults at (Some entry) ≡ [] → fits_variable places entry.meaning ≡ true
target_fits places at entry fits none =
    let both = both_true (fits_meaning places entry.meaning) (fits_target places entry) fits in
    where_variable entry.is_variable (fits_variable places entry.meaning) both.1 (no_fault_unless entry.is_variable _ none)

set_fits : (places : Places) (scope : List Entry) (at : ℕ) (target : Option Entry) (value : Expr) → IsFit places scope → fits_found places target ≡ true → (target_faults at target ++ expected (entry_kind target) (sense scope value)) ≡ [] → list_all (fits_statement places) (set_of scope target (sense scope value)) ≡ true
set_fits places scope at None value fit fits none = refl
set_fits places scope at (Some entry) value fit fits none =
    let both = append_none (target_faults at (Some entry)) (expected (entry_kind (Some entry)) (sense scope value)) none in
    meaning_fits places scope entry.meaning value fit (target_fits places at entry fits both.0) both.1

-- ---- every statement

abbrev Fits : Places → List Entry → StmtTree → Type 0
Fits places scope statement = (finding scope statement).faults ≡ [] → list_all (fits_statement places) (statement_of scope statement) ≡ true

inner_fits : (places : Places) (scope : List Entry) (body : List ((statement : StmtTree) × Fits places scope statement)) → flat_map (λ inner. inner.faults ++ misplaced inner.returns) (map (finding scope) (map (λ e. e.0) body)) ≡ [] → list_all (fits_statement places) (flat_map (λ inner. inner) (map (statement_of scope) (map (λ e. e.0) body))) ≡ true
inner_fits places scope [] none = refl
inner_fits places scope (statement ∷ body) none =
    let found = finding scope statement.0 in
    let both = append_none (found.faults ++ misplaced found.returns) (flat_map (λ inner. inner.faults ++ misplaced inner.returns) (map (finding scope) (map (λ e. e.0) body))) none in
    let here = append_none found.faults (misplaced found.returns) both.0 in
    list_all-append (fits_statement places) (statement_of scope statement.0) (flat_map (λ inner. inner) (map (statement_of scope) (map (λ e. e.0) body)))
    ∙ rw (statement.1 here.0, inner_fits places scope body both.1) refl

abbrev Layer : Places → List Entry → Type 0
Layer places scope = StmtTree-F ((statement : StmtTree) × Fits places scope statement)

abbrev bare_layer : (places : Places) (scope : List Entry) → Layer places scope → StmtTree-F StmtTree
bare_layer places scope = map-StmtTree ((statement : StmtTree) × Fits places scope statement) StmtTree (λ e. e.0)

abbrev LayerFits : Places → List Entry → StmtTree-F StmtTree → Type 0
LayerFits places scope layer = (finding_step scope (map-StmtTree StmtTree Finding (finding scope) layer)).faults ≡ [] → list_all (fits_statement places) (typed_step scope (map-StmtTree StmtTree (List Stmt) (statement_of scope) layer)) ≡ true

layer_fits : (places : Places) (scope : List Entry) → IsFit places scope → (layer : Layer places scope) → LayerFits places scope (bare_layer places scope layer)
layer_fits places scope fit (Set at name value) none = set_fits places scope at (entry_named scope name) value fit (found_named places scope name fit.fits) none
layer_fits places scope fit (If at when body other) none =
    let inner = λ (list : List ((statement : StmtTree) × Fits places scope statement)). flat_map (λ inner. inner.faults ++ misplaced inner.returns) (map (finding scope) (map (λ e. e.0) list)) in
    let guard = append_none (expected (Some kinds.Bool) (sense scope when)) (inner body ++ inner other) none in
    let both = append_none (inner body) (inner other) guard.1 in
    let fine = value_fine kinds.Bool (sense scope when) guard.0 in
    let typed = λ (list : List ((statement : StmtTree) × Fits places scope statement)). flat_map (λ inner. inner) (map (statement_of scope) (map (λ e. e.0) list)) in
    one_fits places (statements.If (sense scope when).formula (typed body) (typed other))
    (fits-If places (sense scope when).formula (typed body) (typed other)
    ∙ rw (bool_fits places scope when fit.fits fit.small fine.0 fine.1, inner_fits places scope body both.0, inner_fits places scope other both.1) refl)
layer_fits places scope fit (Return at value) none = refl

roll_fits : (places : Places) (scope : List Entry) (layer : StmtTree-F StmtTree) → LayerFits places scope layer → Fits places scope (roll-StmtTree layer)
roll_fits places scope layer fits none =
    ap (list_all (fits_statement places)) (fold-roll-StmtTree (List Stmt) (typed_step scope) layer)
    ∙ fits (sym (ap (λ (f : Finding). f.faults) (fold-roll-StmtTree Finding (finding_step scope) layer)) ∙ none)

pub statement_fits : (places : Places) (scope : List Entry) → IsFit places scope → (statement : StmtTree) → Fits places scope statement
statement_fits places scope fit = ind-StmtTree (Fits places scope) (λ x y is. subst (λ (z : StmtTree-F StmtTree). Fits places scope (roll-StmtTree z)) is (roll_fits places scope (bare_layer places scope y) (layer_fits places scope fit y)))

-- ---- bodies and results

abbrev pub BreakNone : List Entry → List StmtTree → Type 0
BreakNone scope body = flat_map (λ statement. (finding scope statement).faults) body ≡ []

pub body_fits : (places : Places) (scope : List Entry) → IsFit places scope → (body : List StmtTree) → BreakNone scope body → list_all (fits_statement places) (flat_map (statement_of scope) body) ≡ true
body_fits places scope fit [] none = refl
body_fits places scope fit (statement ∷ body) none =
    let both = append_none (finding scope statement).faults (flat_map (λ statement. (finding scope statement).faults) body) none in
    list_all-append (fits_statement places) (statement_of scope statement) (flat_map (statement_of scope) body)
    ∙ rw (statement_fits places scope fit statement both.0, body_fits places scope fit body both.1) refl

kind_result : (places : Places) (scope : List Entry) (value : Expr) (kind : Option Kind) → IsFit places scope → (sense scope value).kind ≡ kind → (sense scope value).faults ≡ [] → fits_result places (result_of_kind scope kind (sense scope value)) ≡ true
kind_result places scope value None fit is none = refl
kind_result places scope value (Some kinds.Int) fit is none = int_fits places scope value fit.fits fit.small none (ap (is_other kinds.Int) is)
kind_result places scope value (Some kinds.Bool) fit is none = bool_fits places scope value fit.fits fit.small none (ap (is_other kinds.Bool) is)

layer_result : (places : Places) (scope : List Entry) → IsFit places scope → (layer : StmtTree-F StmtTree) → (finding_step scope (map-StmtTree StmtTree Finding (finding scope) layer)).faults ≡ [] → fits_result places (result_layer scope layer) ≡ true
layer_result places scope fit (Set at name value) none = refl
layer_result places scope fit (If at when body other) none = refl
layer_result places scope fit (Return at value) none = kind_result places scope value (sense scope value).kind fit refl none

last_result : (places : Places) (scope : List Entry) → IsFit places scope → (statement : StmtTree) → (finding scope statement).faults ≡ [] → fits_result places (result_layer scope (out-StmtTree statement)) ≡ true
last_result places scope fit statement none = layer_result places scope fit (out-StmtTree statement) (sym (ap (λ (f : Finding). f.faults) (fold_out-StmtTree Finding (finding_step scope) statement)) ∙ none)

pub result_fits : (places : Places) (scope : List Entry) → IsFit places scope → (body : List StmtTree) → BreakNone scope body → fits_result places (result_of scope body) ≡ true
result_fits places scope fit [] none = refl
result_fits places scope fit (last ∷ []) none = last_result places scope fit last (append_none (finding scope last).faults [] none).0
result_fits places scope fit (first ∷ next ∷ more) none = result_fits places scope fit (next ∷ more) (append_none (finding scope first).faults (flat_map (λ statement. (finding scope statement).faults) (next ∷ more)) none).1

-- ---- blocks

pub record IsFineBlock (scope : List Entry) (tree : BlockTree) : Type 0 where
  pub guard : expected (Some kinds.Bool) (sense scope tree.guard) ≡ []
  pub body : BreakNone scope tree.body

-- A block of a tree that breaks no rule has places of the right kinds.
pub block_fits : (places : Places) (scope : List Entry) (number : ℕ) (tree : BlockTree) (block : Block) → IsFit places scope → IsFineBlock scope tree → IsBlockOf scope number tree block → fits_block places block ≡ true
block_fits places scope number tree block fit fine is =
    let guard = value_fine kinds.Bool (sense scope tree.guard) fine.guard in
    let guard_fits : fits_formula places block.guard ≡ true = ap (fits_formula places) is.guard ∙ bool_fits places scope tree.guard fit.fits fit.small guard.0 guard.1 in
    let body : list_all (fits_statement places) block.body ≡ true = ap (list_all (fits_statement places)) is.body ∙ body_fits places scope fit tree.body fine.body in
    let result : fits_result places block.result ≡ true = ap (fits_result places) is.result ∙ result_fits places scope fit tree.body fine.body in
    rw (guard_fits, body, result) refl

-- ---- what a body without a `return` answers

abbrev NoReturn : List Entry → List StmtTree → Type 0
NoReturn scope body = flat_map (λ inner. (finding scope inner).returns) body ≡ []

layer_silent : (scope : List Entry) (layer : StmtTree-F StmtTree) → (finding_step scope (map-StmtTree StmtTree Finding (finding scope) layer)).returns ≡ [] → result_layer scope layer ≡ rets.Nothing
layer_silent scope (Set at name value) none = refl
layer_silent scope (If at when body other) none = refl
layer_silent scope (Return at value) none = absurd (cc)

last_silent : (scope : List Entry) (statement : StmtTree) → (finding scope statement).returns ≡ [] → result_layer scope (out-StmtTree statement) ≡ rets.Nothing
last_silent scope statement none = layer_silent scope (out-StmtTree statement) (sym (ap (λ (f : Finding). f.returns) (fold_out-StmtTree Finding (finding_step scope) statement)) ∙ none)

answers_nothing : (scope : List Entry) (body : List StmtTree) → NoReturn scope body → result_of scope body ≡ rets.Nothing
answers_nothing scope [] none = refl
answers_nothing scope (last ∷ []) none = last_silent scope last (append_none (finding scope last).returns [] none).0
answers_nothing scope (first ∷ next ∷ more) none = answers_nothing scope (next ∷ more) (append_none (finding scope first).returns (flat_map (λ inner. (finding scope inner).returns) (next ∷ more)) none).1

-- A body of which each `return` is misplaced answers nothing.
pub silent_body : (scope : List Entry) (body : List StmtTree) → return_faults scope body ≡ [] → result_of scope body ≡ rets.Nothing
silent_body scope body none = answers_nothing scope body (no_places (flat_map (λ inner. (finding scope inner).returns) body) none)
