-- What breaks no rule keeps its plain meaning.
use Rattle.std.proofs.Common.{◌≡◌, ℕ, zero, suc, List, [], ◌∷◌, ◌++◌, map, All, Option, Some, None, sym, ap, subst, ◌∙◌}
use Rattle.std.specs.Prelude.{slice_get}
use Rattle.std.specs.List.{flat_map}
use Rattle.std.proofs.lemmas.List.Elements.{All-nil, All-cons, All-head, All-tail, All-append, All-weaker}
use Rattle.lang_tree.specs.declared.tree.Decl.{Decl}
use Rattle.lang_tree.specs.declared.tree.Expr.{Expr}
use Rattle.lang_tree.specs.declared.tree.StmtTree.{StmtTree, roll-StmtTree}
use Rattle.lang_tree.specs.declared.tree.StmtTree.TheOpen.{StmtTree-F, Set, If, Return}
use Rattle.lang_tree.specs.declared.tree.StmtTree.TheFolds.{fold-roll-StmtTree, map-StmtTree, ind-StmtTree}
use Rattle.lang_tree.specs.declared.tree.MonitorTree.{MonitorTree}
use Rattle.logic_linear.specs.Truth.{Valuation, truth_of}
use Rattle.lang_base.specs.declared.kind.Kind.{Kind}
use Rattle.lang_base.specs.declared.kind.Kind.TheVariants as kinds
use Rattle.lang_base.specs.declared.source_fault.SourceFault.{SourceFault}
use Rattle.lang_forms.specs.declared.scope.Entry.{Entry}
use Rattle.lang_forms.specs.Scope.{scope_of, entry_named}
use Rattle.lang_forms.specs.Sense.{Sense, sense, entry_kind, is_other, wrong_type}
use Rattle.lang_forms.proofs.SoundSenses.{or_else_none}
use Rattle.lang_forms.proofs.SenseValues.{ints_keep_meaning, bools_keep_meaning}
use Rattle.lang_rules.specs.Rules.{Finding, expected, faults_of, finding, finding_step, misplaced, target_faults}
use Rattle.lang_monitor.specs.declared.monitor.Block.{Block}
use Rattle.lang_monitor.specs.MonitorParts.{MonitorParts}
use Rattle.lang_types.specs.Typed.{IsTyped, PlacedBlock, blocks_from}
use Rattle.lang_types.specs.KeptMeaning.{BodyKeepsMeaning, KeepsMeaning, expressions_step, expressions_of, expressions_in, plain_guard}
use Rattle.lang_types.proofs.FineTrees.{IsFinePlaced, append_none, no_fault, tree_blocks_fine}
use Rattle.lang_types.proofs.PlacedBlocks.{belong}

-- ---- the expressions of statements that break no rule

abbrev pub IsFaultless : List Entry → Expr → Type 0
IsFaultless scope expression = (sense scope expression).faults ≡ []

pub expected_fine : (wanted : Option Kind) (value : Sense) → expected wanted value ≡ [] → value.faults ≡ []
expected_fine None value none = none
expected_fine (Some wanted) value none = (or_else_none value.faults (wrong_type wanted value) none).0

alone : (scope : List Entry) (expression : Expr) → IsFaultless scope expression → All (IsFaultless scope) (expression ∷ [])
alone scope expression none = All-cons (IsFaultless scope) expression [] none (All-nil (IsFaultless scope))

abbrev AllFine : List Entry → StmtTree → Type 0
AllFine scope statement = (finding scope statement).faults ≡ [] → All (IsFaultless scope) (expressions_of statement)

abbrev Known : List Entry → Type 0
Known scope = (statement : StmtTree) × AllFine scope statement

abbrev inner_faults : (scope : List Entry) → List (Known scope) → List SourceFault
inner_faults scope body = flat_map (λ inner. inner.faults ++ misplaced inner.returns) (map (finding scope) (map (λ e. e.0) body))

abbrev inner_expressions : (scope : List Entry) → List (Known scope) → List Expr
inner_expressions scope body = flat_map (λ inner. inner) (map expressions_of (map (λ e. e.0) body))

inner_fine : (scope : List Entry) (body : List (Known scope)) → inner_faults scope body ≡ [] → All (IsFaultless scope) (inner_expressions scope body)
inner_fine scope [] none = All-nil (IsFaultless scope)
inner_fine scope (statement ∷ body) none =
    let found = finding scope statement.0 in
    let both = append_none (found.faults ++ misplaced found.returns) (inner_faults scope body) none in
    let here = append_none found.faults (misplaced found.returns) both.0 in
    All-append (IsFaultless scope) (expressions_of statement.0) (inner_expressions scope body) (statement.1 here.0) (inner_fine scope body both.1)

abbrev bare_layer : (scope : List Entry) → StmtTree-F (Known scope) → StmtTree-F StmtTree
bare_layer scope = map-StmtTree (Known scope) StmtTree (λ e. e.0)

abbrev LayerFine : List Entry → StmtTree-F StmtTree → Type 0
LayerFine scope layer =
    (finding_step scope (map-StmtTree StmtTree Finding (finding scope) layer)).faults ≡ [] → All (IsFaultless scope) (expressions_step (map-StmtTree StmtTree (List Expr) expressions_of layer))

layer_fine : (scope : List Entry) (layer : StmtTree-F (Known scope)) → LayerFine scope (bare_layer scope layer)
layer_fine scope (Set at name value) none =
    let both = append_none (target_faults at (entry_named scope name)) (expected (entry_kind (entry_named scope name)) (sense scope value)) none in
    alone scope value (expected_fine (entry_kind (entry_named scope name)) (sense scope value) both.1)
layer_fine scope (If at when body other) none =
    let outer = append_none (expected (Some kinds.Bool) (sense scope when)) (inner_faults scope body ++ inner_faults scope other) none in
    let both = append_none (inner_faults scope body) (inner_faults scope other) outer.1 in
    let inner = All-append (IsFaultless scope) (inner_expressions scope body) (inner_expressions scope other) (inner_fine scope body both.0) (inner_fine scope other both.1) in
    All-cons (IsFaultless scope) when (inner_expressions scope body ++ inner_expressions scope other) (expected_fine (Some kinds.Bool) (sense scope when) outer.0) inner
layer_fine scope (Return at value) none = alone scope value none

roll_fine : (scope : List Entry) (layer : StmtTree-F StmtTree) → LayerFine scope layer → AllFine scope (roll-StmtTree layer)
roll_fine scope layer fine none =
    subst (All (IsFaultless scope)) (sym (fold-roll-StmtTree (List Expr) expressions_step layer))
    (fine (sym (ap (λ (f : Finding). f.faults) (fold-roll-StmtTree Finding (finding_step scope) layer)) ∙ none))

statement_fine : (scope : List Entry) (statement : StmtTree) → AllFine scope statement
statement_fine scope = ind-StmtTree (AllFine scope) (λ x y is. subst (λ (z : StmtTree-F StmtTree). AllFine scope (roll-StmtTree z)) is (roll_fine scope (bare_layer scope y) (layer_fine scope y)))

-- Each expression of a body that breaks no rule breaks none.
pub body_faultless : (scope : List Entry) (body : List StmtTree) → flat_map (λ statement. (finding scope statement).faults) body ≡ [] → All (IsFaultless scope) (expressions_in body)
body_faultless scope [] none = All-nil (IsFaultless scope)
body_faultless scope (statement ∷ body) none =
    let both = append_none (finding scope statement).faults (flat_map (λ statement. (finding scope statement).faults) body) none in
    All-append (IsFaultless scope) (expressions_of statement) (expressions_in body) (statement_fine scope statement both.0) (body_faultless scope body both.1)

-- ---- what they mean

keeps_meaning : (scope : List Entry) (expression : Expr) → IsFaultless scope expression → KeepsMeaning scope expression
keeps_meaning scope expression none = record {
  value = λ valuation kind. ints_keep_meaning scope valuation expression none (ap (is_other kinds.Int) kind);
  holds = λ valuation kind. bools_keep_meaning scope valuation expression none (ap (is_other kinds.Bool) kind);
}

statements_keep : (scope : List Entry) (body : List StmtTree) → flat_map (λ statement. (finding scope statement).faults) body ≡ [] → All (KeepsMeaning scope) (expressions_in body)
statements_keep scope body none =
    All-weaker (IsFaultless scope) (KeepsMeaning scope) (keeps_meaning scope) (expressions_in body) (body_faultless scope body none)

-- ---- blocks

pub fine_at : (declared : List Decl) (row : List PlacedBlock) → All (IsFinePlaced declared) row → (number : ℕ) (placed : PlacedBlock) → slice_get row number ≡ Some placed → IsFinePlaced declared placed
fine_at declared [] fine number placed here = absurd cc
fine_at declared (first ∷ row) fine zero placed here = let same : first ≡ placed = cc in subst (IsFinePlaced declared) same (All-head (IsFinePlaced declared) first row fine)
fine_at declared (first ∷ row) fine (suc number) placed here = fine_at declared row (All-tail (IsFinePlaced declared) first row fine) number placed here

-- ---- guards

pub guards_keep : (tree : MonitorTree) (monitor : MonitorParts) (number : ℕ) (placed : PlacedBlock) (block : Block) (valuation : Valuation)
    → faults_of tree ≡ [] → IsTyped tree monitor → slice_get (blocks_from 0 tree.methods) number ≡ Some placed → slice_get monitor.blocks number ≡ Some block
    → truth_of valuation block.guard ≡ plain_guard tree.decls placed valuation
guards_keep tree monitor number placed block valuation none typed here there =
    let scope = scope_of tree.decls placed.method in
    let row = blocks_from 0 tree.methods in
    let fine = fine_at tree.decls row (tree_blocks_fine tree none) number placed here in
    let guard = or_else_none (sense scope placed.block.guard).faults (wrong_type kinds.Bool (sense scope placed.block.guard)) fine.guard in
    let is_bool = no_fault (is_other kinds.Bool (sense scope placed.block.guard).kind) _ guard.1 in
    ap (truth_of valuation) (belong tree.decls row monitor.blocks typed.blocks number placed block here there).guard ∙ bools_keep_meaning scope valuation placed.block.guard guard.0 is_bool

-- ---- values

pub values_keep : (tree : MonitorTree) → faults_of tree ≡ [] → All (BodyKeepsMeaning tree.decls) (blocks_from 0 tree.methods)
values_keep tree none =
    All-weaker (IsFinePlaced tree.decls) (BodyKeepsMeaning tree.decls)
    (λ placed fine. statements_keep (scope_of tree.decls placed.method) placed.block.body fine.body) (blocks_from 0 tree.methods) (tree_blocks_fine tree none)
