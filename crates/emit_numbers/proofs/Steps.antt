-- A call of a printed body is a step of its block.
use Rattle.std.proofs.Common.{◌≡◌, Bool, true, false, ◌||◌, ◌⊎◌, List, [], ◌++◌, Option, Some, None, refl, sym, ap, subst, ◌∙◌, true≢false, inl, inr}
use Rattle.std.specs.Prelude.{not}
use Rattle.std.proofs.lemmas.List.{append-nil}
use Rattle.lang_tree.specs.declared.tree.MonitorTree.{MonitorTree}
use Rattle.lang_base.specs.declared.value.Value.{Value}
use Rattle.lang_base.specs.declared.value.Value.TheVariants as values
use Rattle.lang_forms.specs.Scope.{declared_from, inputs_from}
use Rattle.lang_monitor.specs.declared.monitor.Stmt.{Stmt}
use Rattle.lang_monitor.specs.declared.monitor.Ret.{Ret}
use Rattle.lang_monitor.specs.declared.monitor.Block.{Block}
use Rattle.lang_monitor.specs.Bodies.{Inputs, Memory, Overflows, after, body_effect, fits_result_64, memory_of, overflows_in, result_value}
use Rattle.lang_types.specs.Typed.{IsPlaced, PlacedBlock, blocks_from, result_of}
use Rattle.lang_types.proofs.FineTrees.{IsFinePlaced, tree_blocks_fine}
use Rattle.lang_types.proofs.KeptMeanings.{fine_at}
use Rattle.lang_types.proofs.PlacedBlocks.{belong}
use Rattle.machine_implicit.specs.Steps.{reply_of}
use Rattle.machine_implicit.specs.declared.commit.Reply.TheVariants as replies
use Rattle.emit_expressions.specs.Scopes.{ScopeParts}
use Rattle.emit_bodies.specs.Traces.{body_trace}
use Rattle.emit_numbers.specs.Calls.{Outcome, answer_of, body_call, entries, left_by, state_left}
use Rattle.emit_numbers.specs.Calls.Outcome.{goes_on, stops}
use Rattle.emit_numbers.specs.Laws.{AreShort, CallSteps, DoesStep, MayRun, PrintedBodiesStep, scope_in}
use Rattle.emit_numbers.proofs.Short.{ArePlain, declared_plain, inputs_plain}
use Rattle.emit_numbers.proofs.Running.{Setting}
use Rattle.emit_numbers.proofs.Traced.{IsTraced, body_traced, may_of}
use Rattle.emit_numbers.proofs.Endings.{Ends, body_ends}

-- ---- what a call leaves

no_overflow : (result : Option Value) → reply_of result ≡ replies.Overflow → ⊥
no_overflow None is = cc
no_overflow (Some (values.Int number)) is = cc
no_overflow (Some (values.Bool truth)) is = cc

kept_state : (copies : Bool) (state : List Value) (last : Memory) → (copies ≡ false → last.state ≡ state) → state_left copies state last ≡ state
kept_state true state last same = refl
kept_state false state last same = same refl

-- what a call leaves, by its outcome
abbrev Leaves : ScopeParts → PlacedBlock → Block → List Value → Inputs → Outcome → Type 0
Leaves scope placed block state inputs outcome =
    let left = left_by scope inputs.arguments placed.block.body state outcome in
    DoesStep block state inputs left × ((body_trace scope placed.block.body).fails ≡ false → left.reply ≡ replies.Overflow → ⊥)

abbrev BlockEnds : ScopeParts → PlacedBlock → Block → List Value → Inputs → Outcome → Type 0
BlockEnds scope placed block state inputs outcome =
    Ends (body_effect inputs.arguments block.body) (λ now. result_value now inputs.arguments block.result) (λ now. answer_of scope inputs.arguments now placed.block.body) (memory_of state inputs) outcome

-- where a body stops, its trace says what it has changed, or else it stops nowhere
abbrev IsKnown : ScopeParts → PlacedBlock → Block → List Value → Inputs → Outcome → Type 0
IsKnown scope placed block state inputs outcome =
    IsTraced (may_of scope placed.block.body) (memory_of state inputs) outcome ⊎ (Overflows inputs block state → ⊥)

leaves : (scope : ScopeParts) (placed : PlacedBlock) (block : Block) (state : List Value) (inputs : Inputs) (outcome : Outcome) → AreShort state
    → BlockEnds scope placed block state inputs outcome → IsKnown scope placed block state inputs outcome → Leaves scope placed block state inputs outcome
leaves scope placed block state inputs (goes_on next) short ends known =
    let result = λ (now : Memory). result_value now inputs.arguments block.result in
    let fits : overflows_in inputs block state ≡ false = (λ i. ends.0 i || not (fits_result_64 (result (ends.1 i)))) ∙ ap not ends.4 in (
      record {
        next = after inputs block.body state;
        steps = inl (λ is. true≢false (sym is ∙ fits), ap reply_of (sym ends.3 ∙ ap result (sym ends.1)), refl);
        reaches = sym (ap (λ (x : Memory). x.state) ends.1);
        keeps = λ kept. sym (ap (λ (x : Memory). x.locals) ends.1);
        short = ends.2.fields;
        short_locals = ends.2.locals;
      },
      λ quiet. no_overflow (answer_of scope inputs.arguments next placed.block.body),
    )
leaves scope placed block state inputs (stops last) short ends (inr never) = absurd (never ends.0)
leaves scope placed block state inputs (stops last) short ends (inl traced) =
    let same = kept_state (body_trace scope placed.block.body).copies state last traced.1 in (
      record {
        next = memory_of state inputs;
        steps = inr (ends.0, refl, refl);
        reaches = same;
        keeps = λ kept. absurd (kept refl);
        short = subst AreShort (sym same) short;
        short_locals = ends.1.locals;
      },
      λ quiet is. true≢false (sym traced.0 ∙ quiet),
    )

-- ---- blocks of a checked tree

pub scope_plain : (scope : ScopeParts) → ArePlain (entries scope)
scope_plain scope =
    let locals = declared_from 22 scope.method.locals in
    declared_plain 0 scope.tree.decls (inputs_from 16 scope.method.inputs ++ locals)
    (inputs_plain 16 scope.method.inputs locals (subst ArePlain (append-nil locals) (declared_plain 22 scope.method.locals [] tt)))

known_at : (tree : MonitorTree) (placed : PlacedBlock) (whole : Bool) (block : Block) (state : List Value) (inputs : Inputs) → MayRun whole block state inputs
    → IsKnown (scope_in tree placed whole) placed block state inputs (body_call (scope_in tree placed whole) inputs.arguments placed.block.body (memory_of state inputs))
known_at tree placed true block state inputs may = inr (may refl)
known_at tree placed false block state inputs may = inl (body_traced (scope_in tree placed false) refl inputs.arguments placed.block.body (memory_of state inputs))

block_leaves : (tree : MonitorTree) (placed : PlacedBlock) (whole : Bool) (block : Block) (state : List Value) (inputs : Inputs) → IsFinePlaced tree.decls placed → IsPlaced tree.decls placed block
    → AreShort state → AreShort inputs.arguments → AreShort inputs.locals → MayRun whole block state inputs
    → CallSteps tree placed whole block state inputs
block_leaves tree placed whole block state inputs fine its short given locals may =
    let scope = scope_in tree placed whole in
    let it : Setting = record { scope = scope; arguments = inputs.arguments; plain = scope_plain scope; given = given } in
    let body = placed.block.body in
    let memory = memory_of state inputs in
    let outcome = body_call scope inputs.arguments body memory in
    let answer = λ (now : Memory). answer_of scope inputs.arguments now body in
    let ended = body_ends it body fine.body fine.early memory (record { fields = short; locals = locals }) in
    let of_body = subst (λ (x : List Stmt). Ends (body_effect inputs.arguments x) (λ now. result_value now inputs.arguments (result_of (entries scope) body)) answer memory outcome) (sym its.body) ended in
    let of_block = subst (λ (x : Ret). Ends (body_effect inputs.arguments block.body) (λ now. result_value now inputs.arguments x) answer memory outcome) (sym its.result) of_body in
    leaves scope placed block state inputs outcome short of_block (known_at tree placed whole block state inputs may)

pub bodies_step : PrintedBodiesStep
bodies_step = λ tree monitor index placed whole block state inputs none typed here there short given locals may.
    let row = blocks_from 0 tree.methods in
    let fine = fine_at tree.decls row (tree_blocks_fine tree none) index placed here in
    block_leaves tree placed whole block state inputs fine (belong tree.decls row monitor.blocks typed.blocks index placed block here there) short given locals may
