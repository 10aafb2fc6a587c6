-- What the laws say.
use Rattle.std.specs.Prelude.{◌≡◌, ◌≤◌, ℕ, Bool, true, false, List, [], ◌∷◌, All, Some, slice_get, codes}
use Rattle.lang_tree.specs.declared.tree.Expr.{Expr}
use Rattle.lang_tree.specs.declared.tree.MonitorTree.{MonitorTree}
use Rattle.lang_base.specs.declared.value.Value.{Value}
use Rattle.lang_syntax.specs.Grammar.{IsParsed}
use Rattle.logic_linear.specs.Truth.{Valuation}
use Rattle.lang_forms.specs.declared.scope.Entry.{Entry}
use Rattle.lang_forms.specs.Plain.{plain_value}
use Rattle.lang_rules.specs.Rules.{faults_of}
use Rattle.lang_monitor.specs.declared.monitor.Block.{Block}
use Rattle.lang_monitor.specs.MonitorParts.{MonitorParts, locals_in, start_of}
use Rattle.lang_monitor.specs.Bodies.{Inputs, Memory, Overflows, fits_64, reading}
use Rattle.lang_monitor.specs.Inputs.{reads_inputs}
use Rattle.lang_monitor.specs.Starts.{IsStart}
use Rattle.lang_types.specs.Typed.{IsTyped, PlacedBlock, blocks_from}
use Rattle.lang_types.specs.KeptMeaning.{expressions_in}
use Rattle.machine_implicit.specs.Steps.{BlockSteps, condition_truth, guard_truth}
use Rattle.machine_implicit.specs.declared.commit.Reply.TheVariants as replies
use Rattle.emit_expressions.specs.Scopes.{ScopeParts}
use Rattle.emit_bodies.specs.Bodies.{body_fails, body_scope}
use Rattle.emit_numbers.specs.Calls.{Left, entries, printed_call}
use Rattle.emit_numbers.specs.Tests.{printed_test}
use Rattle.emit_numbers.specs.Widths.{IsWide, worked}

-- within 64 bits
abbrev pub AreShort : List Value → Type 0
AreShort list = All (λ value. fits_64 value ≡ true) list

-- where the body of a block stands, which may be whole; the receiver is no part of what it does
abbrev pub scope_in : MonitorTree → PlacedBlock → Bool → ScopeParts
scope_in tree placed whole = body_scope tree placed.method (codes "self") whole

-- ---- bodies

-- What a call leaves is a step of the block: it answers an overflow just where a value is outside
-- 64 bits, and the state is then as before. The locals of such a call are gone with it. What is
-- left is within 64 bits again.
pub record DoesStep (block : Block) (state : List Value) (inputs : Inputs) (left : Left) : Type 0
  where
    pub next : Memory
    pub steps : BlockSteps block inputs state left.reply next
    pub reaches : left.state ≡ next.state
    pub keeps : (left.reply ≡ replies.Overflow → ⊥) → left.locals ≡ next.locals
    pub short : AreShort left.state
    pub short_locals : AreShort left.locals

-- a block that is printed whole is run only where no value of it leaves 64 bits
abbrev pub MayRun : Bool → Block → List Value → Inputs → Type 0
MayRun whole block state inputs = whole ≡ true → Overflows inputs block state → ⊥

-- a function that is printed without `Result` answers no overflow
abbrev pub AnswersAsTyped : MonitorTree → PlacedBlock → Bool → Left → Type 0
AnswersAsTyped tree placed whole left =
    body_fails tree placed.method placed.block.body whole ≡ false
    → left.reply ≡ replies.Overflow → ⊥

abbrev pub CallSteps : MonitorTree → PlacedBlock → Bool → Block → List Value → Inputs → Type 0
CallSteps tree placed whole block state inputs =
    let left = printed_call (scope_in tree placed whole) placed.block.body state inputs in
    DoesStep block state inputs left × AnswersAsTyped tree placed whole left

-- From each state within 64 bits, with such arguments and locals, a call of the function that is
-- printed of a block's body is a step of the block, where a whole one may run.
abbrev pub PrintedBodiesStep : Type 0
PrintedBodiesStep =
    (tree : MonitorTree) (monitor : MonitorParts) (index : ℕ) (placed : PlacedBlock)
    (whole : Bool) (block : Block) (state : List Value) (inputs : Inputs)
    → faults_of tree ≡ [] → IsTyped tree monitor
    → slice_get (blocks_from 0 tree.methods) index ≡ Some placed
    → slice_get monitor.blocks index ≡ Some block
    → AreShort state → AreShort inputs.arguments → AreShort inputs.locals
    → MayRun whole block state inputs → CallSteps tree placed whole block state inputs

-- The state at the start where nothing is chosen is within 64 bits, and so are the locals with
-- which a call begins, and each state with which the monitor may be opened.
abbrev pub StartsAreShort : Type 0
StartsAreShort =
    (tree : MonitorTree) (monitor : MonitorParts) → faults_of tree ≡ [] → IsTyped tree monitor
    → AreShort (start_of monitor)
    × ((method : ℕ) → AreShort (locals_in (slice_get monitor.methods method)))
    × ((start : List Value) → IsStart monitor.fields start → AreShort start)

-- ---- guards

-- At each state and inputs, a call of the function that is printed of a block's guard answers
-- whether the guard is true: with these inputs, or, where the guard reads none, without them.
abbrev pub PrintedTestsHold : Type 0
PrintedTestsHold =
    (tree : MonitorTree) (monitor : MonitorParts) (index : ℕ) (placed : PlacedBlock)
    (block : Block) (takes : Bool) (state : List Value) (inputs : Inputs)
    → faults_of tree ≡ [] → IsTyped tree monitor
    → slice_get (blocks_from 0 tree.methods) index ≡ Some placed
    → slice_get monitor.blocks index ≡ Some block
    → (takes ≡ false → reads_inputs block.guard ≡ false)
    → printed_test tree placed takes state inputs ≡ guard_truth monitor state index inputs

-- Where the guard reads no inputs, one such function serves all blocks of a condition: it answers
-- whether the condition's guard is true, and so whether that of each of its blocks is, at whatever
-- inputs.
abbrev pub SharedTestsHold : Type 0
SharedTestsHold =
    (tree : MonitorTree) (monitor : MonitorParts) (index : ℕ) (placed : PlacedBlock)
    (block : Block) (other : ℕ) (waiting : Block) (state : List Value) (inputs : Inputs)
    → faults_of tree ≡ [] → IsTyped tree monitor
    → slice_get (blocks_from 0 tree.methods) index ≡ Some placed
    → slice_get monitor.blocks index ≡ Some block
    → slice_get monitor.blocks other ≡ Some waiting
    → 1 ≤ block.condition → waiting.condition ≡ block.condition
    → reads_inputs block.guard ≡ false
    → (printed_test tree placed false state inputs
    ≡ condition_truth monitor state block.condition)
    × (printed_test tree placed false state inputs ≡ guard_truth monitor state other inputs)

-- ---- numbers on the way

-- an expression is worked out to what ordinary arithmetic and logic give
abbrev pub WorksOutPlainly : Type 0
WorksOutPlainly =
    (scope : List Entry) (valuation : Valuation) (expression : Expr)
    → (worked scope valuation expression).value ≡ plain_value scope valuation expression

-- each number that is made on the way has 128 bits
abbrev pub StaysWide : ScopeParts → List Value → Memory → Expr → Type 0
StaysWide scope arguments memory expression =
    All IsWide (worked (entries scope) (reading arguments memory) expression).made

-- With a state, arguments and locals within 64 bits, all that the guard and the body of a block
-- make on the way has 128 bits.
abbrev pub PrintedNumbersAreWide : Type 0
PrintedNumbersAreWide =
    (tree : MonitorTree) (index : ℕ) (placed : PlacedBlock) (whole : Bool)
    (arguments : List Value) (memory : Memory)
    → IsParsed tree → faults_of tree ≡ []
    → slice_get (blocks_from 0 tree.methods) index ≡ Some placed
    → AreShort arguments → AreShort memory.state → AreShort memory.locals
    → All (StaysWide (scope_in tree placed whole) arguments memory)
    (placed.block.guard ∷ expressions_in placed.block.body)
