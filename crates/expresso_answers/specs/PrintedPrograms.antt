-- What threads do by the code that is printed of a monitor under its plan, what the printed bodies
-- and tests do, and how large the numbers are that are kept and made on the way.
use Rattle.std.specs.Prelude.{◌≡◌, ℕ, ◌+◌, ◌<◌, ◌≤◌, Bool, false, true, List, ◌∷◌, All, Some}
use Rattle.std.specs.Prelude.{slice_get}
use Rattle.lang_base.specs.declared.value.Value.{Value}
use Rattle.lang_tree.specs.declared.tree.MonitorTree.{MonitorTree}
use Rattle.lang_monitor.specs.declared.monitor.Block.{Block}
use Rattle.lang_monitor.specs.Bodies.{Inputs, Memory}
use Rattle.lang_monitor.specs.Inputs.{reads_inputs}
use Rattle.lang_monitor.specs.MonitorParts.{MonitorParts, count_in, first_in, locals_in, start_of}
use Rattle.lang_types.specs.KeptMeaning.{expressions_in}
use Rattle.lang_types.specs.Typed.{PlacedBlock, blocks_from}
use Rattle.machine_implicit.specs.declared.commit.Reply.TheVariants as replies
use Rattle.machine_implicit.specs.declared.script.Call.{Call}
use Rattle.machine_implicit.specs.declared.script.Client.{Client}
use Rattle.machine_implicit.specs.Scripted.{FitsScripts}
use Rattle.machine_implicit.specs.Steps.{condition_truth, guard_truth}
use Rattle.machine_events.specs.declared.plan.Plan.{Plan}
use Rattle.emit_code.specs.Code.{Op}
use Rattle.emit_code.specs.Executions.{Frame, IsThread, Moment, Position, RunsBody, call_of}
use Rattle.emit_code.specs.Executions.Position.{At}
use Rattle.emit_code.specs.Laws.{Leads, LosesNone}
use Rattle.emit_code.specs.LivePlans.{printed_program}
use Rattle.emit_numbers.specs.Laws.{AreShort, CallSteps, MayRun, StaysWide, scope_in}
use Rattle.emit_numbers.specs.Tests.{printed_test}
use Rattle.plan_fits.specs.Answers.{AreWhole}
use Rattle.expresso_answers.specs.Choices.{ForEveryChoice}

-- Any number of threads call the methods, each as often as it does, with arguments that fit, and
-- whichever of these calls have a time. Then at each moment of each execution all that `LosesNone`
-- lists is so: what ran is a run of the implicit monitor, in which a call that has a time is one
-- that tries, calls answer its replies, no wake-up is lost, who gives up has no note to pass on,
-- and where no thread can move none hangs whose guard is true. This is the law
-- `printed_code_loses_none` of `emit_code` for one plan.
abbrev pub ThreadsLoseNone : MonitorParts → Plan → Type 0
ThreadsLoseNone monitor plan =
    (clients : List Client) (timed : ℕ → ℕ → Bool) (last : Moment) → FitsScripts monitor clients
    → Leads (printed_program monitor plan clients timed) last
    → LosesNone (printed_program monitor plan clients timed) last

-- From each state within 64 bits, with such arguments and locals, a call of the function that is
-- printed of a block's body is a step of the block: it answers an overflow just where a value
-- leaves 64 bits, and the state is then as before. This is the law `printed_bodies_step` of
-- `emit_numbers` for one monitor. A block that is printed whole has no tests of 64 bits, and may
-- run where it does not overflow.
abbrev pub BodiesStep : MonitorTree → MonitorParts → List Bool → Type 0
BodiesStep tree monitor whole =
    (index : ℕ) (placed : PlacedBlock) (is : Bool) (block : Block) (state : List Value)
    (inputs : Inputs)
    → slice_get (blocks_from 0 tree.methods) index ≡ Some placed
    → slice_get monitor.blocks index ≡ Some block
    → slice_get whole index ≡ Some is
    → AreShort state → AreShort inputs.arguments → AreShort inputs.locals
    → MayRun is block state inputs → CallSteps tree placed is block state inputs

-- A call of the function that is printed of a block's guard answers whether the guard is true: with
-- the inputs where the function takes them, as of a guard that reads any, and else without them.
-- This is the law `printed_tests_hold` of `emit_numbers` for one monitor.
abbrev pub TestsHold : MonitorTree → MonitorParts → Type 0
TestsHold tree monitor =
    (index : ℕ) (placed : PlacedBlock) (block : Block) (takes : Bool) (state : List Value)
    (inputs : Inputs)
    → slice_get (blocks_from 0 tree.methods) index ≡ Some placed
    → slice_get monitor.blocks index ≡ Some block
    → (takes ≡ false → reads_inputs block.guard ≡ false)
    → printed_test tree placed takes state inputs ≡ guard_truth monitor state index inputs

-- A function that is printed without inputs serves all blocks of its condition, and the tests of
-- notes on it: it answers whether the condition's guard is true. This is that law's other part.
abbrev pub TestsAreShared : MonitorTree → MonitorParts → Type 0
TestsAreShared tree monitor =
    (index : ℕ) (placed : PlacedBlock) (block : Block) (other : ℕ) (waiting : Block)
    (state : List Value) (inputs : Inputs)
    → slice_get (blocks_from 0 tree.methods) index ≡ Some placed
    → slice_get monitor.blocks index ≡ Some block
    → slice_get monitor.blocks other ≡ Some waiting
    → 1 ≤ block.condition → waiting.condition ≡ block.condition
    → reads_inputs block.guard ≡ false
    → (printed_test tree placed false state inputs
    ≡ condition_truth monitor state block.condition)
    × (printed_test tree placed false state inputs ≡ guard_truth monitor state other inputs)

-- And no number that a printed guard or body makes on the way leaves 128 bits: the law
-- `printed_numbers_are_wide` for one monitor.
abbrev pub NumbersStayWide : MonitorTree → Type 0
NumbersStayWide tree =
    (index : ℕ) (placed : PlacedBlock) (arguments : List Value) (memory : Memory)
    → slice_get (blocks_from 0 tree.methods) index ≡ Some placed
    → AreShort arguments → AreShort memory.state → AreShort memory.locals
    → All (StaysWide (scope_in tree placed false) arguments memory)
    (placed.block.guard ∷ expressions_in placed.block.body)

-- ---- executions keep numbers within 64 bits, which is what bodies and widths ask for

-- The state at the start is within 64 bits, and so are the locals with which a call begins. This is
-- the clause `starts` of `printed_bodies_step` for one monitor.
abbrev pub StartIsShort : MonitorParts → Type 0
StartIsShort monitor =
    AreShort (start_of monitor)
    × ((method : ℕ) → AreShort (locals_in (slice_get monitor.methods method)))

-- the arguments of all calls are within 64 bits, as `i64` are
abbrev pub PassShort : List Client → Type 0
PassShort clients = All (λ client. All (λ call. AreShort call.inputs) client.calls) clients

-- the state and what each thread has for locals are within 64 bits
pub record IsShortMoment (now : Moment) : Type 0 where
  pub state : AreShort now.state
  pub locals : (thread : ℕ) (frame : Frame) (position : Position)
      → IsThread now.threads thread frame position → AreShort frame.locals

-- Where threads pass such arguments, each moment of each execution is so: there each printed body
-- does its block's step, and no number on the way leaves 128 bits.
abbrev pub MomentsStayShort : MonitorParts → Plan → Type 0
MomentsStayShort monitor plan =
    (clients : List Client) (timed : ℕ → ℕ → Bool) (last : Moment) → PassShort clients
    → Leads (printed_program monitor plan clients timed) last → IsShortMoment last

-- ---- blocks that are printed whole

-- No move of an execution overflows that runs the body of a block which is printed whole, where
-- threads pass such arguments: so there its printed function does the step. This is the law
-- `fitting_blocks_never_overflow` of `emit_fits` for one plan.
abbrev pub WholeBlocksNeverOverflow : MonitorParts → Plan → List Bool → Type 0
WholeBlocksNeverOverflow monitor plan whole =
    (clients : List Client) (timed : ℕ → ℕ → Bool) (before next : Moment) (thread : ℕ)
    (frame : Frame)
    → FitsScripts monitor clients → PassShort clients
    → Leads (printed_program monitor plan clients timed) before
    → (move : RunsBody (printed_program monitor plan clients timed) thread frame before next)
    → slice_get whole move.block ≡ Some true → move.reply ≡ replies.Overflow → ⊥

-- each block of the method is printed whole
abbrev pub AllAreWhole : MonitorParts → List Bool → ℕ → Type 0
AllAreWhole monitor whole method =
    (number : ℕ) → first_in (slice_get monitor.methods method) ≤ number
    → number < first_in (slice_get monitor.methods method)
    + count_in (slice_get monitor.methods method)
    → slice_get whole number ≡ Some true

-- So no call of a method has an overflow for its answer all of whose blocks are printed whole: its
-- printed function answers its value itself. This is that law's other part.
abbrev pub WholeCallsNeverOverflow : MonitorParts → Plan → List Bool → Type 0
WholeCallsNeverOverflow monitor plan whole =
    (clients : List Client) (timed : ℕ → ℕ → Bool) (last : Moment) (thread : ℕ) (frame : Frame)
    (rest : List Op) (call : Call)
    → FitsScripts monitor clients → PassShort clients
    → Leads (printed_program monitor plan clients timed) last
    → IsThread last.threads thread frame (At rest)
    → call_of (printed_program monitor plan clients timed) thread frame ≡ Some call
    → AllAreWhole monitor whole call.method → frame.answer ≡ replies.Overflow → ⊥

-- ---- what is promised

-- What is promised of the module that is printed of a monitor under a plan, with these of its
-- blocks whole, beside its text. What depends on the start is promised of the monitor as it is
-- opened with any values with which it may be.
pub record IsAsPromised (tree : MonitorTree) (monitor : MonitorParts) (plan : Plan)
    (whole : List Bool) : Type 0 where
  pub threads : ForEveryChoice monitor (λ opened. ThreadsLoseNone opened plan)
  pub bodies : BodiesStep tree monitor whole
  pub tests : TestsHold tree monitor
  pub shared : TestsAreShared tree monitor
  pub wide : NumbersStayWide tree
  pub starts : ForEveryChoice monitor StartIsShort
  pub moments : ForEveryChoice monitor (λ opened. MomentsStayShort opened plan)
  -- the blocks that are whole fit under what the plan keeps
  pub fits : AreWhole monitor plan.kept whole
  pub never : ForEveryChoice monitor (λ opened. WholeBlocksNeverOverflow opened plan whole)
  pub calls : ForEveryChoice monitor (λ opened. WholeCallsNeverOverflow opened plan whole)
