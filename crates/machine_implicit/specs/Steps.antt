-- The implicit step of a block.
use Rattle.std.specs.Prelude.{◌≡◌, ◌⊎◌, ◌-◌, ℕ, Bool, true, false, List, Option, Some, None}
use Rattle.std.specs.Prelude.{IsSomeAnd, map, slice_get}
use Rattle.logic_linear.specs.Truth.{truth_of}
use Rattle.lang_base.specs.declared.value.Value.{Value}
use Rattle.lang_base.specs.declared.value.Value.TheVariants as values
use Rattle.lang_monitor.specs.declared.monitor.Block.{Block}
use Rattle.lang_monitor.specs.declared.monitor.Condition.{Condition}
pub use Rattle.lang_monitor.specs.MonitorParts.{kinds_in, locals_in, kind_of, start_of}
use Rattle.lang_monitor.specs.MonitorParts.{MonitorParts, AreOfKinds, kinds_of}
use Rattle.lang_monitor.specs.Bodies.{Inputs, no_inputs, Memory, memory_of, valuation, after}
use Rattle.lang_monitor.specs.Bodies.{Overflows, block_result}
use Rattle.machine_implicit.specs.declared.commit.Reply.{Reply}
use Rattle.machine_implicit.specs.declared.commit.Reply.TheVariants as replies

-- the arguments and the locals of a call
abbrev pub given : List Value → List Value → Inputs
given arguments locals = record { arguments = arguments; locals = locals }

-- the state and the locals that statements change
abbrev pub held : List Value → List Value → Memory
held state locals = record { state = state; locals = locals }

-- the values have the kinds that they had
pub record SameKinds (before now : Memory) : Type 0 where
  pub state : map kind_of now.state ≡ map kind_of before.state
  pub locals : map kind_of now.locals ≡ map kind_of before.locals

-- the state gives each field a value of its kind
abbrev pub FitsState : MonitorParts → List Value → Type 0
FitsState monitor state = AreOfKinds (kinds_of monitor.fields) state

-- the arguments are of the kinds of the method's parameters
abbrev pub FitsArguments : MonitorParts → ℕ → List Value → Type 0
FitsArguments monitor method arguments =
    AreOfKinds (kinds_in (slice_get monitor.methods method)) arguments

-- the values are of the kinds of the method's locals
abbrev pub FitsLocals : MonitorParts → ℕ → List Value → Type 0
FitsLocals monitor method locals =
    AreOfKinds (map kind_of (locals_in (slice_get monitor.methods method))) locals

-- the inputs of a call of the method
pub record FitsInputs (monitor : MonitorParts) (method : ℕ) (inputs : Inputs) : Type 0 where
  pub arguments : FitsArguments monitor method inputs.arguments
  pub locals : FitsLocals monitor method inputs.locals

-- there is a block of this number, and the inputs are those of a call of its method
abbrev pub FitsBlock : MonitorParts → ℕ → Inputs → Type 0
FitsBlock monitor block inputs =
    IsSomeAnd (slice_get monitor.blocks block) (λ which. FitsInputs monitor which.method inputs)

abbrev pub block_truth : List Value → Inputs → Option Block → Bool
block_truth state inputs None = false
block_truth state inputs (Some block) = truth_of (valuation state inputs) block.guard

-- the truth of the guard of a block, by its number, at these inputs
abbrev pub guard_truth : MonitorParts → List Value → ℕ → Inputs → Bool
guard_truth monitor state block inputs = block_truth state inputs (slice_get monitor.blocks block)

abbrev pub condition_guard_truth : List Value → Option Condition → Bool
condition_guard_truth state None = false
condition_guard_truth state (Some condition) = truth_of (valuation state no_inputs) condition.guard

-- the truth of the guard of a condition, by its number from 1, in a state, where the guard reads no
-- inputs
abbrev pub condition_truth : MonitorParts → List Value → ℕ → Bool
condition_truth monitor state condition =
    condition_guard_truth state (slice_get monitor.conditions (condition - 1))

-- there is such a condition, and it reads no inputs
abbrev pub ReadsNoInputs : Option Condition → Type 0
ReadsNoInputs condition = IsSomeAnd condition (λ which. which.reads_inputs ≡ false)

-- a result as it is replied
abbrev pub reply_of : Option Value → Reply
reply_of None = replies.Unit
reply_of (Some (values.Int number)) = replies.Int number
reply_of (Some (values.Bool truth)) = replies.Bool truth

-- The body runs whole and the reply is the result after it, or a value overflows, and the state and
-- the locals stay. The guard isn't asked here.
abbrev pub BlockSteps : Block → Inputs → List Value → Reply → Memory → Type 0
BlockSteps block inputs state reply next =
    ((Overflows inputs block state → ⊥) × (reply ≡ reply_of (block_result inputs block state))
    × (next ≡ after inputs block.body state))
    ⊎ (Overflows inputs block state × (reply ≡ replies.Overflow) × (next ≡ memory_of state inputs))

-- a step of a block, by its number, at these inputs, from a state in which its guard is true, to a
-- state and locals
pub record IsBlockStep (monitor : MonitorParts) (block : ℕ) (inputs : Inputs) (state : List Value)
    (reply : Reply) (next : Memory) : Type 0 where
  pub guard : guard_truth monitor state block inputs ≡ true
  pub runs : IsSomeAnd (slice_get monitor.blocks block)
      (λ which. BlockSteps which inputs state reply next)
