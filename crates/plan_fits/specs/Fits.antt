-- Blocks that keep 64 bits.
use Rattle.std.specs.Prelude.{◌≡◌, ℕ, true, List, All}
use Rattle.lang_base.specs.declared.value.Value.{Value}
use Rattle.lang_monitor.specs.declared.candidate.Candidate.{Candidate}
use Rattle.lang_monitor.specs.declared.monitor.Block.{Block}
use Rattle.lang_monitor.specs.MonitorParts.{MonitorParts}
use Rattle.lang_monitor.specs.Bodies.{Inputs, Overflows, fits_64}
use Rattle.machine_events.specs.Running.{MayRun}

-- each number is within 64 bits
abbrev pub AreIn64 : List Value → Type 0
AreIn64 values = All (λ value. fits_64 value ≡ true) values

-- The block of this number may run in the state, at the inputs, as the kept candidates and its
-- guard allow, and all numbers there are within 64 bits.
pub record MayRunIn64 (monitor : MonitorParts) (kept : List Candidate) (number : ℕ) (block : Block)
    (inputs : Inputs) (state : List Value) : Type 0 where
  pub runs : MayRun monitor kept number block inputs state
  pub state_fits : AreIn64 state
  pub arguments_fit : AreIn64 inputs.arguments
  pub locals_fit : AreIn64 inputs.locals

-- Wherever the block may so run, each number that it stores in a field or a local on the way, and
-- its answer, is within 64 bits. Nothing is said of the sums that are made for these. What is kept
-- need not be inductive: it only says where the block may run.
abbrev pub Fits64 : MonitorParts → List Candidate → ℕ → Type 0
Fits64 monitor kept number =
    (block : Block) (inputs : Inputs) (state : List Value)
    → MayRunIn64 monitor kept number block inputs state → Overflows inputs block state → ⊥

-- where the block may so run and yet leaves 64 bits
pub record OverflowsAt (monitor : MonitorParts) (kept : List Candidate) (number : ℕ) : Type 0 where
  pub block : Block
  pub inputs : Inputs
  pub state : List Value
  pub runs : MayRunIn64 monitor kept number block inputs state
  pub overflows : Overflows inputs block state
