-- A block that may run.
use Rattle.std.specs.Prelude.{◌≡◌, ℕ, true, List, Some, slice_get}
use Rattle.logic_linear.specs.Truth.{truth_of}
use Rattle.lang_base.specs.declared.value.Value.{Value}
use Rattle.lang_monitor.specs.declared.candidate.Candidate.{Candidate}
use Rattle.lang_monitor.specs.declared.monitor.Block.{Block}
use Rattle.lang_monitor.specs.MonitorParts.{MonitorParts, IsMonitor}
use Rattle.lang_monitor.specs.Bodies.{Inputs, valuation}
use Rattle.lang_monitor.specs.Candidates.{AllHold, AreSomeOf, candidates_of}
use Rattle.machine_implicit.specs.Steps.{FitsState, FitsInputs}

-- A block, of this number, may run in a state, at inputs of its own: its guard is true there, and
-- so are the kept candidates.
pub record MayRun (monitor : MonitorParts) (kept : List Candidate) (number : ℕ) (block : Block)
    (inputs : Inputs) (state : List Value) : Type 0 where
  pub rule : IsMonitor monitor
  pub candidates : AreSomeOf kept (candidates_of monitor)
  pub is : slice_get monitor.blocks number ≡ Some block
  pub fits : FitsState monitor state
  pub inputs_fit : FitsInputs monitor block.method inputs
  pub guard : truth_of (valuation state inputs) block.guard ≡ true
  pub kept_hold : AllHold state kept
