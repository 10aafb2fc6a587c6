-- Where a block leaves 64 bits.
use Rattle.std.specs.Prelude.{◌≡◌, ℕ, true, List, Option, Some, None, slice_get}
use Rattle.lang_base.specs.declared.value.Value.{Value}
use Rattle.logic_linear.specs.Differences.{has_difference_rows}
use Rattle.logic_linear.specs.Truth.{Valuation}
use Rattle.lang_monitor.specs.declared.candidate.Candidate.{Candidate}
use Rattle.lang_monitor.specs.declared.monitor.Block.{Block}
use Rattle.lang_monitor.specs.MonitorParts.{MonitorParts}
use Rattle.lang_monitor.specs.Bodies.{Inputs, Overflows, inputs_from, values_from}
use Rattle.lang_monitor.specs.Triples.{places_of}
use Rattle.logic_solve.specs.declared.valuation.Solution.{Solution}
use Rattle.logic_solve.specs.Solutions.{valuation_of}
use Rattle.plan_fits.specs.Fits.{Fits64, MayRunIn64}
use Rattle.plan_fits.specs.Outside.{outside_question}
use Rattle.plan_fits.specs.Within.{is_asked_within}

-- the values that a valuation gives the fields, and those of the arguments and locals
abbrev pub state_of : MonitorParts → Block → Valuation → List Value
state_of monitor block v = values_from v 0 (places_of monitor block).fields

abbrev pub inputs_of : MonitorParts → Block → Valuation → Inputs
inputs_of monitor block v = inputs_from v (places_of monitor block)

-- with these values the block of this number may run within 64 bits, and leaves them
pub record OverflowsBy (monitor : MonitorParts) (kept : List Candidate) (number : ℕ) (v : Valuation)
    : Type 0 where
  pub block : Block
  pub is : slice_get monitor.blocks number ≡ Some block
  pub runs : MayRunIn64 monitor kept number block (inputs_of monitor block v)
      (state_of monitor block v)
  pub overflows : Overflows (inputs_of monitor block v) block (state_of monitor block v)

-- There are none of a block whose question is made within the limits, of difference rows alone,
-- only where it fits.
abbrev pub IsOverflow : MonitorParts → List Candidate → ℕ → Option Solution → Type 0
IsOverflow monitor kept number (Some solution) =
    OverflowsBy monitor kept number (valuation_of solution)
IsOverflow monitor kept number None =
    is_asked_within monitor kept number ≡ true
    → has_difference_rows (outside_question monitor kept number) ≡ true
    → Fits64 monitor kept number
