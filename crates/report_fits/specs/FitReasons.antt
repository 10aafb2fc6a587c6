-- Why blocks may leave 64 bits.
use Rattle.std.specs.Prelude.{◌≡◌, ℕ, List, length, Some, None, slice_get}
use Rattle.lang_monitor.specs.declared.candidate.Candidate.{Candidate}
use Rattle.lang_monitor.specs.MonitorParts.{MonitorParts}
use Rattle.logic_solve.specs.Solutions.{valuation_of}
use Rattle.plan_fits.specs.Answers.{IsFitAnswer}
use Rattle.plan_fits.specs.Fits.{Fits64}
use Rattle.plan_fits.specs.States.{IsOverflow, OverflowsBy}
use Rattle.report_fits.specs.declared.reasons.FitReason.{FitReason}
use Rattle.report_fits.specs.declared.reasons.FitReason.TheVariants as reasons

-- the block fits; or with these values it may run within 64 bits, and leaves them; or no
-- certificate was found that it fits, and no such values
abbrev pub IsFitReason : MonitorParts → List Candidate → ℕ → FitReason → Type 0
IsFitReason monitor kept number reasons.Fits = Fits64 monitor kept number
IsFitReason monitor kept number (reasons.Leaves at) =
    OverflowsBy monitor kept number (valuation_of at)
IsFitReason monitor kept number reasons.Undecided =
    IsFitAnswer monitor kept number None × IsOverflow monitor kept number None

-- one for each block, in order
pub record AreFitReasons (monitor : MonitorParts) (kept : List Candidate)
    (found : List FitReason) : Type 0 where
  pub count : length found ≡ length monitor.blocks
  pub each : (number : ℕ) (reason : FitReason) → slice_get found number ≡ Some reason
      → IsFitReason monitor kept number reason
