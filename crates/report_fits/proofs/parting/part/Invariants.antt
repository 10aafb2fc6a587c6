use Rattle.std.proofs.Common.{ℕ, ◌<◌}
use Rattle.report_fits.specs.FitParts.{HasFitAt}
use Rattle.report_fits.proofs.parting.part.Given as goal

abbrev pub invariant-loop-place : goal.invariant-loop-place
invariant-loop-place l = (before : ℕ) → before < l.place → HasFitAt l.bytes before → ⊥
