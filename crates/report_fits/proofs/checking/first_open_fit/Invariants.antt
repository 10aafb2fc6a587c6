use Rattle.std.proofs.Common.{take}
use Rattle.std.specs.Prelude.{All}
use Rattle.report_fits.specs.FitVerdicts.{IsFit}
use Rattle.report_fits.proofs.checking.first_open_fit.Given as goal

abbrev pub invariant-loop-place : goal.invariant-loop-place
invariant-loop-place l = All (IsFit l.monitor l.kept) (take l.place l.fits)
