use Rattle.report_fits.proofs.FitLines.{IsWalking}
use Rattle.report_fits.proofs.reading.read_fits.Given as goal

abbrev pub invariant-loop-block : goal.invariant-loop-block
invariant-loop-block l = IsWalking l.monitor l.bytes l.block l.fits.items l.rest
