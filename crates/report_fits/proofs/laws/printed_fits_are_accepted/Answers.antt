use Rattle.report_fits.proofs.Checks.{answers_accepted}
use Rattle.report_fits.proofs.laws.printed_fits_are_accepted.Goals as goal

pub returns : goal.returns
returns c = answers_accepted
