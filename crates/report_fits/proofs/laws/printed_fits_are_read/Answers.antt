use Rattle.report_fits.specs.FitTexts.{certified}
use Rattle.report_fits.proofs.FitLines.{certified_readable, read_again}
use Rattle.report_fits.proofs.laws.printed_fits_are_read.Goals as goal

pub returns : goal.returns
returns c monitor answers read many each told = read_again monitor (certified answers) read (certified_readable monitor answers many each) told
