use Rattle.report_fits.proofs.PartedTexts.{same_parts}
use Rattle.report_fits.proofs.laws.one_parting.Goals as goal

pub returns : goal.returns
returns c = same_parts
