use Rattle.emit_fits.proofs.MomentsIn64.{moments_in_64}
use Rattle.emit_fits.proofs.laws.moments_stay_in_64.Goals as goal

pub returns : goal.returns
returns c = λ program last starts pass run. moments_in_64 program starts pass last run
