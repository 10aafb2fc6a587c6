use Rattle.plan_fits.proofs.Exactness.{fits_never, never_fits}
use Rattle.plan_fits.proofs.laws.questions_are_exact.Goals as goal

pub returns : goal.returns
returns c = λ monitor kept number rule some. (fits_never monitor kept number rule some, never_fits monitor kept number)
