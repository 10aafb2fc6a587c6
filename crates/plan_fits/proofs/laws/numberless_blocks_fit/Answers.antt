use Rattle.plan_fits.proofs.NumberlessQuestions.{numberless_decided, numberless_fits}
use Rattle.plan_fits.proofs.laws.numberless_blocks_fit.Goals as goal

pub returns : goal.returns
returns c = λ monitor kept number block is none. (numberless_fits monitor kept number block is none, numberless_decided monitor kept number block is none)
