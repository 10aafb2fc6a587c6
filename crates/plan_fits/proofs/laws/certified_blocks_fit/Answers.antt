use Rattle.plan_fits.specs.Outside.{outside_question}
use Rattle.plan_fits.proofs.Exactness.{never_fits}
use Rattle.plan_fits.proofs.laws.certified_blocks_fit.Goals as goal

pub returns : goal.returns
returns c = λ monitor kept number cert refutes. never_fits monitor kept number (λ v. c.refuted_formula_is_false.ensures (outside_question monitor kept number) cert v refutes)
