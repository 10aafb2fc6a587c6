use Rattle.logic_cert.proofs.SoundnessLemmas.{refuted_is_false}
use Rattle.logic_cert.proofs.laws.refuted_formula_is_false.Goals as goal

pub returns : goal.returns
returns c = refuted_is_false
