use Rattle.logic_wp.proofs.CandidateBounds.{candidates_fine}
use Rattle.logic_wp.proofs.laws.candidates_are_expressible.Goals as goal

pub returns : goal.returns
returns c = candidates_fine
