use Rattle.lang_types.proofs.PlainRunsKept.{bodies_keep}
use Rattle.lang_types.proofs.laws.bodies_keep_meaning.Goals as goal

pub returns : goal.returns
returns c = bodies_keep
