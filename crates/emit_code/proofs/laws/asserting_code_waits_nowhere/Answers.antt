use Rattle.emit_code.proofs.Asserting.{asserting_code_waits_nowhere}
use Rattle.emit_code.proofs.laws.asserting_code_waits_nowhere.Goals as goal

pub returns : goal.returns
returns c = asserting_code_waits_nowhere
