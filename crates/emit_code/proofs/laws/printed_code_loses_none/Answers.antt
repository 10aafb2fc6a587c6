use Rattle.emit_code.proofs.Printed.{printed_loses_none}
use Rattle.emit_code.proofs.laws.printed_code_loses_none.Goals as goal

pub returns : goal.returns
returns c = printed_loses_none
