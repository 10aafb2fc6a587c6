use Rattle.std.proofs.Common.{ap, sym}
use Rattle.lang_base.specs.SourceFaults.{least}
use Rattle.lang_script.specs.Faults.{items_in}
use Rattle.lang_script.proofs.OverCalls.{no_over, one_over}
use Rattle.lang_script.proofs.counting.over_calls.Goals as goal

pub returns-in-Ok : goal.returns-in-Ok
returns-in-Ok c = ap least (sym (no_over 0 (items_in c.args.clients.now) _ c.in-Ok.ensures))

pub returns-in-Err : goal.returns-in-Err
returns-in-Err c = ap least (sym (one_over 0 (items_in c.args.clients.now) _ c.in-Err.ensures))
