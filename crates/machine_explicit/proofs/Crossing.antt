-- A monitor that runs by sections may go from one thread to another.
use denote.Param.Send.{IsSend, sendable}
use Rattle.std.proofs.Crossing.{crosses}
use Rattle.circular_buffer.proofs.Crosses.{Cells-send, Deed-send}
use Rattle.logic_linear.proofs.formula.Formula.TheLaws.TheKnot.{crosses as formula_crosses}
use Rattle.lang_monitor.proofs.monitor.Stmt.TheLaws.TheKnot.{crosses as statement_crosses}
use Rattle.machine_explicit.specs.contracts.config.Config as config
use Rattle.machine_explicit.specs.contracts.rings.Rings as rings
use Rattle.machine_explicit.specs.contracts.free.FreeMonitor as free

config_send : IsSend config.the_field.row
config_send = search (crosses, formula_crosses, statement_crosses, sendable) depth 60 fits 20000

rings_send : IsSend rings.the_field.row
rings_send = search (sendable, crosses, Cells-send, Deed-send) depth 40

-- for every owner of such a monitor that threads share: a search from the fields of what it runs
-- ends at its limits, and one from here is short
pub free_send : IsSend free.the_field.row
free_send = let a = config_send in let b = rings_send in search (crosses, sendable) depth 60 fits 20000
