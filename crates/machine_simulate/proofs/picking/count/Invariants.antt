use Rattle.std.proofs.Common.{◌≡◌, ◌+◌, ◌≤◌, length}
use Rattle.machine_simulate.specs.inner.Turns.{is_one, those}
use Rattle.machine_simulate.proofs.Choosing.{from_on}
use Rattle.machine_simulate.proofs.picking.count.Given as goal

abbrev pub invariant-loop-client : goal.invariant-loop-client
invariant-loop-client l = (l.count ≤ l.client) × (l.count + length (from_on (is_one l.who l.free) l.client (length l.free.system.clients)) ≡ length (those l.who l.free))
