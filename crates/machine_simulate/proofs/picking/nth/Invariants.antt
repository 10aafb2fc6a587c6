use Rattle.std.proofs.Common.{◌≡◌, length, slice_get}
use Rattle.machine_simulate.specs.inner.Turns.{is_one, those}
use Rattle.machine_simulate.proofs.Choosing.{from_on}
use Rattle.machine_simulate.proofs.picking.nth.Given as goal

abbrev pub invariant-loop-client : goal.invariant-loop-client
invariant-loop-client l = slice_get (from_on (is_one l.who l.free) l.client (length l.free.system.clients)) l.before ≡ slice_get (those l.who l.free) l.position
