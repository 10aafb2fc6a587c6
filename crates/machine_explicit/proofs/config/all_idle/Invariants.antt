use Rattle.std.proofs.Common.{◌≡◌, map, take}
use Rattle.machine_implicit.specs.Runs.{first_places}
use Rattle.machine_explicit.specs.inner.Positions.{idle_position}
use Rattle.machine_explicit.proofs.config.all_idle.Given as goal

abbrev pub invariant-loop-client : goal.invariant-loop-client
invariant-loop-client l = l.positions.items ≡ map idle_position (first_places l.monitor l.clients 0 (take l.client l.clients))
