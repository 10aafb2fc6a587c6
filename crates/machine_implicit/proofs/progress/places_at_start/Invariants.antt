use Rattle.std.proofs.Common.{◌≡◌, take}
use Rattle.machine_implicit.specs.Runs.{first_places}
use Rattle.machine_implicit.proofs.progress.places_at_start.Given as goal

abbrev pub invariant-loop-client : goal.invariant-loop-client
invariant-loop-client l = l.places.items ≡ first_places l.monitor l.clients 0 (take l.client l.clients)
