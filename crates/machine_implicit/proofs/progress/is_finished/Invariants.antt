use Rattle.std.proofs.Common.{◌<◌, ℕ}
use Rattle.machine_implicit.specs.inner.Progress.{HasNoCall}
use Rattle.machine_implicit.proofs.progress.is_finished.Given as goal

abbrev pub invariant-loop-client : goal.invariant-loop-client
invariant-loop-client l = (client : ℕ) → client < l.client → HasNoCall l.clients l.run client
