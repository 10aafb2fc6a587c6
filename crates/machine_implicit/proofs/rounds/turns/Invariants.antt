use Rattle.machine_implicit.specs.inner.Progress.{IsProgress, blocks_left}
use Rattle.machine_implicit.proofs.rounds.turns.Given as goal

abbrev pub invariant-loop-client : goal.invariant-loop-client
invariant-loop-client l = IsProgress l.monitor l.clients l.run

abbrev pub decreases-loop-client : goal.decreases-loop-client
decreases-loop-client l = blocks_left l.monitor l.clients l.run
