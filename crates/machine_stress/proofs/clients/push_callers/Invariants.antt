use Rattle.std.proofs.Common.{◌≡◌, ◌++◌}
use Rattle.machine_stress.specs.LargeInput.{callers}
use Rattle.machine_stress.proofs.clients.push_callers.Given as goal

abbrev pub invariant-loop-number : goal.invariant-loop-number
invariant-loop-number l = l.clients.items ≡ l.initial.clients.items ++ callers l.letter l.method l.calls l.number
