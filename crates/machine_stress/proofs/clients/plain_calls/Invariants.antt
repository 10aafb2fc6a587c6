use Rattle.std.proofs.Common.{◌≡◌, replicate}
use Rattle.machine_stress.specs.LargeInput.{plain_call}
use Rattle.machine_stress.proofs.clients.plain_calls.Given as goal

abbrev pub invariant-loop-call : goal.invariant-loop-call
invariant-loop-call l = l.calls.items ≡ replicate l._call (plain_call l.method)
