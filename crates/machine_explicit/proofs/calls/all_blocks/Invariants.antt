use Rattle.std.proofs.Common.{◌≡◌, ◌≤◌, ◌*◌, length, sum_by, take}
use Rattle.machine_implicit.specs.Scripted.{blocks_in}
use Rattle.machine_explicit.proofs.calls.all_blocks.Given as goal

abbrev pub invariant-loop-client : goal.invariant-loop-client
invariant-loop-client l =
    (l.all ≡ sum_by (λ client. sum_by (blocks_in l.monitor) client.calls) (take l.client-index l.clients))
    × (l.all ≤ 4 * sum_by (λ client. length client.calls) (take l.client-index l.clients))
