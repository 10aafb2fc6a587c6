use Rattle.std.proofs.Common.{◌≡◌, ◌+◌, length, take, sum_by}
use Rattle.machine_implicit.proofs.offered.have_few_calls.Given as goal

abbrev pub invariant-loop-client : goal.invariant-loop-client
invariant-loop-client l = l.room + sum_by (λ client. length client.calls) (take l.client-index l.clients) ≡ 16384
