use Rattle.std.proofs.Common.{◌≡◌, take, Ok}
use Rattle.lang_script.specs.Faults.{items_in}
use Rattle.lang_script.specs.inner.Counting.{counted}
use Rattle.lang_script.proofs.counting.calls_of_clients.Given as goal

abbrev pub invariant-loop-client : goal.invariant-loop-client
invariant-loop-client l = Ok l.count ≡ counted 0 (items_in (take l.client-index l.clients))
