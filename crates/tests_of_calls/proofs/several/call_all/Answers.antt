use denote.Param.Send.{IsSync, sendable}
use Rattle.std.proofs.Crossing.{crosses}
use Rattle.threads_lock.proofs.Crossing.{berth_sync, pass_send, shared_sync}
use Rattle.tests_of_calls.specs.contracts.several.Hall as hall
use Rattle.tests_of_calls.proofs.several.call_all.Goals as goal

hall_sync : IsSync hall.the_field.row
hall_sync = let a = shared_sync in let b = berth_sync in search (crosses, sendable) depth 60 fits 20000

pub for_each_mut-requires-send-T : goal.for_each_mut-requires-send-T
for_each_mut-requires-send-T g c κs within = let a = pass_send in search (crosses, sendable) depth 60 fits 20000

pub for_each_mut-requires-sync-F : goal.for_each_mut-requires-sync-F
for_each_mut-requires-sync-F g c κs within =
    let a = hall_sync in
    let b = c.type_bounds.sync-R.shared in
    search (crosses, sendable) depth 60 fits 20000
