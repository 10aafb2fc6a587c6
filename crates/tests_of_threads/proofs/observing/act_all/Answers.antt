use denote.Param.Send.{IsSync, sendable}
use Rattle.std.proofs.Crossing.{crosses}
use Rattle.threads_lock.proofs.Crossing.{pass_send, shared_sync}
use Rattle.tests_of_threads.specs.contracts.observing.Watch as watch
use Rattle.tests_of_threads.proofs.observing.act_all.Goals as goal

watch_sync : IsSync watch.the_field.row
watch_sync = let a = shared_sync in search (crosses, sendable) depth 60 fits 20000

pub for_each_mut-requires-send-T : goal.for_each_mut-requires-send-T
for_each_mut-requires-send-T g c κs within = let a = pass_send in search (crosses, sendable) depth 60 fits 20000

pub for_each_mut-requires-sync-F : goal.for_each_mut-requires-sync-F
for_each_mut-requires-sync-F g c κs within =
    let a = watch_sync in
    let b = c.type_bounds.sync-R.shared in
    search (crosses, sendable) depth 60 fits 20000
