use denote.Param.Send.{sendable}
use Rattle.std.proofs.Crossing.{crosses}
use Rattle.threads_pool.proofs.Crossing.{shop_sync, worker_send}
use Rattle.threads_pool.proofs.pool.work_all.Goals as goal

pub for_each_mut-requires-send-T : goal.for_each_mut-requires-send-T
for_each_mut-requires-send-T g c κs within = let a = worker_send in search (crosses, sendable) depth 60 fits 20000

pub for_each_mut-requires-sync-F : goal.for_each_mut-requires-sync-F
for_each_mut-requires-sync-F g c κs within =
    let a = shop_sync in
    let b = c.type_bounds.sync-R.shared in
    let d = c.type_bounds.sync-G.shared in
    search (crosses, sendable) depth 60 fits 20000
