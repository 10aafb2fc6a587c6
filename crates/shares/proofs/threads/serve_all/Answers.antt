use denote.Param.Send.{IsSync, sendable}
use Rattle.std.proofs.Crossing.{crosses}
use Rattle.threads_lock.proofs.Crossing.{berth_sync, pass_send, shared_sync}
use Rattle.shares.specs.contracts.threads.Shop as shop
use Rattle.shares.proofs.threads.serve_all.Goals as goal

shop_sync : IsSync shop.the_field.row
shop_sync = let a = shared_sync in let b = berth_sync in search (crosses, sendable) depth 60 fits 20000

pub for_each_mut-requires-send-T : goal.for_each_mut-requires-send-T
for_each_mut-requires-send-T g c κs within = let a = pass_send in search (crosses, sendable) depth 60 fits 20000

pub for_each_mut-requires-sync-F : goal.for_each_mut-requires-sync-F
for_each_mut-requires-sync-F g c κs within =
    let a = shop_sync in
    let b = c.type_bounds.sync-R.shared in
    search (crosses, sendable) depth 60 fits 20000
