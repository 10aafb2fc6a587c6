-- Workers may share a shop, and a worker may go from one thread to another.
use denote.Param.Send.{IsSend, IsSync, sendable}
use Rattle.std.proofs.Crossing.{crosses, send}
use Rattle.atomic_table.proofs.shared.Seat.TheSendSync.{the_send as seat_send}
use Rattle.atomic_table.proofs.shared.Shared.TheSendSync.{the_sync as table_sync}
use Rattle.atomic_table.proofs.send_lease.SendLease.TheSendSync.{the_sync as lease_sync}
use Rattle.threads_lock.proofs.Crossing.{pass_send, shared_sync}
use Rattle.threads_pool.specs.contracts.shop.Shop as shop
use Rattle.threads_pool.specs.contracts.worker.Worker as worker

pub worker_send : IsSend worker.the_field.row
worker_send = let a = pass_send in search (seat_send, crosses, sendable) depth 60 fits 20000

pub shop_sync : IsSync shop.the_field.row
shop_sync = let a = shared_sync in search (table_sync, lease_sync, crosses, send, sendable) depth 60 fits 20000
