-- A shared monitor may be used by many threads at once, and a pass may go from one to another.
use denote.Param.Send.{IsSend, IsSync, sendable}
use Rattle.std.proofs.Crossing.{crosses, send}
use Rattle.atomic_table.proofs.shared.Seat.TheSendSync.{the_send as seat_send}
use Rattle.atomic_table.proofs.shared.Shared.TheSendSync.{the_sync as table_sync}
use Rattle.atomic_table.proofs.send_lease.SendLease.TheSendSync.{the_sync as lease_sync}
use Rattle.machine_explicit.proofs.Crossing.{free_send}
use Rattle.threads_lock.specs.contracts.lent.Lent as lent
use Rattle.threads_lock.specs.contracts.lent.Returned as returned
use Rattle.threads_lock.specs.contracts.loan.Berth as berth
use Rattle.threads_lock.specs.contracts.loan.Loan as loan
use Rattle.threads_lock.specs.contracts.loan.Repaid as repaid
use Rattle.threads_lock.specs.contracts.pass.Pass as pass
use Rattle.threads_lock.specs.contracts.shared.SharedMonitor as shared

lent_send : IsSend lent.the_field.row
lent_send = let a = free_send in search (seat_send, crosses, sendable) depth 60 fits 20000

returned_send : IsSend returned.the_field.row
returned_send = let a = free_send in search (seat_send, crosses, sendable) depth 60 fits 20000

pub shared_sync : IsSync shared.the_field.row
shared_sync = let a = free_send in let b = lent_send in let c = returned_send in search (table_sync, lease_sync, crosses, send, sendable) depth 60 fits 20000

pub pass_send : IsSend pass.the_field.row
pass_send = let a = free_send in search (seat_send, crosses, sendable) depth 60 fits 20000

loan_send : IsSend loan.the_field.row
loan_send = let a = free_send in search (seat_send, crosses, sendable) depth 60 fits 20000

repaid_send : IsSend repaid.the_field.row
repaid_send = let a = free_send in search (seat_send, crosses, sendable) depth 60 fits 20000

pub berth_sync : IsSync berth.the_field.row
berth_sync = let a = free_send in let b = loan_send in let c = repaid_send in search (table_sync, lease_sync, crosses, send, sendable) depth 60 fits 20000
