-- Threads may share a hall, and a client's calls may go from one thread to another.
use denote.Param.Send.{IsSend, IsSync, sendable}
use Rattle.std.proofs.Crossing.{crosses}
use Rattle.threads_lock.proofs.Crossing.{berth_sync, pass_send, shared_sync}
use Rattle.threads_call.specs.contracts.crew.Calling as calling
use Rattle.threads_call.specs.contracts.hall.Hall as hall

pub calling_send : IsSend calling.the_field.row
calling_send = let a = pass_send in search (crosses, sendable) depth 60 fits 20000

pub hall_sync : IsSync hall.the_field.row
hall_sync = let a = shared_sync in let b = berth_sync in search (crosses, sendable) depth 60 fits 20000
