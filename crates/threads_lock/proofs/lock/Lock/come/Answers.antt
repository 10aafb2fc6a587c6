use Rattle.threads_lock.proofs.Waiters.{come_here, come_waits, waiting_live, waiting_ticket}
use Rattle.threads_lock.proofs.lock.Lock.come.Goals as goal

pub call-distance-requires-clause-waits : goal.call-distance-requires-clause-waits
call-distance-requires-clause-waits c = waiting_ticket _ c.args.seat.now.me _ c.draw-ticket.ensures.waits

pub call-distance-requires-clause-live : goal.call-distance-requires-clause-live
call-distance-requires-clause-live c = waiting_live _ c.args.seat.now.me _ c.draw-ticket.ensures.waits c.requires.live

pub returns-then-distance-ne0-clause-comes : goal.returns-then-distance-ne0-clause-comes
returns-then-distance-ne0-clause-comes c = come_waits _ _ c.args.seat.now.me _ _ c.draw-ticket.ensures.waits c.call-distance.ensures.turn c.if-distance-ne0.true

pub returns-clause-comes : goal.returns-clause-comes
returns-clause-comes c = come_here _ _ c.args.seat.now.me _ _ c.requires.idle.1 c.requires.known c.draw-ticket.ensures.waits c.call-distance.ensures.turn c.if-distance-ne0.false
