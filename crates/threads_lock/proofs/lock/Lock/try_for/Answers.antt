use Rattle.threads_lock.proofs.Waiters.{lent_client, lent_made, lent_turn, lent_waits}
use Rattle.threads_lock.proofs.lock.Lock.try_for.Goals as goal

pub call-distance-requires-clause-waits : goal.call-distance-requires-clause-waits
call-distance-requires-clause-waits c = c.requires.lent.waits

pub call-distance-requires-clause-live : goal.call-distance-requires-clause-live
call-distance-requires-clause-live c = c.requires.lent.live

pub returns-then-distance-ne0-clause-comes : goal.returns-then-distance-ne0-clause-comes
returns-then-distance-ne0-clause-comes c = lent_waits _ _ _ _ c.call-distance.ensures.turn c.if-distance-ne0.true

pub finish-requires-clause-turn : goal.finish-requires-clause-turn
finish-requires-clause-turn c = (lent_turn _ _ _ _ _ c.requires.lent c.call-distance.ensures.turn c.if-distance-ne0.false).holding

pub finish-requires-clause-known : goal.finish-requires-clause-known
finish-requires-clause-known c = (lent_turn _ _ _ _ _ c.requires.lent c.call-distance.ensures.turn c.if-distance-ne0.false).known

pub finish-requires-clause-client : goal.finish-requires-clause-client
finish-requires-clause-client c = lent_client _ _ _ (lent_turn _ _ _ _ _ c.requires.lent c.call-distance.ensures.turn c.if-distance-ne0.false).looks c.requires.lent.client_is

pub returns-clause-comes : goal.returns-clause-comes
returns-clause-comes c =
    let h = c.finish.ensures in
    lent_made _ _ _ _ _ _ (lent_turn _ _ _ _ _ c.requires.lent c.call-distance.ensures.turn c.if-distance-ne0.false) h.idle h.parts h.told h.known
