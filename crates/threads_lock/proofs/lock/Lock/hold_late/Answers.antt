use Rattle.threads_lock.proofs.Waiters.{lent_client, lent_here, now_made}
use Rattle.threads_lock.proofs.lock.Lock.hold_late.Goals as goal

pub wait-requires-clause-waits : goal.wait-requires-clause-waits
wait-requires-clause-waits g c = c.requires.lent.waits

pub wait-requires-clause-live : goal.wait-requires-clause-live
wait-requires-clause-live g c = c.requires.lent.live

pub grant-answer-requires-clause-turn : goal.grant-answer-requires-clause-turn
grant-answer-requires-clause-turn g c = (lent_here _ _ _ _ c.requires.lent c.wait.ensures.turn).holding

pub grant-answer-requires-clause-known : goal.grant-answer-requires-clause-known
grant-answer-requires-clause-known g c = (lent_here _ _ _ _ c.requires.lent c.wait.ensures.turn).known

pub grant-answer-requires-clause-client : goal.grant-answer-requires-clause-client
grant-answer-requires-clause-client g c = lent_client _ _ _ (lent_here _ _ _ _ c.requires.lent c.wait.ensures.turn).looks c.requires.lent.client_is

pub returns-clause-made : goal.returns-clause-made
returns-clause-made g c =
    let h = lent_here _ _ _ _ c.requires.lent c.wait.ensures.turn in
    let a = c.grant-answer.ensures in
    let p = c.pass_on.ensures in
    now_made c.args.wish _ c.args.seat.now.me c.wait.new.seat.me c.grant-answer.new.seat.me c.pass_on.new.seat.me c.grant-answer.result h a.parts (a.told _ h.looks) a.known p.idle p.parts p.known
