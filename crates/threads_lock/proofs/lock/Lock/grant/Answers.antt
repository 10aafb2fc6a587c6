use Rattle.std.proofs.Common.{subst}
use Rattle.threads_lock.specs.inner.Lending.{MayWish}
use Rattle.threads_lock.proofs.Calling.{holding_has}
use Rattle.threads_lock.proofs.Waiters.{look_told, section_told, stand_told, still_turn}
use Rattle.threads_lock.proofs.lock.Lock.grant.Goals as goal

pub make-requires-clause-client : goal.make-requires-clause-client
make-requires-clause-client c = subst (λ w. MayWish w c.args.seat.now.me.0.known.front.system) c.in-Section.is c.requires.client

pub stand_now-requires-clause-turn : goal.stand_now-requires-clause-turn
stand_now-requires-clause-turn c = holding_has c.args.ticket c.args.seat.now.me c.requires.turn

pub stand_now-requires-clause-client : goal.stand_now-requires-clause-client
stand_now-requires-clause-client c = subst (λ w. MayWish w c.args.seat.now.me.0.known.front.system) c.in-Standing.is c.requires.client

pub look_now-requires-clause-turn : goal.look_now-requires-clause-turn
look_now-requires-clause-turn c = holding_has c.args.ticket c.args.seat.now.me c.requires.turn

pub returns-in-Section-clause-told : goal.returns-in-Section-clause-told
returns-in-Section-clause-told c = section_told _ _ _ _ _ c.in-Section.is c.make.ensures.made

pub returns-in-Standing-clause-turn : goal.returns-in-Standing-clause-turn
returns-in-Standing-clause-turn c = still_turn _ _ _ c.stand_now.ensures.same c.requires.turn

pub returns-in-Standing-clause-told : goal.returns-in-Standing-clause-told
returns-in-Standing-clause-told c = let s = c.stand_now.ensures in stand_told _ _ _ _ _ c.in-Standing.is s.same s.standing s.entries

pub returns-in-Closed-clause-turn : goal.returns-in-Closed-clause-turn
returns-in-Closed-clause-turn c = still_turn _ _ _ c.look_now.ensures.same c.requires.turn

pub returns-in-Closed-clause-told : goal.returns-in-Closed-clause-told
returns-in-Closed-clause-told c = let l = c.look_now.ensures in look_told _ _ _ _ c.in-Closed.is l.same l.closed l.ends l.entries
