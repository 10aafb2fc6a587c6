use Rattle.threads_lock.specs.declared.lent.Wish.TheVariants as wishes
use Rattle.threads_lock.proofs.Calling.{holding_has}
use Rattle.threads_lock.proofs.Waiters.{drawn_made, drawn_may, lent_client, stand_now_made, still_turn}
use Rattle.threads_lock.proofs.lock.Lock.stand.Goals as goal

pub stand_now-stand-requires-clause-turn : goal.stand_now-stand-requires-clause-turn
stand_now-stand-requires-clause-turn g c = holding_has c.in-Ok.ticket c.come.new.seat.me c.in-Ok.ensures.comes.holding

pub stand_now-stand-requires-clause-client : goal.stand_now-stand-requires-clause-client
stand_now-stand-requires-clause-client g c = lent_client (wishes.Standing c.args.client) _ _ c.in-Ok.ensures.comes.looks c.requires.client

pub pass_on-requires-clause-turn : goal.pass_on-requires-clause-turn
pass_on-requires-clause-turn g c = still_turn _ _ _ c.stand_now-stand.ensures.same c.in-Ok.ensures.comes.holding

pub stand_late-requires-clause-lent : goal.stand_late-requires-clause-lent
stand_late-requires-clause-lent g c = drawn_may (wishes.Standing c.args.client) _ c.args.seat.now.me _ c.requires.idle c.requires.live c.requires.known c.requires.client c.in-Err.ensures.comes

pub returns-in-Ok-clause-idle : goal.returns-in-Ok-clause-idle
returns-in-Ok-clause-idle g c =
    let p = c.pass_on.ensures in
    (let s = c.stand_now-stand.ensures in stand_now_made _ c.args.client c.args.seat.now.me c.come.new.seat.me c.stand_now-stand.new.seat.me c.pass_on.new.seat.me c.stand_now-stand.result c.in-Ok.ensures.comes s.same s.standing s.entries p.idle p.parts p.known).idle

pub returns-in-Err-clause-idle : goal.returns-in-Err-clause-idle
returns-in-Err-clause-idle g c = (drawn_made _ _ c.args.seat.now.me c.come.new.seat.me c.stand_late.new.seat.me _ c.in-Err.ensures.comes c.stand_late.ensures.made).idle

pub returns-in-Ok-clause-parts : goal.returns-in-Ok-clause-parts
returns-in-Ok-clause-parts g c =
    let p = c.pass_on.ensures in
    (let s = c.stand_now-stand.ensures in stand_now_made _ c.args.client c.args.seat.now.me c.come.new.seat.me c.stand_now-stand.new.seat.me c.pass_on.new.seat.me c.stand_now-stand.result c.in-Ok.ensures.comes s.same s.standing s.entries p.idle p.parts p.known).parts

pub returns-in-Err-clause-parts : goal.returns-in-Err-clause-parts
returns-in-Err-clause-parts g c = (drawn_made _ _ c.args.seat.now.me c.come.new.seat.me c.stand_late.new.seat.me _ c.in-Err.ensures.comes c.stand_late.ensures.made).parts

pub returns-in-Ok-clause-looks : goal.returns-in-Ok-clause-looks
returns-in-Ok-clause-looks g c =
    let p = c.pass_on.ensures in
    (let s = c.stand_now-stand.ensures in stand_now_made _ c.args.client c.args.seat.now.me c.come.new.seat.me c.stand_now-stand.new.seat.me c.pass_on.new.seat.me c.stand_now-stand.result c.in-Ok.ensures.comes s.same s.standing s.entries p.idle p.parts p.known).told.looks

pub returns-in-Err-clause-looks : goal.returns-in-Err-clause-looks
returns-in-Err-clause-looks g c = (drawn_made _ _ c.args.seat.now.me c.come.new.seat.me c.stand_late.new.seat.me _ c.in-Err.ensures.comes c.stand_late.ensures.made).told.looks

pub returns-in-Ok-clause-standing : goal.returns-in-Ok-clause-standing
returns-in-Ok-clause-standing g c =
    let p = c.pass_on.ensures in
    (let s = c.stand_now-stand.ensures in stand_now_made _ c.args.client c.args.seat.now.me c.come.new.seat.me c.stand_now-stand.new.seat.me c.pass_on.new.seat.me c.stand_now-stand.result c.in-Ok.ensures.comes s.same s.standing s.entries p.idle p.parts p.known).told.standing

pub returns-in-Err-clause-standing : goal.returns-in-Err-clause-standing
returns-in-Err-clause-standing g c = (drawn_made _ _ c.args.seat.now.me c.come.new.seat.me c.stand_late.new.seat.me _ c.in-Err.ensures.comes c.stand_late.ensures.made).told.standing

pub returns-in-Ok-clause-entries : goal.returns-in-Ok-clause-entries
returns-in-Ok-clause-entries g c =
    let p = c.pass_on.ensures in
    (let s = c.stand_now-stand.ensures in stand_now_made _ c.args.client c.args.seat.now.me c.come.new.seat.me c.stand_now-stand.new.seat.me c.pass_on.new.seat.me c.stand_now-stand.result c.in-Ok.ensures.comes s.same s.standing s.entries p.idle p.parts p.known).told.entries

pub returns-in-Err-clause-entries : goal.returns-in-Err-clause-entries
returns-in-Err-clause-entries g c = (drawn_made _ _ c.args.seat.now.me c.come.new.seat.me c.stand_late.new.seat.me _ c.in-Err.ensures.comes c.stand_late.ensures.made).told.entries

pub returns-in-Ok-clause-known : goal.returns-in-Ok-clause-known
returns-in-Ok-clause-known g c =
    let p = c.pass_on.ensures in
    (let s = c.stand_now-stand.ensures in stand_now_made _ c.args.client c.args.seat.now.me c.come.new.seat.me c.stand_now-stand.new.seat.me c.pass_on.new.seat.me c.stand_now-stand.result c.in-Ok.ensures.comes s.same s.standing s.entries p.idle p.parts p.known).known

pub returns-in-Err-clause-known : goal.returns-in-Err-clause-known
returns-in-Err-clause-known g c = (drawn_made _ _ c.args.seat.now.me c.come.new.seat.me c.stand_late.new.seat.me _ c.in-Err.ensures.comes c.stand_late.ensures.made).known
