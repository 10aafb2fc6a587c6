use Rattle.threads_lock.specs.declared.lent.Wish.TheVariants as wishes
use Rattle.threads_lock.proofs.Calling.{holding_has}
use Rattle.threads_lock.proofs.Waiters.{drawn_made, drawn_may, look_now_made, still_turn}
use Rattle.threads_lock.proofs.lock.Lock.look.Goals as goal

pub look_now-look-requires-clause-turn : goal.look_now-look-requires-clause-turn
look_now-look-requires-clause-turn g c = holding_has c.in-Ok.ticket c.come.new.seat.me c.in-Ok.ensures.comes.holding

pub pass_on-requires-clause-turn : goal.pass_on-requires-clause-turn
pass_on-requires-clause-turn g c = still_turn _ _ _ c.look_now-look.ensures.same c.in-Ok.ensures.comes.holding

pub look_late-requires-clause-lent : goal.look_late-requires-clause-lent
look_late-requires-clause-lent g c = drawn_may (wishes.Closed) _ c.args.seat.now.me _ c.requires.idle c.requires.live c.requires.known tt c.in-Err.ensures.comes

pub returns-in-Ok-clause-idle : goal.returns-in-Ok-clause-idle
returns-in-Ok-clause-idle g c =
    let p = c.pass_on.ensures in
    (let l = c.look_now-look.ensures in look_now_made _ c.args.seat.now.me c.come.new.seat.me c.look_now-look.new.seat.me c.pass_on.new.seat.me c.look_now-look.result c.in-Ok.ensures.comes l.same l.closed l.ends l.entries p.idle p.parts p.known).idle

pub returns-in-Err-clause-idle : goal.returns-in-Err-clause-idle
returns-in-Err-clause-idle g c = (drawn_made _ _ c.args.seat.now.me c.come.new.seat.me c.look_late.new.seat.me _ c.in-Err.ensures.comes c.look_late.ensures.made).idle

pub returns-in-Ok-clause-parts : goal.returns-in-Ok-clause-parts
returns-in-Ok-clause-parts g c =
    let p = c.pass_on.ensures in
    (let l = c.look_now-look.ensures in look_now_made _ c.args.seat.now.me c.come.new.seat.me c.look_now-look.new.seat.me c.pass_on.new.seat.me c.look_now-look.result c.in-Ok.ensures.comes l.same l.closed l.ends l.entries p.idle p.parts p.known).parts

pub returns-in-Err-clause-parts : goal.returns-in-Err-clause-parts
returns-in-Err-clause-parts g c = (drawn_made _ _ c.args.seat.now.me c.come.new.seat.me c.look_late.new.seat.me _ c.in-Err.ensures.comes c.look_late.ensures.made).parts

pub returns-in-Ok-clause-looks : goal.returns-in-Ok-clause-looks
returns-in-Ok-clause-looks g c =
    let p = c.pass_on.ensures in
    (let l = c.look_now-look.ensures in look_now_made _ c.args.seat.now.me c.come.new.seat.me c.look_now-look.new.seat.me c.pass_on.new.seat.me c.look_now-look.result c.in-Ok.ensures.comes l.same l.closed l.ends l.entries p.idle p.parts p.known).told.looks

pub returns-in-Err-clause-looks : goal.returns-in-Err-clause-looks
returns-in-Err-clause-looks g c = (drawn_made _ _ c.args.seat.now.me c.come.new.seat.me c.look_late.new.seat.me _ c.in-Err.ensures.comes c.look_late.ensures.made).told.looks

pub returns-in-Ok-clause-closed : goal.returns-in-Ok-clause-closed
returns-in-Ok-clause-closed g c =
    let p = c.pass_on.ensures in
    (let l = c.look_now-look.ensures in look_now_made _ c.args.seat.now.me c.come.new.seat.me c.look_now-look.new.seat.me c.pass_on.new.seat.me c.look_now-look.result c.in-Ok.ensures.comes l.same l.closed l.ends l.entries p.idle p.parts p.known).told.closed

pub returns-in-Err-clause-closed : goal.returns-in-Err-clause-closed
returns-in-Err-clause-closed g c = (drawn_made _ _ c.args.seat.now.me c.come.new.seat.me c.look_late.new.seat.me _ c.in-Err.ensures.comes c.look_late.ensures.made).told.closed

pub returns-in-Ok-clause-ends : goal.returns-in-Ok-clause-ends
returns-in-Ok-clause-ends g c =
    let p = c.pass_on.ensures in
    (let l = c.look_now-look.ensures in look_now_made _ c.args.seat.now.me c.come.new.seat.me c.look_now-look.new.seat.me c.pass_on.new.seat.me c.look_now-look.result c.in-Ok.ensures.comes l.same l.closed l.ends l.entries p.idle p.parts p.known).told.ends

pub returns-in-Err-clause-ends : goal.returns-in-Err-clause-ends
returns-in-Err-clause-ends g c = (drawn_made _ _ c.args.seat.now.me c.come.new.seat.me c.look_late.new.seat.me _ c.in-Err.ensures.comes c.look_late.ensures.made).told.ends

pub returns-in-Ok-clause-entries : goal.returns-in-Ok-clause-entries
returns-in-Ok-clause-entries g c =
    let p = c.pass_on.ensures in
    (let l = c.look_now-look.ensures in look_now_made _ c.args.seat.now.me c.come.new.seat.me c.look_now-look.new.seat.me c.pass_on.new.seat.me c.look_now-look.result c.in-Ok.ensures.comes l.same l.closed l.ends l.entries p.idle p.parts p.known).told.entries

pub returns-in-Err-clause-entries : goal.returns-in-Err-clause-entries
returns-in-Err-clause-entries g c = (drawn_made _ _ c.args.seat.now.me c.come.new.seat.me c.look_late.new.seat.me _ c.in-Err.ensures.comes c.look_late.ensures.made).told.entries

pub returns-in-Ok-clause-known : goal.returns-in-Ok-clause-known
returns-in-Ok-clause-known g c =
    let p = c.pass_on.ensures in
    (let l = c.look_now-look.ensures in look_now_made _ c.args.seat.now.me c.come.new.seat.me c.look_now-look.new.seat.me c.pass_on.new.seat.me c.look_now-look.result c.in-Ok.ensures.comes l.same l.closed l.ends l.entries p.idle p.parts p.known).known

pub returns-in-Err-clause-known : goal.returns-in-Err-clause-known
returns-in-Err-clause-known g c = (drawn_made _ _ c.args.seat.now.me c.come.new.seat.me c.look_late.new.seat.me _ c.in-Err.ensures.comes c.look_late.ensures.made).known
