use Rattle.threads_lock.specs.declared.lent.Wish.TheVariants as wishes
use Rattle.threads_lock.proofs.Waiters.{drawn_made, drawn_may, lent_client, section_now}
use Rattle.threads_lock.proofs.lock.Lock.visit.Goals as goal

pub make-result-requires-clause-turn : goal.make-result-requires-clause-turn
make-result-requires-clause-turn g c = c.in-Ok.ensures.comes.holding

pub make-result-requires-clause-known : goal.make-result-requires-clause-known
make-result-requires-clause-known g c = c.in-Ok.ensures.comes.known

pub make-result-requires-clause-client : goal.make-result-requires-clause-client
make-result-requires-clause-client g c = lent_client (wishes.Section c.args.client) _ _ c.in-Ok.ensures.comes.looks c.requires.client

pub visit_late-requires-clause-lent : goal.visit_late-requires-clause-lent
visit_late-requires-clause-lent g c = drawn_may (wishes.Section c.args.client) _ c.args.seat.now.me _ c.requires.idle c.requires.live c.requires.known c.requires.client c.in-Err.ensures.comes

pub returns-in-Ok-clause-idle : goal.returns-in-Ok-clause-idle
returns-in-Ok-clause-idle g c =
    let p = c.pass_on.ensures in
    (let m = c.make-result.ensures in section_now _ c.args.client c.args.seat.now.me c.come.new.seat.me c.make-result.new.seat.me c.pass_on.new.seat.me c.make-result.result c.in-Ok.ensures.comes m.parts m.made m.known p.idle p.parts p.known).idle

pub returns-in-Err-clause-idle : goal.returns-in-Err-clause-idle
returns-in-Err-clause-idle g c = (drawn_made _ _ c.args.seat.now.me c.come.new.seat.me c.visit_late.new.seat.me _ c.in-Err.ensures.comes c.visit_late.ensures.made).idle

pub returns-in-Ok-clause-parts : goal.returns-in-Ok-clause-parts
returns-in-Ok-clause-parts g c =
    let p = c.pass_on.ensures in
    (let m = c.make-result.ensures in section_now _ c.args.client c.args.seat.now.me c.come.new.seat.me c.make-result.new.seat.me c.pass_on.new.seat.me c.make-result.result c.in-Ok.ensures.comes m.parts m.made m.known p.idle p.parts p.known).parts

pub returns-in-Err-clause-parts : goal.returns-in-Err-clause-parts
returns-in-Err-clause-parts g c = (drawn_made _ _ c.args.seat.now.me c.come.new.seat.me c.visit_late.new.seat.me _ c.in-Err.ensures.comes c.visit_late.ensures.made).parts

pub returns-in-Ok-clause-made : goal.returns-in-Ok-clause-made
returns-in-Ok-clause-made g c =
    let p = c.pass_on.ensures in
    (let m = c.make-result.ensures in section_now _ c.args.client c.args.seat.now.me c.come.new.seat.me c.make-result.new.seat.me c.pass_on.new.seat.me c.make-result.result c.in-Ok.ensures.comes m.parts m.made m.known p.idle p.parts p.known).told

pub returns-in-Err-clause-made : goal.returns-in-Err-clause-made
returns-in-Err-clause-made g c = (drawn_made _ _ c.args.seat.now.me c.come.new.seat.me c.visit_late.new.seat.me _ c.in-Err.ensures.comes c.visit_late.ensures.made).told

pub returns-in-Ok-clause-known : goal.returns-in-Ok-clause-known
returns-in-Ok-clause-known g c =
    let p = c.pass_on.ensures in
    (let m = c.make-result.ensures in section_now _ c.args.client c.args.seat.now.me c.come.new.seat.me c.make-result.new.seat.me c.pass_on.new.seat.me c.make-result.result c.in-Ok.ensures.comes m.parts m.made m.known p.idle p.parts p.known).known

pub returns-in-Err-clause-known : goal.returns-in-Err-clause-known
returns-in-Err-clause-known g c = (drawn_made _ _ c.args.seat.now.me c.come.new.seat.me c.visit_late.new.seat.me _ c.in-Err.ensures.comes c.visit_late.ensures.made).known
