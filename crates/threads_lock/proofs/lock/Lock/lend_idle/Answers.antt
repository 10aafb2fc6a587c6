use Rattle.std.proofs.Common.{sym, ◌∙◌}
use Rattle.threads_lock.proofs.Renting.{lent_home, may_lend}
use Rattle.threads_lock.proofs.lock.Lock.lend_idle.Goals as goal

pub lodge-back-requires : goal.lodge-back-requires
lodge-back-requires g c =
    let r = c.requires in record { loan = may_lend _ _ _ _ c.replace-own.ensures.value (r.own ∙ sym r.berth) r.idle r.live r.known r.client }

pub returns-clause-own : goal.returns-clause-own
returns-clause-own g c =
    let r = c.requires in
    (lent_home c.args.berth.now _ _ _ _ _ _ c.replace-own.ensures.value r.idle r.live r.known r.client c.come_home-home.ensures.home c.lodge-back.ensures.back).own

pub returns-clause-idle : goal.returns-clause-idle
returns-clause-idle g c =
    let r = c.requires in
    (lent_home c.args.berth.now _ _ _ _ _ _ c.replace-own.ensures.value r.idle r.live r.known r.client c.come_home-home.ensures.home c.lodge-back.ensures.back).idle

pub returns-clause-parts : goal.returns-clause-parts
returns-clause-parts g c =
    let r = c.requires in
    (lent_home c.args.berth.now _ _ _ _ _ _ c.replace-own.ensures.value r.idle r.live r.known r.client c.come_home-home.ensures.home c.lodge-back.ensures.back).parts

pub returns-clause-lends : goal.returns-clause-lends
returns-clause-lends g c =
    let r = c.requires in
    (lent_home c.args.berth.now _ _ _ _ _ _ c.replace-own.ensures.value r.idle r.live r.known r.client c.come_home-home.ensures.home c.lodge-back.ensures.back).lends

pub returns-clause-known : goal.returns-clause-known
returns-clause-known g c =
    let r = c.requires in
    (lent_home c.args.berth.now _ _ _ _ _ _ c.replace-own.ensures.value r.idle r.live r.known r.client c.come_home-home.ensures.home c.lodge-back.ensures.back).known
