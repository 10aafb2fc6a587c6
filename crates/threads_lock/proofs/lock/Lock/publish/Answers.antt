use Rattle.std.proofs.Common.{[], ◌∷◌, length, rules, arith, ap, ◌∙◌, length-append}
use Rattle.threads_lock.specs.Growth.{Follows}
use Rattle.threads_lock.proofs.Readiness.{section_follows}
use Rattle.threads_lock.proofs.Stepping.{publishes}
use Rattle.threads_lock.proofs.lock.Lock.publish.Goals as goal

pub store-requires : goal.store-requires
store-requires c =
    let t = c.requires.turn in
    let y = c.requires.made in
    let front = c.args.seat.now.me.0.known.front in
    let made = y.3 in
    let entry = c.args.section.entry in
    let grew : Follows front y.0 = section_follows _ front y.0 c.args.section made in
    let longer = ap length made.appends.log ∙ length-append front.log (entry ∷ []) in
    let at = made.place in
    (search rules, search rules, publishes _ _ _ _ t.0 y.0 entry _ t.1 y.1 made.appends.log grew y.2 (omega arith))
