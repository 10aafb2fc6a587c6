use Rattle.std.proofs.Common.{length, subst, ℕ}
use Rattle.machine_simulate.specs.inner.Turns.{NoneReady}
use Rattle.machine_simulate.proofs.Closing.{closed_where_none_ready, none_of_both}
use Rattle.machine_simulate.proofs.by_rounds.next_actor.Goals as goal

pub unreachable-requires : goal.unreachable-requires
unreachable-requires c =
    let later = subst (λ (count : ℕ). NoneReady c.args.free.now c.args.asked count) c.count_clients.ensures.count c.in_default.ensures.none in
    c.requires.open (closed_where_none_ready c.args.free.now c.count_clients.ensures.always
    (none_of_both c.args.free.now c.args.asked (length c.args.free.now.system.clients) later c.in-None.ensures.none))
