use Rattle.std.proofs.Common.{◌∷◌, ap, sym, ◌∙◌}
use Rattle.atomic_table.specs.Table.{rest}
use Rattle.threads_lock.proofs.lock.Lock.stand_now.Goals as goal

pub slot_mut-requires : goal.slot_mut-requires
slot_mut-requires c = let has = c.requires.turn.1 in let x = c.args.seat.now.me.0.known.front in (c.requires.own, (x, has ∙ ap (λ l. (0, x) ∷ rest l) (sym has)))
