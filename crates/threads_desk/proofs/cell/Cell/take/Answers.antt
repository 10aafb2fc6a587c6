use Rattle.std.proofs.Common.{rules, ap, Some}
use Rattle.threads_desk.specs.declared.letter.Sheet.TheVariants.{Asked}
use Rattle.threads_desk.proofs.Keeping.{before_rest, gets, seeks}
use Rattle.threads_desk.proofs.cell.Cell.take.Goals as goal

pub load_new_seat-posted-requires : goal.load_new_seat-posted-requires
load_new_seat-posted-requires g c = (search rules, seeks _ _ _ _)

pub compare_exchange-found-requires : goal.compare_exchange-found-requires
compare_exchange-found-requires g c = (search rules, search rules, gets _ _ _ _ _ _ (search rules))

pub exchange-sheet-requires : goal.exchange-sheet-requires
exchange-sheet-requires g c =
    let has = c.compare_exchange-found.ensures.2.0 c.if-found-ne-ASKED.false in
    (search rules, (Some (Asked has.letter), before_rest _ _ _ (ap (λ m. m.1) has.now)))
