use Rattle.machine_explicit.proofs.MakingNotes.{next_none, next_beyond, next_of}
use Rattle.machine_explicit.proofs.notes.next_note.Goals as goal

pub returns-in-Notifying : goal.returns-in-Notifying
returns-in-Notifying c =
    next_of c.args.plan.now c.args.positions.now c.args.client c.in-Some.one.now c.in-Notifying.to_come c.in-Some.ensures.lookup.3.0 c.in-Some.ensures.lookup.1 c.in-Notifying.is c.first_note.result c.first_note.ensures

pub returns-in_default : goal.returns-in_default
returns-in_default c =
    next_none c.args.plan.now c.args.positions.now c.args.client c.in-Some.one.now c.in-Some.ensures.lookup.3.0 c.in-Some.ensures.lookup.1 (λ to_come is. c.in_default.not-Notifying to_come is)

pub returns-in-None : goal.returns-in-None
returns-in-None c = next_beyond c.args.plan.now c.args.positions.now c.args.client c.in-None.ensures.lookup.3
