use Rattle.std.proofs.Common.{ap}
use Rattle.machine_explicit.specs.inner.Positions.{coming_notes}
use Rattle.machine_explicit.proofs.MakingNotes.{own_first, signal_first}
use Rattle.machine_explicit.proofs.notes.first_note.Goals as goal

pub returns-in-Block : goal.returns-in-Block
returns-in-Block c = own_first c.args.plan.now c.args.to_come c.in-Block.block c.in-Block.from c.in-Block.is c.own_note.result c.own_note.ensures

pub returns-in-Signal : goal.returns-in-Signal
returns-in-Signal c = signal_first c.args.plan.now c.args.to_come c.in-Signal.condition c.in-Signal.is

pub returns-in-Nothing : goal.returns-in-Nothing
returns-in-Nothing c = ap (coming_notes c.args.plan.now) c.in-Nothing.is
