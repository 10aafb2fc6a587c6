use Rattle.std.proofs.Common.{◌∙◌}
use Rattle.std.proofs.lemmas.Bool.{not-false}
use Rattle.machine_explicit.proofs.MakingNotes.{fires_tested}
use Rattle.machine_explicit.proofs.notes.fires.Goals as goal

pub condition_holds-requires : goal.condition_holds-requires
condition_holds-requires c =
    let can = c.requires.fits (not-false c.args.note.tested c.if-not-note.false) in
    record { state = c.requires.state; range = can.0; alone = can.1 }

pub returns : goal.returns
returns c = c.condition_holds.ensures ∙ fires_tested c.args.monitor.now c.args.state.now c.args.note (not-false c.args.note.tested c.if-not-note.false)
