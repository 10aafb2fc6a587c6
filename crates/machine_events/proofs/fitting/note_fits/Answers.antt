use Rattle.std.proofs.Common.{◌-◌, length, refl, arith}
use Rattle.std.proofs.lemmas.Option.{slice_get_read, slice_get_past}
use Rattle.machine_events.proofs.PlanTests.{on_condition, no_condition}
use Rattle.machine_events.proofs.fitting.note_fits.Goals as goal

pub returns-in-Some : goal.returns-in-Some
returns-in-Some c =
    let list = c.conditions.result.now in
    let found = slice_get_read list (length list) (c.args.note.now.condition - 1) c.in-Some.which.now refl c.in-Some.ensures.lookup.3.0 c.in-Some.ensures.lookup.1 in
    let is = rw c.conditions.ensures.conditions at found in
    rw c.may_be_on.ensures (on_condition c.args.monitor.now c.args.note.now c.in-Some.which.now c.conditions.ensures.rule (omega arith) is)

pub returns-in-None : goal.returns-in-None
returns-in-None c =
    let past = slice_get_past c.conditions.result.now (c.args.note.now.condition - 1) c.in-None.ensures.lookup.3 in
    no_condition c.args.monitor.now c.args.note.now (rw c.conditions.ensures.conditions at past)
