use Rattle.std.proofs.Common.{◌++◌, codes, sym, subst, ◌∙◌}
use Rattle.std.specs.Prelude.{List}
use Rattle.machine_events.specs.declared.plan.Note.{Note}
use Rattle.machine_events.specs.PlanText.{notes_text}
use Rattle.report_verdict.specs.Reports.{AreNotesOf}
use Rattle.report_proofs.specs.Fronts.{Anything, IsAfter, IsFront}
use Rattle.report_proofs.proofs.NoteLines.{notes_either, notes_none}
use Rattle.report_proofs.proofs.notes.read_notes.Goals as goal

pub returns-in-Some : goal.returns-in-Some
returns-in-Some c =
    subst (λ (notes : List Note). IsFront (List Note) (AreNotesOf c.args.monitor.now) Anything (λ all. notes_text all ++ codes "\n") c.args.bytes.now notes c.in-Some.rest.now) (sym (c.of.ensures ∙ c.new.ensures.items))
    (notes_none c.args.monitor.now c.args.bytes.now c.in-Some.rest.now (subst (IsAfter c.args.bytes.now (codes "none\n")) c.in-Some.is c.after.ensures))

pub returns-in-None : goal.returns-in-None
returns-in-None c =
    notes_either c.args.monitor.now c.args.bytes.now c.read_some_notes.result (subst (IsAfter c.args.bytes.now (codes "none\n")) c.in-None.is c.after.ensures) c.read_some_notes.ensures
