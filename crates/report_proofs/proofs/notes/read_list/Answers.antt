use Rattle.std.proofs.Common.{◌++◌, List, codes, subst}
use Rattle.machine_events.specs.declared.plan.Note.{Note}
use Rattle.machine_events.specs.PlanText.{block_name, block_text, notes_text}
use Rattle.report_verdict.specs.Reports.{AreNotesOf}
use Rattle.report_proofs.specs.Fronts.{Anything, IsAfter}
use Rattle.report_proofs.proofs.Fronts.{either_after, none_there}
use Rattle.report_proofs.proofs.PlanParts.{block_parts}
use Rattle.report_proofs.proofs.notes.read_list.Goals as goal

pub returns-in-Some : goal.returns-in-Some
returns-in-Some c =
    let monitor = c.args.monitor.now in
    let head = codes "block " ++ block_name monitor c.args.block ++ codes ": " in
    either_after (AreNotesOf monitor) Anything head (λ (notes : List Note). notes_text notes ++ codes "\n") (block_text monitor c.args.block) c.args.bytes.now c.in-Some.rest.now c.read_notes.result
    (block_parts monitor c.args.block) (subst (IsAfter c.args.bytes.now head) c.in-Some.is c.in_ok-rest.ensures) c.read_notes.ensures

pub returns-in-None : goal.returns-in-None
returns-in-None c =
    let monitor = c.args.monitor.now in
    let head = codes "block " ++ block_name monitor c.args.block ++ codes ": " in
    none_there (AreNotesOf monitor) Anything head (λ (notes : List Note). notes_text notes ++ codes "\n") (block_text monitor c.args.block) c.args.bytes.now (block_parts monitor c.args.block)
    (subst (IsAfter c.args.bytes.now head) c.in-None.is c.in_ok-rest.ensures)
