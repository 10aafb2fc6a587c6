use Rattle.std.proofs.Common.{false, refl}
use Rattle.report_proofs.specs.ReportTexts.{placed_text}
use Rattle.expresso_answers.specs.declared.status.Status.TheVariants.{Done}
use Rattle.front_command.specs.CommandLine.{report}
use Rattle.expresso_reports.proofs.Judged.{report_done}
use Rattle.expresso_answers.proofs.Outcomes.{written_since}
use Rattle.expresso_reports.proofs.report.report_placed.Goals as goal

pub returns-in-Err-clause-ended : goal.returns-in-Err-clause-ended
returns-in-Err-clause-ended g c = c.in-Err.ensures.ended (report c.args.file.now false false) refl

pub returns-in-Ok-placed_of-clause-ended : goal.returns-in-Ok-placed_of-clause-ended
returns-in-Ok-placed_of-clause-ended g c =
    let found = c.in-Ok.found in
    let placed = c.in-Ok-placed_of.placed in
    report_done c.placed_text_is_report_text.ensures.text c.args.file.now found.tree found.monitor placed
    (g.F.Files.seen c.args.files.now) (g.F.Files.seen c.monitor_of.new.files) _ (g.S.Sink.seen c.args.out.now) _ c.in-Ok.ensures.holds c.in-Ok-placed_of.ensures.placement c.in-Ok-placed_of.ensures.proofs c.read_numbers.ensures
    c.in-Ok.ensures.quiet.steady
    (written_since Done (placed_text found.monitor placed) _ _ _ _ c.in-Ok.ensures.quiet.silent c.show_report.ensures)
