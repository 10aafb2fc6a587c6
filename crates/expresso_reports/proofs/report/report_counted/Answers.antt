use Rattle.std.proofs.Common.{true, false, refl}
use Rattle.report_tally.specs.CountedTexts.{counted_text}
use Rattle.expresso_answers.specs.declared.status.Status.TheVariants.{Done}
use Rattle.front_command.specs.CommandLine.{report}
use Rattle.expresso_reports.proofs.Judged.{counted_report_done}
use Rattle.expresso_answers.proofs.Outcomes.{written_since}
use Rattle.expresso_reports.proofs.report.report_counted.Goals as goal

pub returns-in-Err-clause-ended : goal.returns-in-Err-clause-ended
returns-in-Err-clause-ended g c = c.in-Err.ensures.ended (report c.args.file.now true false) refl

pub show_counted_report-requires : goal.show_counted_report-requires
show_counted_report-requires g c = c.in-Ok-counting_of.ensures.by.table.backed

pub returns-in-Ok-counting_of-clause-ended : goal.returns-in-Ok-counting_of-clause-ended
returns-in-Ok-counting_of-clause-ended g c =
    let found = c.in-Ok.found in
    let counting = c.in-Ok-counting_of.counting in
    counted_report_done c.counted_text_is_report_text.ensures.text c.args.file.now found.tree found.monitor counting.placed counting.counted
    (g.F.Files.seen c.args.files.now) (g.F.Files.seen c.monitor_of.new.files) _ (g.S.Sink.seen c.args.out.now) _ c.in-Ok.ensures.holds c.in-Ok-counting_of.ensures c.in-Ok.ensures.quiet.steady
    (written_since Done (counted_text found.monitor counting.placed counting.counted) _ _ _ _ c.in-Ok.ensures.quiet.silent c.show_counted_report.ensures)
