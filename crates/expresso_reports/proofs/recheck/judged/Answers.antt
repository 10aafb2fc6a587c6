use Rattle.std.proofs.Common.{subst}
use Rattle.report_tally.specs.CountedReadings.{IsCountedRead}
use Rattle.expresso_reports.proofs.Judged.{each_report_found, no_front, read_report_is}
use Rattle.expresso_reports.proofs.recheck.judged.Goals as goal

pub judge_report-requires : goal.judge_report-requires
judge_report-requires c =
    let front = c.part.result.0.now in
    read_report_is c.args.monitor.now front c.in-Some.report (subst (IsCountedRead c.args.monitor.now front) c.in-Some.is c.in_ok-report.ensures)

pub returns-in-Some : goal.returns-in-Some
returns-in-Some c =
    let front = c.part.result.0.now in
    each_report_found c.args.monitor.now c.args.bytes.now front c.part.result.1.now c.in-Some.report c.judge_report.result c.requires c.part.ensures
    (subst (IsCountedRead c.args.monitor.now front) c.in-Some.is c.in_ok-report.ensures) c.judge_report.ensures

pub returns-in-None : goal.returns-in-None
returns-in-None c =
    let front = c.part.result.0.now in
    no_front c.args.monitor.now c.args.bytes.now front c.part.result.1.now c.part.ensures (subst (IsCountedRead c.args.monitor.now front) c.in-None.is c.in_ok-report.ensures)
