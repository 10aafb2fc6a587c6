use Rattle.std.proofs.Common.{map}
use Rattle.std.specs.Prelude.{is_some}
use Rattle.report_proofs.proofs.Fronts.{at_none, at_some}
use Rattle.report_tally.proofs.OwedLines.{with_answers, without_answers}
use Rattle.report_tally.proofs.reading.with_answers.Goals as goal

pub returns-in-Some : goal.returns-in-Some
returns-in-Some c =
    with_answers c.args.monitor.now c.args.plan (map is_some c.args.marked.now) c.args.proofs.items c.args.bytes.now c.in-Some.answered.counted.items c.in-Some.answered.answers.items c.in-Some.rest.now
    c.whole_report.result (at_some _ _ c.in-Some.is c.in_ok-answered.ensures) c.whole_report.ensures

pub returns-in-None : goal.returns-in-None
returns-in-None c =
    without_answers c.args.monitor.now c.args.plan (map is_some c.args.marked.now) c.args.proofs.items c.args.bytes.now (at_none _ _ c.in-None.is c.in_ok-answered.ensures)
