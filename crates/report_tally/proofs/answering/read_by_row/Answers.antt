use Rattle.std.proofs.Common.{◌≡◌, rules}
use Rattle.report_proofs.proofs.Fronts.{at_none, at_some}
use Rattle.report_tally.specs.CountedReports.{block_questions}
use Rattle.report_tally.proofs.ConditionLines.{counted_front, none_answered}
use Rattle.report_tally.proofs.answering.read_by_row.Goals as goal

pub returns-in-Some : goal.returns-in-Some
returns-in-Some c =
    let asked : c.deref.result.now ≡ block_questions c.args.monitor.now c.args.plan.now c.args.condition c.args.row = search rules in
    counted_front c.args.monitor.now c.args.plan.now c.args.condition c.args.row c.deref.result.now c.args.bytes.now c.in-Some.answers.items c.in-Some.rest.now c.requires asked
    (at_some _ _ c.in-Some.is c.in_ok-answers.ensures)

pub returns : goal.returns
returns c =
    let asked : c.deref.result.now ≡ block_questions c.args.monitor.now c.args.plan.now c.args.condition c.args.row = search rules in
    none_answered c.args.monitor.now c.args.plan.now c.args.condition c.args.row c.deref.result.now c.args.bytes.now c.requires asked (at_none _ _ c.in-None.is c.in_ok-answers.ensures)
