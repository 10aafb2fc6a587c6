use Rattle.plan_needs.proofs.Sparing.{count_asked, count_not_asked}
use Rattle.plan_needs.proofs.answering.count_failure.Goals as goal

pub returns-in-None : goal.returns-in-None
returns-in-None c = count_not_asked c.args.monitor.now c.args.kept.now c.args.row c.args.block c.args.condition c.in-None.is

pub returns-in_ok-question_failure-in-Some : goal.returns-in_ok-question_failure-in-Some
returns-in_ok-question_failure-in-Some c =
    count_asked c.args.monitor.now c.args.kept.now c.args.row c.in-Some.row c.args.block c.args.condition c.in_ok-question_failure-in-Some.field-0 c.in-Some.is c.in_ok-question_failure-in-Some.ensures
