use Rattle.plan_count.specs.Questions.{question_query}
use Rattle.plan_needs.proofs.Among.{among_one}
use Rattle.plan_needs.proofs.asking.question_failure.Goals as goal

pub returns : goal.returns
returns c = among_one c.args.monitor.now c.in_ok-query.query (question_query c.args.monitor.now c.args.kept.now c.args.question) c.in_ok-failure_of.field-0 c.in_ok-query.ensures.made c.in_ok-failure_of.ensures
