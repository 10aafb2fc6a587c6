use Rattle.plan_count.specs.Questions.{question_query}
use Rattle.report_failures.proofs.Named.{failure_made}
use Rattle.report_failures.proofs.failing.query_failure.Goals as goal

pub returns : goal.returns
returns c = failure_made c.args.monitor.now c.in_ok-query.query (question_query c.args.monitor.now c.args.kept.now c.args.question) c.in_ok-failure_of.field-0 c.in_ok-query.ensures.made c.in_ok-failure_of.ensures
