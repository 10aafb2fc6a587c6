use Rattle.lang_monitor.specs.Queries.{query_of}
use Rattle.report_failures.proofs.Named.{failure_made}
use Rattle.report_failures.proofs.failing.claim_failure.Goals as goal

pub returns : goal.returns
returns c = failure_made c.args.monitor.now c.in_ok-query.query (query_of c.args.monitor.now c.args.kept.now c.args.claim) c.in_ok-failure_of.field-0 c.in_ok-query.ensures.made c.in_ok-failure_of.ensures
