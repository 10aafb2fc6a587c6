use Rattle.lang_monitor.specs.Queries.{query_of}
use Rattle.plan_needs.proofs.Among.{among_one}
use Rattle.plan_needs.proofs.asking.claim_failure.Goals as goal

pub returns : goal.returns
returns c = among_one c.args.monitor.now c.in_ok-query.query (query_of c.args.monitor.now c.args.kept.now c.args.claim) c.in_ok-failure_of.field-0 c.in_ok-query.ensures.made c.in_ok-failure_of.ensures
