use Rattle.std.proofs.Common.{subst}
use Rattle.logic_cert.specs.Refutes.{Refutes}
use Rattle.lang_monitor.specs.declared.query.Query.{Query}
use Rattle.lang_monitor.specs.Triples.{IsValidQuery}
use Rattle.plan_prune.specs.Hardness.{MayStayOpen}
use Rattle.plan_prune.specs.Invariants.{IsDecision}
use Rattle.logic_wp.specs.NegatedQueries.{negated_query}
use Rattle.report_audit.proofs.counting.is_certified.Goals as goal

pub returns-in-Some : goal.returns-in-Some
returns-in-Some c =
    let monitor = c.args.monitor.now in
    let told = subst (IsDecision monitor c.in_ok-query.query) c.in-Some.is c.in_ok-certificate_of.ensures.decided in
    (c.in-Some.field-0, subst (λ (query : Query). Refutes (negated_query monitor query) c.in-Some.field-0) c.in_ok-query.ensures.made told)

pub returns : goal.returns
returns c =
    let monitor = c.args.monitor.now in
    let told = subst (IsDecision monitor c.in_ok-query.query) c.in-None.is c.in_ok-certificate_of.ensures.decided in
    subst (λ (query : Query). IsValidQuery monitor query → MayStayOpen monitor query) c.in_ok-query.ensures.made told
