use Rattle.std.proofs.Common.{subst}
use Rattle.lang_monitor.specs.declared.query.Query.{Query}
use Rattle.lang_monitor.specs.Triples.{IsValidQuery}
use Rattle.plan_prune.specs.Hardness.{MayStayOpen}
use Rattle.plan_prune.specs.Invariants.{IsDecision}
use Rattle.plan_place.proofs.asking.proof_of.Goals as goal

pub returns : goal.returns
returns c =
    let monitor = c.args.monitor.now in
    let told = subst (IsDecision monitor c.in_ok-query.query) c.in-None.is c.in_ok-cert.ensures.decided in
    subst (λ (query : Query). IsValidQuery monitor query → MayStayOpen monitor query) c.in_ok-query.ensures.made told
