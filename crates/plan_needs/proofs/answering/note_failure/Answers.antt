use Rattle.std.proofs.Common.{[], ◌∷◌, subst}
use Rattle.lang_monitor.specs.Queries.{none_needed_query}
use Rattle.plan_why.specs.Failures.{IsFailureAmong}
use Rattle.plan_needs.specs.Needs.{count_queries}
use Rattle.plan_needs.proofs.Among.{among_first, among_later}
use Rattle.plan_needs.proofs.answering.note_failure.Goals as goal

pub returns-in-Some : goal.returns-in-Some
returns-in-Some c =
    let query = none_needed_query c.args.monitor.now c.args.kept.now c.args.block c.args.condition in
    among_first c.args.monitor.now query (count_queries c.args.monitor.now c.args.kept.now c.args.row c.args.block c.args.condition) c.in-Some.failure
    (subst (IsFailureAmong c.args.monitor.now (query ∷ [])) c.in-Some.is c.in_ok-failure.ensures)

pub returns-in_ok-count_failure-in-None : goal.returns-in_ok-count_failure-in-None
returns-in_ok-count_failure-in-None c =
    let query = none_needed_query c.args.monitor.now c.args.kept.now c.args.block c.args.condition in
    among_later c.args.monitor.now query (count_queries c.args.monitor.now c.args.kept.now c.args.row c.args.block c.args.condition) c.in_ok-count_failure-in-None.field-0
    (subst (IsFailureAmong c.args.monitor.now (query ∷ [])) c.in-None.is c.in_ok-failure.ensures) c.in_ok-count_failure-in-None.ensures
