use Rattle.std.proofs.Common.{◌≡◌, List, ap, subst, ◌∙◌}
use Rattle.lang_monitor.specs.declared.candidate.Candidate.{Candidate}
use Rattle.lang_monitor.specs.declared.query.Query.{Query}
use Rattle.lang_monitor.specs.Queries.{query_of}
use Rattle.plan_why.specs.Failures.{IsFailureOf}
use Rattle.plan_why.proofs.Shown.{shown_by, spared_by}
use Rattle.plan_why.proofs.answering.broken.Goals as goal

pub returns-in-None : goal.returns-in-None
returns-in-None c =
    let is = c.in_ok-query.ensures.made ∙ ap (λ (kept : List Candidate). query_of c.args.monitor.now kept c.claim_of.result) c.items.ensures ∙ ap (query_of c.args.monitor.now c.args.plan.now.kept) c.claim_of.ensures in
    spared_by c.args.monitor.now c.args.plan.now c.args.thing c.args.block c.in_ok-query.query is (subst (IsFailureOf c.args.monitor.now c.in_ok-query.query) c.in-None.is c.in_ok-failure_of.ensures)

pub returns : goal.returns
returns c =
    let is = c.in_ok-query.ensures.made ∙ ap (λ (kept : List Candidate). query_of c.args.monitor.now kept c.claim_of.result) c.items.ensures ∙ ap (query_of c.args.monitor.now c.args.plan.now.kept) c.claim_of.ensures in
    shown_by c.args.monitor.now c.args.plan.now c.args.thing c.args.block c.in_ok-query.query c.in-Some.field-0 is c.requires.about (subst (IsFailureOf c.args.monitor.now c.in_ok-query.query) c.in-Some.is c.in_ok-failure_of.ensures)
