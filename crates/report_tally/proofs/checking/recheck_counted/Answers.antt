use Rattle.std.proofs.Common.{◌≡◌, true, ap, subst, ◌∙◌}
use Rattle.std.specs.List.{list_all, zip}
use Rattle.lang_monitor.specs.Candidates.{candidates_of}
use Rattle.logic_wp.specs.Expressible.{is_expressible}
use Rattle.plan_candidates.proofs.SomeOf.{some_pass}
use Rattle.report_verdict.specs.Verdicts.{IsFirstOpen}
use Rattle.report_tally.specs.CountedReports.{owed_claims}
use Rattle.report_tally.proofs.Verdicts.{claim_open, claims_checked, claims_may}
use Rattle.report_tally.proofs.checking.recheck_counted.Goals as goal

pub first_open-requires-clause-kept : goal.first_open-requires-clause-kept
first_open-requires-clause-kept c =
    ap (list_all is_expressible) c.items-kept.ensures
    ∙ some_pass is_expressible c.args.report.now.plan.kept (candidates_of c.args.monitor.now) c.requires.plan.kept c.candidates_have_formulas.ensures

pub first_open-requires-clause-claims : goal.first_open-requires-clause-claims
first_open-requires-clause-claims c =
    let plan = c.args.report.now.plan in
    let passes : list_all is_expressible plan.kept ≡ true = some_pass is_expressible plan.kept (candidates_of c.args.monitor.now) c.requires.plan.kept c.candidates_have_formulas.ensures in
    claims_may c.args.monitor.now c.args.report.now c.deref.result.now c.requires passes
    (c.deref.ensures.value ∙ c.in_ok-claims.ensures ∙ ap (owed_claims c.args.monitor.now plan) c.items.ensures)

pub returns-in-Some : goal.returns-in-Some
returns-in-Some c =
    let monitor = c.args.monitor.now in
    let kept = c.items-kept.result.now in
    let sight = c.is_lawful_at_sight.ensures.0 c.if-not-is_lawful_at_sight.false in
    claim_open monitor c.args.report.now kept c.deref.result.now c.items-2.result.now c.in-Some.place c.line_of.result c.items-kept.ensures
    (c.deref.ensures.value ∙ c.in_ok-claims.ensures ∙ ap (owed_claims monitor c.args.report.now.plan) c.items.ensures) c.items-2.ensures sight c.line_of.ensures
    (subst (IsFirstOpen monitor kept (zip c.deref.result.now c.items-2.result.now)) c.in-Some.is c.in_ok-place.ensures.first)

pub recheck_answers-requires-clause-proofs : goal.recheck_answers-requires-clause-proofs
recheck_answers-requires-clause-proofs c =
    let monitor = c.args.monitor.now in
    let kept = c.items-kept.result.now in
    claims_checked monitor c.args.report.now kept c.deref.result.now c.items-2.result.now c.items-kept.ensures
    (c.deref.ensures.value ∙ c.in_ok-claims.ensures ∙ ap (owed_claims monitor c.args.report.now.plan) c.items.ensures) c.items-2.ensures
    (subst (IsFirstOpen monitor kept (zip c.deref.result.now c.items-2.result.now)) c.in-None.is c.in_ok-place.ensures.first)
