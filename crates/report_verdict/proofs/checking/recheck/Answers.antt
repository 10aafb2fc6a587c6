use Rattle.std.proofs.Common.{◌≡◌, true, ℕ, length, All, sym, ap, subst, ◌∙◌}
use Rattle.std.specs.List.{list_all, zip}
use Rattle.lang_monitor.specs.Candidates.{candidates_of}
use Rattle.logic_wp.specs.Expressible.{is_expressible}
use Rattle.plan_candidates.proofs.SomeOf.{some_pass}
use Rattle.plan_claims.proofs.Backed.{Laws}
use Rattle.logic_wp.specs.PlainClaims.{MayAsk}
use Rattle.report_verdict.specs.Verdicts.{IsFirstOpen}
use Rattle.report_verdict.proofs.Accepted.{accepted, checked_of, unproved_at}
use Rattle.report_verdict.proofs.Askable.{claims_askable}
use Rattle.report_verdict.proofs.checking.recheck.Goals as goal

pub first_open-requires-clause-kept : goal.first_open-requires-clause-kept
first_open-requires-clause-kept c =
    ap (list_all is_expressible) c.items-kept.ensures
    ∙ some_pass is_expressible c.args.report.now.plan.kept (candidates_of c.args.monitor.now) c.requires.plan.kept c.candidates_have_formulas.ensures

pub first_open-requires-clause-claims : goal.first_open-requires-clause-claims
first_open-requires-clause-claims c =
    let plan = c.args.report.now.plan in
    let passes : list_all is_expressible plan.kept ≡ true = some_pass is_expressible plan.kept (candidates_of c.args.monitor.now) c.requires.plan.kept c.candidates_have_formulas.ensures in
    subst (All (MayAsk c.args.monitor.now)) (sym (c.deref.ensures.value ∙ c.in_ok-claims.ensures)) (claims_askable c.args.monitor.now plan c.requires.plan passes)

pub returns-in-Some : goal.returns-in-Some
returns-in-Some c =
    let monitor = c.args.monitor.now in
    let kept = c.items-kept.result.now in
    let sight = c.is_lawful_at_sight.ensures.0 c.if-not-is_lawful_at_sight.false in
    unproved_at monitor c.args.report.now kept c.deref.result.now c.items.result.now c.in-Some.place c.line_of.result c.items-kept.ensures (c.deref.ensures.value ∙ c.in_ok-claims.ensures)
    c.items.ensures sight c.line_of.ensures (subst (IsFirstOpen monitor kept (zip c.deref.result.now c.items.result.now)) c.in-Some.is c.in_ok-place.ensures.first)

pub returns : goal.returns
returns c =
    let monitor = c.args.monitor.now in
    let kept = c.items-kept.result.now in
    let laws : Laws = record {
      refuted_is_false = c.refuted_formula_is_false.ensures;
      refuted_is_valid = c.refuted_query_is_valid.ensures;
    } in
    let sight = c.is_lawful_at_sight.ensures.0 c.if-not-is_lawful_at_sight.false in
    let checked =
    checked_of monitor c.args.report.now kept c.deref.result.now c.items.result.now c.items-kept.ensures (c.deref.ensures.value ∙ c.in_ok-claims.ensures)
    c.items.ensures (subst (IsFirstOpen monitor kept (zip c.deref.result.now c.items.result.now)) c.in-None.is c.in_ok-place.ensures.first) in
    (accepted laws monitor c.args.report.now c.blocks-blocks.ensures.rule c.requires sight checked, ap {B = ℕ} length c.items-in-None.ensures)
