use Rattle.std.proofs.Common.{◌≡◌, true, ap, sym, subst, ◌∙◌}
use Rattle.std.specs.Prelude.{All}
use Rattle.std.specs.List.{list_all}
use Rattle.lang_monitor.specs.Candidates.{candidates_of}
use Rattle.logic_wp.specs.Expressible.{is_expressible}
use Rattle.logic_wp.specs.PlainClaims.{MayAsk}
use Rattle.plan_claims.specs.Backing.{backed_claims}
use Rattle.plan_claims.proofs.Backed.{Laws}
use Rattle.plan_candidates.proofs.SomeOf.{some_pass}
use Rattle.report_verdict.proofs.Askable.{claims_askable}
use Rattle.report_audit.specs.Findings.{is_asked}
use Rattle.report_audit.specs.inner.Asked.{IsFirstOpen}
use Rattle.report_audit.proofs.Asked.{passing}
use Rattle.report_audit.proofs.Found.{proved_of, unproved_of}
use Rattle.report_audit.proofs.auditing.asked.Goals as goal

pub first_unproved-requires-clause-kept : goal.first_unproved-requires-clause-kept
first_unproved-requires-clause-kept c =
    ap (list_all is_expressible) c.items.ensures
    ∙ some_pass is_expressible c.args.plan.now.kept (candidates_of c.args.monitor.now) c.requires.plan.kept c.candidates_have_formulas.ensures

pub first_unproved-requires-clause-claims : goal.first_unproved-requires-clause-claims
first_unproved-requires-clause-claims c =
    let monitor = c.args.monitor.now in
    let plan = c.args.plan.now in
    let passes : list_all is_expressible plan.kept ≡ true = some_pass is_expressible plan.kept (candidates_of monitor) c.requires.plan.kept c.candidates_have_formulas.ensures in
    let every : All (MayAsk monitor) (backed_claims monitor plan) = claims_askable monitor plan c.requires.plan passes in
    subst (All (MayAsk monitor)) (sym (c.deref.ensures.value ∙ c.in_ok-claims.ensures))
    (passing (is_asked plan) (MayAsk monitor) (backed_claims monitor plan) (λ place other within asked. every place other within))

pub returns-in-Some : goal.returns-in-Some
returns-in-Some c =
    let monitor = c.args.monitor.now in
    let kept = c.items.result.now in
    unproved_of monitor c.args.plan.now kept c.deref.result.now c.in-Some.claim c.items.ensures (c.deref.ensures.value ∙ c.in_ok-claims.ensures) c.requires.sight
    (subst (IsFirstOpen monitor kept c.deref.result.now) c.in-Some.is c.in_ok-claim.ensures)

pub returns : goal.returns
returns c =
    let monitor = c.args.monitor.now in
    let kept = c.items.result.now in
    let laws : Laws = record {
      refuted_is_false = c.refuted_formula_is_false.ensures;
      refuted_is_valid = c.refuted_query_is_valid.ensures;
    } in
    proved_of laws monitor c.args.plan.now kept c.deref.result.now c.blocks-blocks.ensures.rule c.requires.plan c.items.ensures (c.deref.ensures.value ∙ c.in_ok-claims.ensures) c.requires.sight
    (subst (IsFirstOpen monitor kept c.deref.result.now) c.in-None.is c.in_ok-claim.ensures)
