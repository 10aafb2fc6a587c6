use Rattle.std.proofs.Common.{◌≡◌, true, ap, sym, subst, ◌∙◌}
use Rattle.std.specs.Prelude.{All}
use Rattle.std.specs.List.{filter, list_all}
use Rattle.lang_monitor.specs.Candidates.{candidates_of}
use Rattle.logic_wp.specs.Expressible.{is_expressible}
use Rattle.logic_wp.specs.PlainClaims.{MayAsk}
use Rattle.plan_claims.specs.Backing.{backed_claims}
use Rattle.plan_candidates.proofs.SomeOf.{some_pass}
use Rattle.report_verdict.proofs.Askable.{claims_askable}
use Rattle.report_audit.specs.CountedFindings.{is_common}
use Rattle.report_audit.specs.inner.Asked.{IsFirstOpen}
use Rattle.report_audit.proofs.Asked.{passing}
use Rattle.report_audit.proofs.FoundByCounting.{common_proved, first_common_of}
use Rattle.report_audit.proofs.auditing.counted.Goals as goal

pub first_unproved-requires-clause-kept : goal.first_unproved-requires-clause-kept
first_unproved-requires-clause-kept c =
    ap (list_all is_expressible) c.items.ensures
    ∙ some_pass is_expressible c.args.plan.now.kept (candidates_of c.args.monitor.now) c.requires.plan.kept c.candidates_have_formulas.ensures

pub first_unproved-requires-clause-claims : goal.first_unproved-requires-clause-claims
first_unproved-requires-clause-claims c =
    let monitor = c.args.monitor.now in
    let plan = c.args.plan.now in
    let passes : list_all is_expressible plan.kept ≡ true = some_pass is_expressible plan.kept (candidates_of monitor) c.requires.plan.kept c.candidates_have_formulas.ensures in
    let every : All (MayAsk monitor) (backed_claims monitor plan) = claims_askable monitor plan c.requires.plan passes in
    subst (All (MayAsk monitor)) (sym (c.deref-2.ensures.value ∙ c.in_ok-common.ensures ∙ ap (filter is_common) (c.deref.ensures.value ∙ c.in_ok-claims.ensures)))
    (passing is_common (MayAsk monitor) (backed_claims monitor plan) (λ place other within asked. every place other within))

pub returns-in-Some : goal.returns-in-Some
returns-in-Some c =
    let monitor = c.args.monitor.now in
    let kept = c.items.result.now in
    first_common_of monitor c.args.plan.now kept c.deref-2.result.now c.in-Some.claim c.items.ensures
    (c.deref-2.ensures.value ∙ c.in_ok-common.ensures ∙ ap (filter is_common) (c.deref.ensures.value ∙ c.in_ok-claims.ensures)) c.requires.sight
    (subst (IsFirstOpen monitor kept c.deref-2.result.now) c.in-Some.is c.in_ok-claim.ensures)

pub signals-requires-clause-common : goal.signals-requires-clause-common
signals-requires-clause-common c =
    common_proved c.args.monitor.now c.args.plan.now c.items.result.now c.deref-2.result.now c.in_ok-claim.field-0 c.items.ensures
    (c.deref-2.ensures.value ∙ c.in_ok-common.ensures ∙ ap (filter is_common) (c.deref.ensures.value ∙ c.in_ok-claims.ensures)) c.in-None.is c.in_ok-claim.ensures
