use Rattle.std.proofs.Common.{List, Option, ℕ, length, map, ◌∙◌, ap, subst, sym, arith}
use Rattle.std.specs.Prelude.{IfOk, is_some}
use Rattle.report_tally.specs.CountedReports.{owed_claims}
use Rattle.report_tally.specs.inner.Lines.{AreSignals, IsWithAnswers}
use Rattle.report_proofs.proofs.Fronts.{at_none, at_some}
use Rattle.report_tally.proofs.OwedLines.{with_none, with_some}
use Rattle.report_tally.proofs.reading.with_lines.Goals as goal

pub with_answers-requires-clause-few : goal.with_answers-requires-clause-few
with_answers-requires-clause-few c =
    omega (arith, ap {B = ℕ} length c.deref-in-Some.ensures.value, c.in_ok-marked.ensures.are.many, c.requires.kinds, c.conditions-conditions.ensures.rule.few_conditions)

pub with_answers-requires-clause-are : goal.with_answers-requires-clause-are
with_answers-requires-clause-are c = subst (AreSignals c.args.plan) (sym c.deref-in-Some.ensures.value) c.in_ok-marked.ensures.are

pub returns-in-Some : goal.returns-in-Some
returns-in-Some c =
    let monitor = c.args.monitor.now in
    with_some monitor c.args.plan c.in_ok-marked.marked.items c.deref-2.result.now c.args.bytes.now c.in-Some.proofs.items c.in-Some.rest.now c.with_answers.result c.requires c.in_ok-marked.ensures
    (c.deref-2.ensures.value ∙ c.in_ok-claims.ensures ∙ ap (owed_claims monitor c.args.plan) c.deref.ensures.value) (at_some _ _ c.in-Some.is c.in_ok-proofs.ensures)
    (subst (λ (marked : List (Option ℕ)). IfOk c.with_answers.result (IsWithAnswers monitor c.args.plan (map is_some marked) c.in-Some.proofs.items c.in-Some.rest.now)) c.deref-in-Some.ensures.value c.with_answers.ensures)

pub returns-in-None : goal.returns-in-None
returns-in-None c =
    with_none c.args.monitor.now c.args.plan c.in_ok-marked.marked.items c.deref-2.result.now c.args.bytes.now c.in_ok-marked.ensures (c.deref-2.ensures.value ∙ c.in_ok-claims.ensures ∙ ap (owed_claims c.args.monitor.now c.args.plan) c.deref.ensures.value) (at_none _ _ c.in-None.is c.in_ok-proofs.ensures)
