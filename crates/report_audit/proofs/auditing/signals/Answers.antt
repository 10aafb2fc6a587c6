use Rattle.std.proofs.Common.{subst}
use Rattle.lang_monitor.specs.Candidates.{candidates_of}
use Rattle.logic_wp.specs.Expressible.{is_expressible}
use Rattle.plan_claims.proofs.Backed.{Laws}
use Rattle.plan_candidates.proofs.SomeOf.{some_pass}
use Rattle.report_audit.specs.inner.Counted.{IsFirstFound}
use Rattle.report_audit.proofs.FoundByCounting.{first_uncounted_of, proved_by_counting}
use Rattle.report_audit.proofs.auditing.signals.Goals as goal

pub first_uncounted-requires-clause-kept : goal.first_uncounted-requires-clause-kept
first_uncounted-requires-clause-kept c =
    some_pass is_expressible c.args.plan.now.kept (candidates_of c.args.monitor.now) c.requires.plan.kept c.candidates_have_formulas.ensures

pub returns-in-Some : goal.returns-in-Some
returns-in-Some c =
    first_uncounted_of c.args.monitor.now c.args.plan.now c.in-Some.question c.requires.sight c.requires.common
    (subst (IsFirstFound c.args.monitor.now c.args.plan.now) c.in-Some.is c.in_ok-question.ensures)

pub returns-in-None : goal.returns-in-None
returns-in-None c =
    let laws : Laws = record {
      refuted_is_false = c.refuted_formula_is_false.ensures;
      refuted_is_valid = c.refuted_query_is_valid.ensures;
    } in
    proved_by_counting laws c.answers_count.ensures c.counting_applies.ensures.plan c.args.monitor.now c.args.plan.now c.blocks-blocks.ensures.rule c.requires.plan c.requires.sight c.requires.common
    (subst (IsFirstFound c.args.monitor.now c.args.plan.now) c.in-None.is c.in_ok-question.ensures)
