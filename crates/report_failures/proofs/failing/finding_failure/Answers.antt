use Rattle.std.proofs.Common.{ap, subst, ◌∙◌}
use Rattle.std.specs.List.{list_all}
use Rattle.logic_wp.specs.Expressible.{is_expressible}
use Rattle.report_audit.specs.CountedFindings.{IsCountedFinding}
use Rattle.report_failures.proofs.Named.{claim_asked, kept_pass, question_about}
use Rattle.report_failures.proofs.failing.finding_failure.Goals as goal

pub claim_failure-requires-clause-kept : goal.claim_failure-requires-clause-kept
claim_failure-requires-clause-kept c = ap (list_all is_expressible) c.items-kept.ensures ∙ kept_pass c.args.monitor.now c.args.plan.now c.requires.plan c.candidates_have_formulas.ensures

pub claim_failure-requires-clause-claim : goal.claim_failure-requires-clause-claim
claim_failure-requires-clause-claim c =
    claim_asked c.args.monitor.now c.args.plan.now c.in-Unproved.claim c.requires.plan c.candidates_have_formulas.ensures
    (subst (IsCountedFinding c.args.monitor.now c.args.plan.now) c.in-Unproved.is c.requires.found)

pub question_failure-requires-clause-kept : goal.question_failure-requires-clause-kept
question_failure-requires-clause-kept c = ap (list_all is_expressible) c.items-kept.ensures ∙ kept_pass c.args.monitor.now c.args.plan.now c.requires.plan c.candidates_have_formulas.ensures

pub question_failure-requires-clause-question : goal.question_failure-requires-clause-question
question_failure-requires-clause-question c =
    question_about c.args.monitor.now c.args.plan.now c.in-Uncounted.question c.blocks-blocks.ensures.rule c.requires.plan c.candidates_have_formulas.ensures
    (subst (IsCountedFinding c.args.monitor.now c.args.plan.now) c.in-Uncounted.is c.requires.found)
