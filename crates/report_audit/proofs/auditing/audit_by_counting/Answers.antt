use Rattle.std.proofs.Common.{subst}
use Rattle.report_audit.specs.CountedFindings.{IsCountedFinding}
use Rattle.report_audit.proofs.auditing.audit_by_counting.Goals as goal

pub returns-clause-exact : goal.returns-clause-exact
returns-clause-exact c = λ none no_question.
    let monitor = c.args.monitor.now in
    let plan = c.args.plan.now in (
      λ is. (subst (IsCountedFinding monitor plan) is c.in_ok-finding.ensures).lawful,
      λ lawful. c.counted_plans_are_found.ensures.counted monitor plan c.in_ok-finding.finding c.blocks-blocks.ensures.rule c.requires none no_question lawful c.in_ok-finding.ensures,
    )

pub returns-clause-lawful : goal.returns-clause-lawful
returns-clause-lawful c = λ none lawful.
    c.counted_plans_are_found.ensures.lawful c.args.monitor.now c.args.plan.now c.in_ok-finding.finding c.blocks-blocks.ensures.rule c.requires none lawful c.in_ok-finding.ensures
