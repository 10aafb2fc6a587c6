use Rattle.std.proofs.Common.{subst}
use Rattle.report_audit.specs.Findings.{IsFinding}
use Rattle.report_audit.proofs.FoundLawful.{found_of_lawful}
use Rattle.report_audit.proofs.auditing.audit.Goals as goal

pub returns-clause-exact : goal.returns-clause-exact
returns-clause-exact c = λ none.
    let monitor = c.args.monitor.now in
    let plan = c.args.plan.now in (
      λ is. (subst (IsFinding monitor plan) is c.in_ok-finding.ensures).lawful,
      λ lawful. c.lawful_plans_are_found.ensures monitor plan c.in_ok-finding.finding c.blocks-blocks.ensures.rule c.requires none lawful c.in_ok-finding.ensures,
    )

pub returns-clause-none_open : goal.returns-clause-none_open
returns-clause-none_open c = λ none.
    let monitor = c.args.monitor.now in
    let plan = c.args.plan.now in (
      λ is. (subst (IsFinding monitor plan) is c.in_ok-finding.ensures).lawful,
      λ lawful. found_of_lawful monitor plan c.in_ok-finding.finding c.blocks-blocks.ensures.rule c.requires none lawful c.in_ok-finding.ensures,
    )
