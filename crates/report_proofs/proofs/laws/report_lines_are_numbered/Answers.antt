use Rattle.report_proofs.proofs.NumberedLines.{claim_numbered, open_numbered, plan_counted}
use Rattle.report_proofs.proofs.laws.report_lines_are_numbered.Goals as goal

pub returns-clause-plan : goal.returns-clause-plan
returns-clause-plan c = plan_counted

pub returns-clause-claims : goal.returns-clause-claims
returns-clause-claims c = claim_numbered

pub returns-clause-unproved : goal.returns-clause-unproved
returns-clause-unproved c = open_numbered
