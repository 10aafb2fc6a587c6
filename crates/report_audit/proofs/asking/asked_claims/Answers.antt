use Rattle.std.proofs.Common.{ap, ◌∙◌}
use Rattle.std.specs.List.{filter}
use Rattle.report_audit.specs.Findings.{is_asked}
use Rattle.report_audit.proofs.asking.asked_claims.Goals as goal

pub returns : goal.returns
returns c = c.in_ok-asked.ensures ∙ ap (filter (is_asked c.args.plan.now)) (c.deref.ensures.value ∙ c.in_ok-all.ensures)
