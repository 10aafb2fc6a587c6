use Rattle.std.proofs.Common.{List, ap, ◌∙◌}
use Rattle.std.specs.List.{filter}
use Rattle.lang_monitor.specs.declared.claim.Claim.{Claim}
use Rattle.report_tally.specs.CountedReports.{is_owed}
use Rattle.report_tally.proofs.owed.owed_claims.Goals as goal

pub returns : goal.returns
returns c = c.in_ok-owed.ensures ∙ ap (λ (all : List Claim). filter (is_owed c.args.counted.now) all) (c.deref.ensures.value ∙ c.in_ok-all.ensures)
