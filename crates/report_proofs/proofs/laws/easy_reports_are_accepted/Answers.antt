use Rattle.report_proofs.proofs.SmallReports.{small_accepted}
use Rattle.report_proofs.proofs.laws.easy_reports_are_accepted.Goals as goal

pub returns : goal.returns
returns c = small_accepted c.fewer_kept_are_no_harder.ensures.within
