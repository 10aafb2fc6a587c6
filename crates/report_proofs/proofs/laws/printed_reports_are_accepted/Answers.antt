use Rattle.report_proofs.proofs.PrintedReports.{accepted_again, read_again}
use Rattle.report_proofs.proofs.laws.printed_reports_are_accepted.Goals as goal

pub returns-clause-read : goal.returns-clause-read
returns-clause-read c = read_again

pub returns-clause-accepted : goal.returns-clause-accepted
returns-clause-accepted c = accepted_again c.fewer_kept_are_no_harder.ensures.within
