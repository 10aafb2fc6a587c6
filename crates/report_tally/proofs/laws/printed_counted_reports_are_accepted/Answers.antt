use Rattle.report_tally.proofs.PrintedCounts.{counted_accepted_again, counted_read_again}
use Rattle.report_tally.proofs.laws.printed_counted_reports_are_accepted.Goals as goal

pub returns-clause-read : goal.returns-clause-read
returns-clause-read c = counted_read_again

pub returns-clause-accepted : goal.returns-clause-accepted
returns-clause-accepted c = counted_accepted_again
