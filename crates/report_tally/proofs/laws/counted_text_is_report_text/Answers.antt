use Rattle.report_tally.proofs.CountingReports.{report_of, text_of}
use Rattle.report_tally.proofs.laws.counted_text_is_report_text.Goals as goal

pub returns-clause-text : goal.returns-clause-text
returns-clause-text c = text_of

pub returns-clause-report : goal.returns-clause-report
returns-clause-report c = report_of
