use Rattle.report_tally.proofs.UncountedLines.{counted_verdict, plain_verdict, read_as_counted, same_text}
use Rattle.report_tally.proofs.laws.reports_are_uncounted.Goals as goal

pub returns-clause-text : goal.returns-clause-text
returns-clause-text c = same_text

pub returns-clause-read : goal.returns-clause-read
returns-clause-read c = read_as_counted

pub returns-clause-verdict : goal.returns-clause-verdict
returns-clause-verdict c = λ monitor report verdict is. (plain_verdict monitor report verdict, counted_verdict monitor report verdict is)
