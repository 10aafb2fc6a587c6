use Rattle.report_tally.proofs.PrintedCounts.{nothing_open}
use Rattle.report_tally.proofs.laws.easy_countings_owe_nothing_open.Goals as goal

pub returns : goal.returns
returns c = nothing_open
