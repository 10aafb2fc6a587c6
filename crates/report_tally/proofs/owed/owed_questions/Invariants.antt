use Rattle.std.proofs.Common.{◌≡◌, take}
use Rattle.report_tally.specs.CountedReports.{owed_questions}
use Rattle.report_tally.proofs.owed.owed_questions.Given as goal

abbrev pub invariant-loop-index : goal.invariant-loop-index
invariant-loop-index l = l.owed.items ≡ owed_questions l.monitor l.plan (take l.index l.counted)
