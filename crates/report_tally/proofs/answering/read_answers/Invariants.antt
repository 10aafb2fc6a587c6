use Rattle.report_proofs.specs.Readings.{IsReadable}
use Rattle.report_proofs.proofs.Fronts.{AreGoing}
use Rattle.report_tally.specs.CountedReports.{answer_text}
use Rattle.report_tally.proofs.answering.read_answers.Given as goal

abbrev pub invariant-loop-index : goal.invariant-loop-index
invariant-loop-index l = AreGoing (answer_text l.monitor) IsReadable l.questions l.bytes l.index l.answers.items l.rest
