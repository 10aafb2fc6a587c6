use Rattle.report_proofs.specs.Readings.{IsReadable}
use Rattle.report_proofs.specs.ReportTexts.{proof_text}
use Rattle.report_proofs.proofs.Fronts.{AreGoing}
use Rattle.report_proofs.proofs.report_reading.read_proofs.Given as goal

abbrev pub invariant-loop-index : goal.invariant-loop-index
invariant-loop-index l = AreGoing (proof_text l.monitor) IsReadable l.claims l.bytes l.index l.proofs.items l.rest
