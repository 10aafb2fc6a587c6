use Rattle.std.specs.List.{enumerate_from}
use Rattle.report_verdict.specs.Reports.{AreNotesOf}
use Rattle.report_proofs.proofs.Fronts.{AreGoing}
use Rattle.report_proofs.proofs.PlanParts.{block_line}
use Rattle.report_proofs.proofs.notes.read_lists.Given as goal

abbrev pub invariant-loop-index : goal.invariant-loop-index
invariant-loop-index l = AreGoing (block_line l.monitor) (AreNotesOf l.monitor) (enumerate_from 0 l.monitor.blocks) l.bytes l.index l.lists.items l.rest
