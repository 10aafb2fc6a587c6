use Rattle.report_proofs.proofs.NoteLines.{IsGoing}
use Rattle.report_proofs.proofs.notes.read_each.Given as goal

abbrev pub invariant-loop-index : goal.invariant-loop-index
invariant-loop-index l = IsGoing l.monitor l.bytes l.index l.notes.items l.rest
