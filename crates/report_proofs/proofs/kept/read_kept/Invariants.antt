use Rattle.report_proofs.proofs.KeptLines.{IsGoing}
use Rattle.report_proofs.proofs.kept.read_kept.Given as goal

abbrev pub invariant-loop-index : goal.invariant-loop-index
invariant-loop-index l = IsGoing l.monitor l.all.items l.bytes l.index l.kept.items l.rest
