use Rattle.std.specs.List.{enumerate_from}
use Rattle.report_proofs.specs.Fronts.{Anything}
use Rattle.report_proofs.proofs.Fronts.{AreGoing}
use Rattle.report_proofs.proofs.PlanParts.{numbered_line}
use Rattle.report_proofs.proofs.conditions.read_kinds.Given as goal

abbrev pub invariant-loop-index : goal.invariant-loop-index
invariant-loop-index l = AreGoing numbered_line Anything (enumerate_from 1 l.conditions) l.bytes l.index l.kinds.items l.rest
