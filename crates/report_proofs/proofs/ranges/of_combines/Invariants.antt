use Rattle.std.proofs.Common.{take}
use Rattle.std.specs.Prelude.{All}
use Rattle.logic_outline.specs.Outlines.{IsCombine}
use Rattle.report_proofs.proofs.ranges.of_combines.Given as goal

abbrev pub invariant-loop-combine : goal.invariant-loop-combine
invariant-loop-combine l = All IsCombine (take l.combine-index l.combines)
