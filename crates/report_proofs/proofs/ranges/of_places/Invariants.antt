use Rattle.std.proofs.Common.{take}
use Rattle.std.specs.Prelude.{All}
use Rattle.logic_outline.specs.Outlines.{HasTypedPlace}
use Rattle.report_proofs.proofs.ranges.of_places.Given as goal

abbrev pub invariant-loop-term : goal.invariant-loop-term
invariant-loop-term l = All HasTypedPlace (take l.term-index l.terms)
