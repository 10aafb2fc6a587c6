use Rattle.std.proofs.Common.{take}
use Rattle.std.specs.Prelude.{None}
use Rattle.logic_elim.specs.Begins.{IsPlaceOf}
use Rattle.logic_elim.specs.Chains.{rows_in}
use Rattle.logic_elim.proofs.decision.some_place.Given as goal

abbrev pub invariant-loop-numbered : goal.invariant-loop-numbered
invariant-loop-numbered l = IsPlaceOf (rows_in (take l.numbered-index l.numbered-items)) None
