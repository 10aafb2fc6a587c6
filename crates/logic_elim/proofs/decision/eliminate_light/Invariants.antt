use Rattle.logic_elim.specs.Chains.{state_of}
use Rattle.logic_elim.proofs.Rounds.{SoFar}
use Rattle.logic_elim.proofs.decision.eliminate_light.Given as goal

abbrev pub invariant-loop-round : goal.invariant-loop-round
invariant-loop-round l = SoFar l.round (state_of l.initial.left) (state_of l.left)
