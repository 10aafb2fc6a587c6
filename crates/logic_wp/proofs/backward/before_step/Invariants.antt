use Rattle.logic_wp.proofs.StepParts.{StepSoFar}
use Rattle.logic_wp.proofs.backward.before_step.Given as goal

abbrev pub invariant-loop-part : goal.invariant-loop-part
invariant-loop-part l = StepSoFar l.step l.parts l.part-index l.made.items l.room
