use Rattle.logic_wp.proofs.BodyParts.{BodySoFar}
use Rattle.logic_wp.proofs.backward.+before.Given as goal

abbrev pub invariant-before_body-loop-left : goal.invariant-before_body-loop-left
invariant-before_body-loop-left l = BodySoFar l.body l.parts l.left l.made.items

abbrev pub decreases-before_body-loop-left : goal.decreases-before_body-loop-left
decreases-before_body-loop-left l = l.left
