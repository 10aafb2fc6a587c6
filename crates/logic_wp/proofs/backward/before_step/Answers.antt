use Rattle.logic_wp.proofs.StepParts.{step_over, step_stops}
use Rattle.logic_wp.proofs.backward.before_step.Goals as goal

pub returns-in_default : goal.returns-in_default
returns-in_default c =
    step_stops c.args.step.now c.args.parts.now c.loop-part.part-index c.part-item.result c.in_ok-next.field-0 c.loop-part-test.true c.part-item.is c.in_ok-next.ensures c.in_default.is

pub returns-then-size-room : goal.returns-then-size-room
returns-then-size-room c =
    step_over c.args.step.now c.args.parts.now c.loop-part.made.items c.loop-part.part-index c.loop-part.room c.nodes-size.result c.part-item.result c.in-Some.next c.in_ok-next.field-0
    c.loop-part-test.true c.part-item.is c.in_ok-next.ensures c.in-Some.is c.nodes-size.ensures c.if-size-room.true c.loop-part.invariant
