use Rattle.machine_stress.proofs.Callers.{one_more_caller}
use Rattle.machine_stress.proofs.clients.push_callers.Goals as goal

pub loop-number-preserved : goal.loop-number-preserved
loop-number-preserved c = one_more_caller c.args.letter.now c.args.method c.args.calls c.loop-number.number _ _ _ _ c.loop-number.invariant c.in_ok-caller.ensures c.in_ok-push.ensures.items
