use Rattle.threads_lock.proofs.Standings.{stands_as}
use Rattle.threads_lock.proofs.standing.standing_of.Goals as goal

pub returns : goal.returns
returns c =
    stands_as c.args.free.now c.args.client c.is_ready-ready.result c.is_waiting-waits.result c.is_stalled-stalled.result c.stage-stage.result c.standing_by.result
    c.is_ready-ready.ensures.always c.is_ready-ready.ensures.ready c.stage-stage.ensures.stage c.is_waiting-waits.ensures c.is_stalled-stalled.ensures c.standing_by.ensures
