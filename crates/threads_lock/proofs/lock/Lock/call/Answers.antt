use Rattle.std.proofs.Common.{rules}
use Rattle.threads_lock.proofs.Calling.{distance_zero, turn_comes}
use Rattle.threads_lock.proofs.Stepping.{calls}
use Rattle.threads_lock.proofs.lock.Lock.call.Goals as goal

pub load-requires : goal.load-requires
load-requires c = let w = c.requires.waits in (search rules, search rules, calls _ _ _ _ w.0 w.2 c.requires.live)

pub returns-clause-turn : goal.returns-clause-turn
returns-clause-turn c = let w = c.requires.waits in turn_comes _ _ _ w.0 _ _ w.1 (distance_zero c.args.ticket c.load.result c.ranges.ticket.fits c.load.type_inv) (c.load.ensures.2 w.0 w.2)
