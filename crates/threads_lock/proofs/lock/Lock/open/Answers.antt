use Rattle.std.proofs.Common.{rules, arith}
use Rattle.threads_lock.proofs.Seating.{opens_with}
use Rattle.threads_lock.proofs.lock.Lock.open.Goals as goal

pub new-requires : goal.new-requires
new-requires c = opens_with _ _ c.args.free (search rules) c.of.ensures c.log.ensures.always (omega (arith, c.from.ensures, c.requires.some)) (omega (arith, c.from.ensures, c.ranges.passes.fits)) _ (search rules)
