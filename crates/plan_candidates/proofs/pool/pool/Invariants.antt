use Rattle.std.proofs.Common.{◌≡◌, take}
use Rattle.lang_monitor.specs.Candidates.{distinct, MOST_BOUNDS}
use Rattle.plan_candidates.proofs.pool.pool.Given as goal

abbrev pub invariant-loop-number : goal.invariant-loop-number
invariant-loop-number l = l.pool.items ≡ take MOST_BOUNDS (distinct (take l.number-index l.number-items))
