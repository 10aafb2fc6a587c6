use Rattle.std.specs.Prelude.{◌+◌}
use Rattle.plan_counted.specs.inner.Answers.{IsBestBefore}
use Rattle.plan_counted.proofs.columns.column.Given as goal

abbrev pub invariant-loop-index : goal.invariant-loop-index
invariant-loop-index l = IsBestBefore l.monitor l.plan l.condition (l.index + 1) l.best
