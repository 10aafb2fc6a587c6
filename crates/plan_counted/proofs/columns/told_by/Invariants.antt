use Rattle.std.specs.Prelude.{◌≡◌, All, length}
use Rattle.std.specs.List.{enumerate_from}
use Rattle.plan_counted.specs.inner.Answers.{IsToldAt}
use Rattle.plan_counted.proofs.columns.told_by.Given as goal

abbrev pub invariant-loop-index : goal.invariant-loop-index
invariant-loop-index l = record {
  many : length l.column.items ≡ l.index;
  each : All (IsToldAt l.monitor l.plan l.condition l.row) (enumerate_from 0 l.column.items);
}
