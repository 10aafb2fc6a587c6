use Rattle.std.specs.Prelude.{◌≡◌, All, length}
use Rattle.std.specs.List.{enumerate_from}
use Rattle.plan_counted.specs.inner.Answers.{IsColumn}
use Rattle.plan_counted.proofs.columns.columns_of.Given as goal

abbrev pub invariant-loop-index : goal.invariant-loop-index
invariant-loop-index l = record {
  many : length l.all.items ≡ l.index;
  each : All (λ one. IsColumn l.monitor l.plan one.0 one.1) (enumerate_from 1 l.all.items);
}
