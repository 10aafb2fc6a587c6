use Rattle.std.proofs.Common.{◌≡◌, take}
use Rattle.std.specs.List.{filter}
use Rattle.plan_candidates.specs.inner.Starts.{starts_true}
use Rattle.plan_candidates.proofs.starts.passing.Given as goal

abbrev pub invariant-loop-candidate : goal.invariant-loop-candidate
invariant-loop-candidate l = l.kept.items ≡ filter (starts_true l.fields) (take l.candidate-index l.all)
