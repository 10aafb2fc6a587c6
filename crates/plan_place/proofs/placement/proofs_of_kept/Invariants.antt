use Rattle.std.specs.Prelude.{◌≡◌, map}
use Rattle.plan_place.specs.inner.Answers.{proof_of_kept}
use Rattle.plan_place.proofs.placement.proofs_of_kept.Given as goal

abbrev pub invariant-loop-kept : goal.invariant-loop-kept
invariant-loop-kept l = l.proofs.items ≡ map proof_of_kept l.yielded
