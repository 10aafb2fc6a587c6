use Rattle.std.proofs.Common.{◌≡◌, ◌∷◌, ◌++◌, []}
use Rattle.plan_prune.proofs.rounds.keep.Given as goal

abbrev pub invariant-loop-proof : goal.invariant-loop-proof
invariant-loop-proof l = record {
  kept : l.round.kept.items ≡ l.fn.round.kept.items ++ l.fn.candidate ∷ [];
  proofs : l.round.proofs.items ≡ l.fn.round.proofs.items ++ l.yielded;
}
