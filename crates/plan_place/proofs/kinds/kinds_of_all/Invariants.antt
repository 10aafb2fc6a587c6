use Rattle.std.specs.Prelude.{◌≡◌, length}
use Rattle.std.specs.List.{enumerate_from, flat_map}
use Rattle.plan_claims.specs.Backing.{AreProofs, kind_claims}
use Rattle.plan_place.specs.inner.Answers.{AreKinds}
use Rattle.plan_place.proofs.kinds.kinds_of_all.Given as goal

abbrev pub invariant-loop-index : goal.invariant-loop-index
invariant-loop-index l = record {
  many : length l.kinds.items ≡ l.index;
  each : AreKinds l.monitor l.kept l.kinds.items;
  proved : AreProofs l.monitor l.kept (flat_map (λ one. kind_claims l.monitor one.0 one.1) (enumerate_from 1 l.kinds.items)) l.proofs.items;
}
