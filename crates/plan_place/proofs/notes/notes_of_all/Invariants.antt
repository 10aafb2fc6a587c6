use Rattle.std.specs.Prelude.{◌≡◌, length}
use Rattle.std.specs.List.{enumerate_from, flat_map}
use Rattle.plan_claims.specs.Backing.{AreProofs, unnoted_claims, untested_claims}
use Rattle.plan_place.specs.inner.Answers.{AreNotesOfEach}
use Rattle.plan_place.proofs.notes.notes_of_all.Given as goal

abbrev pub invariant-loop-index : goal.invariant-loop-index
invariant-loop-index l = record {
  many : length l.notes.items ≡ l.index;
  each : AreNotesOfEach l.monitor l.kept l.kinds l.notes.items;
  unnoted : AreProofs l.monitor l.kept (flat_map (λ one. unnoted_claims l.monitor one.0 one.1) (enumerate_from 0 l.notes.items)) l.found.unnoted.items;
  untested : AreProofs l.monitor l.kept (flat_map (λ one. untested_claims l.monitor one.0 one.1) (enumerate_from 0 l.notes.items)) l.found.untested.items;
}
