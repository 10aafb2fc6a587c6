-- What the law says: each run of the large input that ends is done.
use Rattle.std.specs.Prelude.{◌≡◌, ℕ, pos, List, [], ◌∷◌, length}
use Rattle.lang_base.specs.declared.value.Value.TheVariants as values
use Rattle.machine_implicit.specs.declared.commit.Commit.{Commit}
use Rattle.machine_implicit.specs.Runs.{Situation, IsRun, Ends, IsFinished}
use Rattle.machine_stress.specs.LargeInput.{ALL_CALLS, buffer_of}
use Rattle.machine_stress.specs.LargeInput.{capacity_of, producers_and_consumers}

-- every call of every client is done, each by one commit, and the buffer is empty
pub record IsDone (history : List Commit) (now : Situation) : Type 0 where
  pub finished : IsFinished producers_and_consumers now
  pub calls : length history ≡ ALL_CALLS
  pub empty : now.state ≡ values.Int (pos 0) ∷ []

-- whatever the number and whoever acts when
abbrev pub EveryLargeRunEndsDone : Type 0
EveryLargeRunEndsDone = (number : ℕ) (history : List Commit) (now : Situation)
    → IsRun (buffer_of (capacity_of number)) producers_and_consumers history now
    → Ends (buffer_of (capacity_of number)) producers_and_consumers now
    → IsDone history now
