-- How many threads sleep on each condition, which the code counts beside the fields.
use Rattle.std.specs.Prelude.{◌≡◌, ◌==◌, ℕ, ◌+◌, List, [], ◌∷◌}
use Rattle.machine_events.specs.declared.plan.Note.{Note}
use Rattle.machine_events.specs.Counts.{one_if}
use Rattle.emit_code.specs.Executions.{Program, Position, Thread, Moment, NoneSleeps, AreNotified}
use Rattle.emit_code.specs.Executions.Position.{Outside, At, Asleep, Notified}

-- one where the thread is in `Condvar::wait` on the condition, asleep or notified
abbrev pub waits_on : ℕ → Position → ℕ
waits_on condition Outside = 0
waits_on condition (At rest) = 0
waits_on condition (Asleep block other rest) = one_if (other == condition)
waits_on condition (Notified block other rest) = one_if (other == condition)

-- how many are
abbrev pub waiting_on : List Thread → ℕ → ℕ
waiting_on [] condition = 0
waiting_on (first ∷ more) condition = waits_on condition first.position + waiting_on more condition

-- the count of each condition is how many threads are in `Condvar::wait` on it
abbrev pub SleepersAreCounted : Moment → Type 0
SleepersAreCounted last =
    (condition : ℕ) → last.asleep condition ≡ waiting_on last.threads condition

-- where it is 0 nobody sleeps on the condition
abbrev pub UncountedSleepNot : Moment → Type 0
UncountedSleepNot last =
    (condition : ℕ) → last.asleep condition ≡ 0 → NoneSleeps last.threads condition

-- and a note on it would do nothing: who leaves it out has made it
abbrev pub LeftOutIsMade : Program → Moment → Type 0
LeftOutIsMade program last =
    (note : Note) (woken : List Thread) → last.asleep note.condition ≡ 0
    → AreNotified program last note woken → woken ≡ last.threads
