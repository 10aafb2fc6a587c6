-- The ranges of the numbers of commands.
use Rattle.std.specs.Prelude.{◌≤◌, ℕ}
use Rattle.lang_base.specs.Limits.{MOST_SPURIOUS, WORKERS}
use Rattle.front_command.specs.CommandLine.{Command, simulate, run, stress}
use Rattle.expresso_answers.specs.Simulations.{most_spurious}

-- workers of a run: at least one, and no more than there may be
abbrev pub AreWorkers : ℕ → Type 0
AreWorkers workers = (1 ≤ workers) × (workers ≤ WORKERS)

-- no more workers and no more spurious wake-ups than there may be, and at least one worker
abbrev pub IsInRange : Command → Type 0
IsInRange (simulate monitor clients schedule choice) = most_spurious schedule ≤ MOST_SPURIOUS
IsInRange (run monitor clients workers choice) = AreWorkers workers
IsInRange (stress number workers) = AreWorkers workers
IsInRange command = Unit {0}
