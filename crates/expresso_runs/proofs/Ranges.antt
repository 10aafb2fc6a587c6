-- The numbers of a command that words ask for are in range.
use Rattle.std.proofs.Common.{ℕ, ◌≤◌, List, Option, Some, None, arith}
use Rattle.lang_base.specs.Limits.{MOST_SPURIOUS, WORKERS}
use Rattle.front_command.specs.declared.schedule.Schedule.{Schedule}
use Rattle.front_command.specs.declared.schedule.Schedule.TheVariants.{Rounds, Drawn}
use Rattle.front_command.specs.CommandLine.{Command, simulate, run, stress, IsSchedule, IsSpurious, IsWorkers, Takes}
use Rattle.expresso_answers.specs.Simulations.{most_spurious}
use Rattle.expresso_runs.specs.Ranges.{IsInRange}

few_spurious : (word : Option (List ℕ)) (number : ℕ) → IsSpurious word number → number ≤ MOST_SPURIOUS
few_spurious None number is = omega (arith, is)
few_spurious (Some word) number is = is.within

few_of_schedule : (seed spurious : Option (List ℕ)) (schedule : Schedule) → IsSchedule seed spurious schedule → most_spurious schedule ≤ MOST_SPURIOUS
few_of_schedule seed spurious Rounds is = omega arith
few_of_schedule seed spurious (Drawn number extra) (word, seed_is, seed_number, extra_is) = few_spurious spurious extra extra_is

few_workers : (word : Option (List ℕ)) (number : ℕ) → IsWorkers word number → (1 ≤ number) × (number ≤ WORKERS)
few_workers None number is = (omega (arith, is), omega (arith, is))
few_workers (Some word) number (is, some) = (some, is.within)

pub in_range : (words : List (List ℕ)) (command : Command) → Takes words command → IsInRange command
in_range words (simulate monitor clients schedule choice) (given, is, asks) = few_of_schedule given.seed given.spurious schedule (asks.has_options).0
in_range words (run monitor clients workers choice) (given, is, asks) = few_workers given.workers workers (asks.has_options).1
in_range words (stress number workers) (given, is, asks) = few_workers given.workers workers (asks.has_options).1
in_range words command taken = tt
