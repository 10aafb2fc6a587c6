-- The command that arguments ask for, computed.
use Rattle.std.specs.Prelude.{ℕ, ◌&&◌, ◌||◌, ◌==◌, List, [], ◌∷◌, Option, Some, None, Bool, true}
use Rattle.std.specs.Prelude.{false}
use Rattle.std.specs.Prelude.{bytes_eq, codes, is_some, cond, length, nat_le, nat_lt}
use Rattle.std.specs.Prelude.{option_and_then, option_map}
use Rattle.std.specs.List.{list_all}
use Rattle.lang_base.specs.Identifiers.{is_digit}
use Rattle.lang_base.specs.Limits.{MOST_SPURIOUS, WORKERS}
use Rattle.lang_tokens.specs.Words.{decimal_value}
use Rattle.front_command.specs.declared.schedule.Schedule.{Schedule}
use Rattle.front_command.specs.declared.schedule.Schedule.TheVariants.{Rounds, Drawn}
use Rattle.front_command.specs.CommandLine.{Given, Command, check, turns, compile, simulate, run}
use Rattle.front_command.specs.CommandLine.{stress, report, recheck, block, audit, explain, emit, version}
use Rattle.front_command.specs.CommandLine.{GREATEST_UNSIGNED, DEFAULT_WORKERS, MOST_DIGITS}
use Rattle.front_command.specs.CommandLine.{choice_in}

-- 1 to `MOST_DIGITS` decimal digits
abbrev pub is_written : List ℕ → Bool
is_written word =
    nat_lt 0 (length word) && (nat_le (length word) MOST_DIGITS && list_all is_digit word)

abbrev pub within : ℕ → ℕ → Option ℕ
within most number = cond (nat_le number most) (Some number) None

-- the number that the word is, at most so much
abbrev pub number_if : ℕ → List ℕ → Option ℕ
number_if most word = cond (is_written word) (within most (decimal_value word)) None

abbrev pub spurious_if : Option (List ℕ) → Option ℕ
spurious_if None = Some 0
spurious_if (Some word) = number_if MOST_SPURIOUS word

abbrev pub schedule_if : Option (List ℕ) → Option (List ℕ) → Option Schedule
schedule_if None None = Some Rounds
schedule_if None (Some word) = None
schedule_if (Some seed) spurious =
    option_and_then (λ number. option_map (λ extra. Drawn number extra) (spurious_if spurious))
    (number_if GREATEST_UNSIGNED seed)

-- a number of workers is not 0
abbrev pub some_workers : ℕ → Option ℕ
some_workers number = cond (number == 0) None (Some number)

abbrev pub workers_if : Option (List ℕ) → Option ℕ
workers_if None = Some DEFAULT_WORKERS
workers_if (Some word) = option_and_then some_workers (number_if WORKERS word)

-- whether a schedule is asked for
abbrev pub has_schedule : Given → Bool
has_schedule given = is_some given.seed || is_some given.spurious

-- whether a schedule or workers are asked for
abbrev pub has_settings : Given → Bool
has_settings given = has_schedule given || is_some given.workers

-- whether another plan is asked for than the one that is placed
abbrev pub has_choice : Given → Bool
has_choice given = given.relay || given.count

abbrev pub stress_if : Given → List ℕ → Option Command
stress_if given word = cond (has_schedule given || has_choice given) None
    (option_and_then (λ number. option_map (λ workers. stress number workers) (workers_if
    given.workers)) (number_if GREATEST_UNSIGNED word))

abbrev pub run_if : Given → List ℕ → List ℕ → Option Command
run_if given monitor clients = cond (has_schedule given) None
    (option_map (λ workers. run monitor clients workers (choice_in given))
    (workers_if given.workers))

abbrev pub simulate_if : Given → List ℕ → List ℕ → Option Command
simulate_if given monitor clients = cond (is_some given.workers) None
    (option_map (λ schedule. simulate monitor clients schedule (choice_in given))
    (schedule_if given.seed given.spurious))

abbrev pub compile_if : Given → List ℕ → Option Command
compile_if given monitor =
    cond (has_settings given) None (Some (compile monitor (choice_in given)))

-- a command whose options are `--count` and `--fits` alone
abbrev pub counted_if : Given → Command → Option Command
counted_if given command = cond (has_settings given || given.relay) None (Some command)

-- a command that has no options but `--fits`
abbrev pub plain_if : Given → Command → Option Command
plain_if given command = cond given.count None (counted_if given command)

-- the word is this name
abbrev pub is_named : Option (List ℕ) → List ℕ → Bool
is_named None name = false
is_named (Some word) name = bytes_eq word name

-- the command of one value
abbrev pub single_if : Given → List ℕ → Option Command
single_if given value =
    cond (is_named given.command (codes "check")) (plain_if given (check value))
    (cond (is_named given.command (codes "compile")) (compile_if given value)
    (cond (is_named given.command (codes "stress")) (stress_if given value)
    (cond (is_named given.command (codes "report"))
    (counted_if given (report value given.count false))
    (cond (is_named given.command (codes "explain"))
    (counted_if given (explain value given.count false))
    (cond (is_named given.command (codes "emit")) (plain_if given (emit value)) None)))))

-- the command of two values
abbrev pub pair_if : Given → List ℕ → List ℕ → Option Command
pair_if given monitor other =
    cond (is_named given.command (codes "turns")) (plain_if given (turns monitor other))
    (cond (is_named given.command (codes "simulate")) (simulate_if given monitor other)
    (cond (is_named given.command (codes "run")) (run_if given monitor other)
    (cond (is_named given.command (codes "recheck")) (plain_if given (recheck monitor other))
    (cond (is_named given.command (codes "block"))
    (counted_if given (block monitor other (choice_in given)))
    (cond (is_named given.command (codes "audit"))
    (counted_if given (audit monitor other given.count))
    None)))))

-- the command that these values ask for
abbrev pub command_of_values : Given → List (List ℕ) → Option Command
command_of_values given [] = None
command_of_values given (value ∷ []) = single_if given value
command_of_values given (monitor ∷ other ∷ []) = pair_if given monitor other
command_of_values given (value ∷ other ∷ another ∷ more) = None

-- the command of one value that says which blocks keep 64 bits
abbrev pub fitting_if : Given → List ℕ → Option Command
fitting_if given value =
    cond (is_named given.command (codes "report"))
    (counted_if given (report value given.count true))
    (cond (is_named given.command (codes "explain"))
    (counted_if given (explain value given.count true)) None)

-- the command of these values that does
abbrev pub fitting_of_values : Given → List (List ℕ) → Option Command
fitting_of_values given [] = None
fitting_of_values given (value ∷ []) = fitting_if given value
fitting_of_values given (value ∷ other ∷ more) = None

-- the command that is named
abbrev pub named_if : Given → Option Command
named_if given =
    cond given.fits (fitting_of_values given given.values) (command_of_values given given.values)

-- the version, where neither a command nor `--fits` is given beside it
abbrev pub version_if : Given → Option Command
version_if given = cond (is_some given.command || given.fits) None (plain_if given version)

-- what these values ask for where `--version` is used
abbrev pub version_of_values : Given → List (List ℕ) → Option Command
version_of_values given [] = version_if given
version_of_values given (value ∷ more) = None

abbrev pub command_if : Given → Option Command
command_if given = cond given.version (version_of_values given given.values) (named_if given)
