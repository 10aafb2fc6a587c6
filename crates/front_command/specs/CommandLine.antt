-- The command line: what its words give, and the command that they ask for.
use Rattle.std.specs.Prelude.{◌≡◌, ◌<◌, ◌≤◌, ℕ, Bool, true, false, List, [], ◌∷◌, All, Option, Some}
use Rattle.std.specs.Prelude.{None, bytes_eq, codes, length, unwrap_or}
use Rattle.clap.specs.Words.{App, Rule, Text, new_app, new_rule, with_rule, fault_of, matches_of}
use Rattle.clap.specs.Words.{first_of, all_of}
use Rattle.clap.specs.Lexer.{usize_max}
use Rattle.clap.specs.declared.builder.action.ArgAction.TheVariants.{Set, Append, SetTrue}
use Rattle.lang_base.specs.Identifiers.{is_digit}
use Rattle.lang_base.specs.Limits.{MOST_SPURIOUS, WORKERS}
use Rattle.lang_tokens.specs.Words.{decimal_value}
use Rattle.front_command.specs.declared.plan_choice.PlanChoice.{PlanChoice}
use Rattle.front_command.specs.declared.plan_choice.PlanChoice.TheVariants.{Placed, Relayed}
use Rattle.front_command.specs.declared.plan_choice.PlanChoice.TheVariants.{Counted}
use Rattle.front_command.specs.declared.plan_choice.PlanChoice.TheVariants.{CountedAndRelayed}
use Rattle.front_command.specs.declared.schedule.Schedule.{Schedule}
use Rattle.front_command.specs.declared.schedule.Schedule.TheVariants.{Rounds, Drawn}

-- a command, with the words that name its files
pub data Command : Type 0 where
  -- checks a monitor file
  check : List ℕ → Command
  -- runs the clients of the second file on the monitor of the first
  turns : List ℕ → List ℕ → Command
  -- compiles a monitor to a plan, of which the choice says which one
  compile : List ℕ → PlanChoice → Command
  -- runs them by sections by this schedule, under such a plan of the monitor
  simulate : List ℕ → List ℕ → Schedule → PlanChoice → Command
  -- runs them under such a plan in so many workers
  run : List ℕ → List ℕ → ℕ → PlanChoice → Command
  -- runs the large input of this number in so many workers
  stress : ℕ → ℕ → Command
  -- compiles a monitor to a plan with its certificates, or with `--count` to a counted plan, and
  -- with `--fits` says which blocks keep 64 bits
  report : List ℕ → Bool → Bool → Command
  -- checks such a report, the second file, of the monitor of the first
  recheck : List ℕ → List ℕ → Command
  -- runs the clients of the second file on the monitor of the first, under such a plan, by a caller
  -- for each client
  block : List ℕ → List ℕ → PlanChoice → Command
  -- says whether a plan, the second file, is lawful for the monitor of the first, or with `--count`
  -- whether it is so by counting
  audit : List ℕ → List ℕ → Bool → Command
  -- compiles a monitor to a plan, or with `--count` to that one counted, and shows why each thing
  -- stands that costs something, and with `--fits` why blocks may leave 64 bits
  explain : List ℕ → Bool → Bool → Command
  -- compiles a monitor to a plan, and prints it under that plan as a module of Rust
  emit : List ℕ → Command
  -- tells the program's name and version
  version : Command

-- ---- the arguments

-- the command's name, which may be left out
abbrev pub command_rule : Rule
command_rule = record (new_rule (codes "command")) { action = Some Set }

-- any number of values after it
abbrev pub values_rule : Rule
values_rule = record (new_rule (codes "values")) {
  range = Some (record { start_inclusive = 0; end_inclusive = usize_max });
  action = Some Append;
}

-- an option with one text, as `--name TEXT`
abbrev pub option_rule : Text → Rule
option_rule name = record (new_rule name) { long = Some name; action = Some Set }

-- an option without a text, as `--name`
abbrev pub flag_rule : Text → Rule
flag_rule name = record (new_rule name) { long = Some name; action = Some SetTrue }

-- `--version`, or `-V`
abbrev pub version_rule : Rule
version_rule = record (flag_rule (codes "version")) { short = Some 86 }

-- the command line, as `clap` defines it
abbrev pub program : App
program = with_rule (with_rule (with_rule (with_rule (with_rule (with_rule (with_rule (with_rule
    (with_rule (new_app (codes "expresso")) command_rule) values_rule)
    (option_rule (codes "seed"))) (option_rule (codes "spurious")))
    (option_rule (codes "workers"))) (flag_rule (codes "relay"))) (flag_rule (codes "count")))
    (flag_rule (codes "fits"))) version_rule

-- a flag is used, of which `clap` gives this text: `true` where it is, else `false`
abbrev pub is_used : Option Text → Bool
is_used None = false
is_used (Some text) = bytes_eq text (codes "true")

-- what is given for each argument
pub record Given : Type 0 where
  pub command : Option Text
  pub values : List Text
  pub seed : Option Text
  pub spurious : Option Text
  pub workers : Option Text
  -- `--relay` is used
  pub relay : Bool
  -- `--count` is used
  pub count : Bool
  -- `--fits` is used
  pub fits : Bool
  -- `--version` is used
  pub version : Bool

-- `clap` takes the words, the program's name first, and its matches are these
pub record IsGiven (words : List Text) (given : Given) : Type 0 where
  pub taken : fault_of program words ≡ []
  pub command_is : first_of (codes "command") (matches_of program words) ≡ given.command
  pub values_are : unwrap_or (all_of (codes "values") (matches_of program words)) [] ≡ given.values
  pub seed_is : first_of (codes "seed") (matches_of program words) ≡ given.seed
  pub spurious_is : first_of (codes "spurious") (matches_of program words) ≡ given.spurious
  pub workers_is : first_of (codes "workers") (matches_of program words) ≡ given.workers
  pub relay_is : is_used (first_of (codes "relay") (matches_of program words)) ≡ given.relay
  pub count_is : is_used (first_of (codes "count") (matches_of program words)) ≡ given.count
  pub fits_is : is_used (first_of (codes "fits") (matches_of program words)) ≡ given.fits
  pub version_is : is_used (first_of (codes "version") (matches_of program words)) ≡ given.version

-- ---- numbers

-- the greatest seed, and the greatest number of a large input: 2^64 - 1
abbrev pub GREATEST_UNSIGNED : ℕ
GREATEST_UNSIGNED = 18446744073709551615

-- the workers of a run where the words give no number of them
abbrev pub DEFAULT_WORKERS : ℕ
DEFAULT_WORKERS = 4

-- the most decimal digits of a number
abbrev pub MOST_DIGITS : ℕ
MOST_DIGITS = 20

-- the word is this number, in 1 to `MOST_DIGITS` decimal digits, and the number is at most so much
pub record IsNumber (most : ℕ) (word : List ℕ) (number : ℕ) : Type 0 where
  pub some : 0 < length word
  pub short : length word ≤ MOST_DIGITS
  pub digits : All (λ b. is_digit b ≡ true) word
  pub value : decimal_value word ≡ number
  pub within : number ≤ most

-- ---- options

-- no spurious wake-ups are made where none are asked for
abbrev pub IsSpurious : Option Text → ℕ → Type 0
IsSpurious None number = number ≡ 0
IsSpurious (Some word) number = IsNumber MOST_SPURIOUS word number

-- the schedule that `--seed` and `--spurious` ask for: rounds where neither is given, and no
-- spurious wake-ups without a seed
abbrev pub IsSchedule : Option Text → Option Text → Schedule → Type 0
IsSchedule seed spurious Rounds = (seed ≡ None) × (spurious ≡ None)
IsSchedule seed spurious (Drawn number extra) =
    (word : Text) × (seed ≡ Some word) × IsNumber GREATEST_UNSIGNED word number
    × IsSpurious spurious extra

-- `--workers` asks for 1 to 16 workers
abbrev pub IsWorkers : Option Text → ℕ → Type 0
IsWorkers None number = number ≡ DEFAULT_WORKERS
IsWorkers (Some word) number = IsNumber WORKERS word number × (1 ≤ number)

-- what `--relay` and `--count` ask for: relayed signals, counted conditions, or both
abbrev pub choice_of : Bool → Bool → PlanChoice
choice_of false false = Placed
choice_of true false = Relayed
choice_of false true = Counted
choice_of true true = CountedAndRelayed

-- the choice that is asked for
abbrev pub choice_in : Given → PlanChoice
choice_in given = choice_of given.relay given.count

-- ---- commands

-- the word that names a command; the version is asked for by an option
abbrev pub name_of : Command → Option Text
name_of (check monitor) = Some (codes "check")
name_of (turns monitor clients) = Some (codes "turns")
name_of (compile monitor choice) = Some (codes "compile")
name_of (simulate monitor clients schedule choice) = Some (codes "simulate")
name_of (run monitor clients workers choice) = Some (codes "run")
name_of (stress number workers) = Some (codes "stress")
name_of (report monitor count fits) = Some (codes "report")
name_of (recheck monitor report_file) = Some (codes "recheck")
name_of (block monitor clients choice) = Some (codes "block")
name_of (audit monitor plan_file count) = Some (codes "audit")
name_of (explain monitor count fits) = Some (codes "explain")
name_of (emit monitor) = Some (codes "emit")
name_of version = None

-- what the other file of a command is, beside that of a monitor
pub data Other : Type 0 where
  -- clients of the monitor
  as_clients : Other
  -- a report of it
  as_report : Other
  -- a plan of it, whose signals may be counted or not
  as_plan : Bool → Other

-- the files of a command: none, that of a monitor, or that and another one
pub data CommandFiles : Type 0 where
  no_files : CommandFiles
  one_file : List ℕ → CommandFiles
  two_files : Other → List ℕ → List ℕ → CommandFiles

-- the files that a command reads
abbrev pub reads : Command → CommandFiles
reads (check monitor) = one_file monitor
reads (turns monitor clients) = two_files as_clients monitor clients
reads (compile monitor choice) = one_file monitor
reads (simulate monitor clients schedule choice) = two_files as_clients monitor clients
reads (run monitor clients workers choice) = two_files as_clients monitor clients
reads (stress number workers) = no_files
reads (report monitor count fits) = one_file monitor
reads (recheck monitor report_file) = two_files as_report monitor report_file
reads (block monitor clients choice) = two_files as_clients monitor clients
reads (audit monitor plan_file count) = two_files (as_plan count) monitor plan_file
reads (explain monitor count fits) = one_file monitor
reads (emit monitor) = one_file monitor
reads version = no_files

-- their names, in order
abbrev pub names_in : CommandFiles → List (List ℕ)
names_in no_files = []
names_in (one_file monitor) = monitor ∷ []
names_in (two_files other monitor file) = monitor ∷ file ∷ []

abbrev pub files_of : Command → List (List ℕ)
files_of command = names_in (reads command)

-- the values are the names of the command's files, and of `stress` its number
abbrev pub HasValues : List Text → Command → Type 0
HasValues values (stress number workers) =
    (word : Text) × (values ≡ word ∷ []) × IsNumber GREATEST_UNSIGNED word number
HasValues values command = values ≡ files_of command

abbrev pub HasNoSchedule : Given → Type 0
HasNoSchedule given = (given.seed ≡ None) × (given.spurious ≡ None)

abbrev pub HasNoChoice : Given → Type 0
HasNoChoice given = (given.relay ≡ false) × (given.count ≡ false)

abbrev pub HasNoOptions : Given → Type 0
HasNoOptions given = HasNoSchedule given × (given.workers ≡ None) × HasNoChoice given

-- whether the command says which blocks keep 64 bits
abbrev pub wants_fits : Command → Bool
wants_fits (report monitor count fits) = fits
wants_fits (explain monitor count fits) = fits
wants_fits command = false

-- whether the command is to tell the version
abbrev pub is_version : Command → Bool
is_version version = true
is_version command = false

-- the options but for `--fits` and `--version` are the command's own: a schedule for `simulate`,
-- workers for `run` and `stress`, `--relay` for `compile`, `simulate` and `run`, and `--count` for
-- these, `report`, `block`, `audit` and `explain`
abbrev pub HasOptions : Given → Command → Type 0
HasOptions given (check monitor) = HasNoOptions given
HasOptions given (turns monitor clients) = HasNoOptions given
HasOptions given (compile monitor choice) =
    HasNoSchedule given × (given.workers ≡ None) × (choice_in given ≡ choice)
HasOptions given (simulate monitor clients schedule choice) =
    IsSchedule given.seed given.spurious schedule × (given.workers ≡ None)
    × (choice_in given ≡ choice)
HasOptions given (run monitor clients workers choice) =
    HasNoSchedule given × IsWorkers given.workers workers × (choice_in given ≡ choice)
HasOptions given (stress number workers) =
    HasNoSchedule given × IsWorkers given.workers workers × HasNoChoice given
HasOptions given (report monitor count fits) =
    HasNoSchedule given × (given.workers ≡ None) × (given.relay ≡ false) × (given.count ≡ count)
HasOptions given (recheck monitor report_file) = HasNoOptions given
HasOptions given (block monitor clients choice) =
    HasNoSchedule given × (given.workers ≡ None) × (given.relay ≡ false)
    × (choice_in given ≡ choice)
HasOptions given (audit monitor plan_file count) =
    HasNoSchedule given × (given.workers ≡ None) × (given.relay ≡ false) × (given.count ≡ count)
HasOptions given (explain monitor count fits) =
    HasNoSchedule given × (given.workers ≡ None) × (given.relay ≡ false) × (given.count ≡ count)
HasOptions given (emit monitor) = HasNoOptions given
HasOptions given version = HasNoOptions given

-- the arguments ask for the command
pub record Asks (given : Given) (command : Command) : Type 0 where
  pub name : given.command ≡ name_of command
  pub has_values : HasValues given.values command
  pub has_options : HasOptions given command
  pub has_fits : given.fits ≡ wants_fits command
  pub has_version : given.version ≡ is_version command

-- ---- words

-- the words, the program's name first, are those of the command
abbrev pub Takes : List (List ℕ) → Command → Type 0
Takes words command = (given : Given) × IsGiven words given × Asks given command

-- the words ask for no command
abbrev pub TakesNone : List (List ℕ) → Type 0
TakesNone words = (command : Command) → Takes words command → ⊥

-- each file that the words name is one that may be read
abbrev pub MayReadFiles : (List ℕ → Type 0) → List (List ℕ) → Type 0
MayReadFiles may_read words =
    (command : Command) → Takes words command → All may_read (files_of command)
