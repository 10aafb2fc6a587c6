use Rattle.std.proofs.Common.{[], ◌∷◌, List, ℕ, Bool, Some, None, true, false, codes, refl}
use Rattle.clap.specs.declared.error.kind.ErrorKind.TheVariants.{ArgumentConflict, DisplayHelp}
use Rattle.clap.proofs.OnLiterals.{clap_on_literals}
use Rattle.front_command.specs.declared.plan_choice.PlanChoice.TheVariants.{Counted, CountedAndRelayed, Placed, Relayed}
use Rattle.front_command.specs.CommandLine.{Given, block, check, compile, explain, report, run, version}
use Rattle.front_command.proofs.Words.{taken_by, untaken_by, refused}
use Rattle.front_command.proofs.laws.words_taken.Goals as goal

abbrev run_given : List ℕ → Given
run_given workers = record { command = Some (codes "run"); values = codes "M" ∷ codes "C" ∷ []; seed = None; spurious = None; workers = Some workers; relay = false; count = false; fits = false; version = false }

pub returns-clause-default_workers : goal.returns-clause-default_workers
unfolding clap_on_literals
returns-clause-default_workers c =
    taken_by _ (record (run_given []) { workers = None }) (run (codes "M") (codes "C") 4 Placed)
    (record { taken = refl; command_is = refl; values_are = refl; seed_is = refl; spurious_is = refl; workers_is = refl; relay_is = refl; count_is = refl; fits_is = refl; version_is = refl }) refl

pub returns-clause-options_first : goal.returns-clause-options_first
unfolding clap_on_literals
returns-clause-options_first c =
    taken_by _ (run_given (codes "2")) (run (codes "M") (codes "C") 2 Placed)
    (record { taken = refl; command_is = refl; values_are = refl; seed_is = refl; spurious_is = refl; workers_is = refl; relay_is = refl; count_is = refl; fits_is = refl; version_is = refl }) refl

pub returns-clause-one_word : goal.returns-clause-one_word
unfolding clap_on_literals
returns-clause-one_word c =
    taken_by _ (run_given (codes "2")) (run (codes "M") (codes "C") 2 Placed)
    (record { taken = refl; command_is = refl; values_are = refl; seed_is = refl; spurious_is = refl; workers_is = refl; relay_is = refl; count_is = refl; fits_is = refl; version_is = refl }) refl

pub returns-clause-hyphen : goal.returns-clause-hyphen
unfolding clap_on_literals
returns-clause-hyphen c =
    taken_by _ (record { command = Some (codes "check"); values = codes "-m" ∷ []; seed = None; spurious = None; workers = None; relay = false; count = false; fits = false; version = false }) (check (codes "-m"))
    (record { taken = refl; command_is = refl; values_are = refl; seed_is = refl; spurious_is = refl; workers_is = refl; relay_is = refl; count_is = refl; fits_is = refl; version_is = refl }) refl

pub returns-clause-twice : goal.returns-clause-twice
unfolding clap_on_literals
returns-clause-twice c = refused _ ArgumentConflict refl

pub returns-clause-help : goal.returns-clause-help
unfolding clap_on_literals
returns-clause-help c = refused _ DisplayHelp refl

pub returns-clause-no_seed : goal.returns-clause-no_seed
unfolding clap_on_literals
returns-clause-no_seed c =
    untaken_by _ (record { command = Some (codes "simulate"); values = codes "M" ∷ codes "C" ∷ []; seed = None; spurious = Some (codes "2"); workers = None; relay = false; count = false; fits = false; version = false })
    (record { taken = refl; command_is = refl; values_are = refl; seed_is = refl; spurious_is = refl; workers_is = refl; relay_is = refl; count_is = refl; fits_is = refl; version_is = refl }) refl

pub returns-clause-too_many : goal.returns-clause-too_many
unfolding clap_on_literals
returns-clause-too_many c =
    untaken_by _ (run_given (codes "17"))
    (record { taken = refl; command_is = refl; values_are = refl; seed_is = refl; spurious_is = refl; workers_is = refl; relay_is = refl; count_is = refl; fits_is = refl; version_is = refl }) refl

pub returns-clause-relayed : goal.returns-clause-relayed
unfolding clap_on_literals
returns-clause-relayed c =
    taken_by _ (record { command = Some (codes "compile"); values = codes "M" ∷ []; seed = None; spurious = None; workers = None; relay = true; count = false; fits = false; version = false }) (compile (codes "M") Relayed)
    (record { taken = refl; command_is = refl; values_are = refl; seed_is = refl; spurious_is = refl; workers_is = refl; relay_is = refl; count_is = refl; fits_is = refl; version_is = refl }) refl

pub returns-clause-no_relay : goal.returns-clause-no_relay
unfolding clap_on_literals
returns-clause-no_relay c =
    untaken_by _ (record { command = Some (codes "check"); values = codes "M" ∷ []; seed = None; spurious = None; workers = None; relay = true; count = false; fits = false; version = false })
    (record { taken = refl; command_is = refl; values_are = refl; seed_is = refl; spurious_is = refl; workers_is = refl; relay_is = refl; count_is = refl; fits_is = refl; version_is = refl }) refl

pub returns-clause-both : goal.returns-clause-both
unfolding clap_on_literals
returns-clause-both c =
    taken_by _ (record { command = Some (codes "compile"); values = codes "M" ∷ []; seed = None; spurious = None; workers = None; relay = true; count = true; fits = false; version = false }) (compile (codes "M") CountedAndRelayed)
    (record { taken = refl; command_is = refl; values_are = refl; seed_is = refl; spurious_is = refl; workers_is = refl; relay_is = refl; count_is = refl; fits_is = refl; version_is = refl }) refl

pub returns-clause-counted : goal.returns-clause-counted
unfolding clap_on_literals
returns-clause-counted c =
    taken_by _ (record { command = Some (codes "block"); values = codes "M" ∷ codes "C" ∷ []; seed = None; spurious = None; workers = None; relay = false; count = true; fits = false; version = false }) (block (codes "M") (codes "C") Counted)
    (record { taken = refl; command_is = refl; values_are = refl; seed_is = refl; spurious_is = refl; workers_is = refl; relay_is = refl; count_is = refl; fits_is = refl; version_is = refl }) refl

pub returns-clause-relayed_block : goal.returns-clause-relayed_block
unfolding clap_on_literals
returns-clause-relayed_block c =
    untaken_by _ (record { command = Some (codes "block"); values = codes "M" ∷ codes "C" ∷ []; seed = None; spurious = None; workers = None; relay = true; count = true; fits = false; version = false })
    (record { taken = refl; command_is = refl; values_are = refl; seed_is = refl; spurious_is = refl; workers_is = refl; relay_is = refl; count_is = refl; fits_is = refl; version_is = refl }) refl

pub returns-clause-no_count : goal.returns-clause-no_count
unfolding clap_on_literals
returns-clause-no_count c =
    untaken_by _ (record { command = Some (codes "check"); values = codes "M" ∷ []; seed = None; spurious = None; workers = None; relay = false; count = true; fits = false; version = false })
    (record { taken = refl; command_is = refl; values_are = refl; seed_is = refl; spurious_is = refl; workers_is = refl; relay_is = refl; count_is = refl; fits_is = refl; version_is = refl }) refl

pub returns-clause-fits : goal.returns-clause-fits
unfolding clap_on_literals
returns-clause-fits c =
    taken_by _ (record { command = Some (codes "report"); values = codes "M" ∷ []; seed = None; spurious = None; workers = None; relay = false; count = false; fits = true; version = false }) (report (codes "M") false true)
    (record { taken = refl; command_is = refl; values_are = refl; seed_is = refl; spurious_is = refl; workers_is = refl; relay_is = refl; count_is = refl; fits_is = refl; version_is = refl }) refl

pub returns-clause-counted_fits : goal.returns-clause-counted_fits
unfolding clap_on_literals
returns-clause-counted_fits c =
    taken_by _ (record { command = Some (codes "explain"); values = codes "M" ∷ []; seed = None; spurious = None; workers = None; relay = false; count = true; fits = true; version = false }) (explain (codes "M") true true)
    (record { taken = refl; command_is = refl; values_are = refl; seed_is = refl; spurious_is = refl; workers_is = refl; relay_is = refl; count_is = refl; fits_is = refl; version_is = refl }) refl

pub returns-clause-no_fits : goal.returns-clause-no_fits
unfolding clap_on_literals
returns-clause-no_fits c =
    untaken_by _ (record { command = Some (codes "recheck"); values = codes "M" ∷ codes "R" ∷ []; seed = None; spurious = None; workers = None; relay = false; count = false; fits = true; version = false })
    (record { taken = refl; command_is = refl; values_are = refl; seed_is = refl; spurious_is = refl; workers_is = refl; relay_is = refl; count_is = refl; fits_is = refl; version_is = refl }) refl

abbrev bare_given : Bool → Given
bare_given asked = record { command = None; values = []; seed = None; spurious = None; workers = None; relay = false; count = false; fits = false; version = asked }

pub returns-clause-long_version : goal.returns-clause-long_version
unfolding clap_on_literals
returns-clause-long_version c =
    taken_by _ (bare_given true) version
    (record { taken = refl; command_is = refl; values_are = refl; seed_is = refl; spurious_is = refl; workers_is = refl; relay_is = refl; count_is = refl; fits_is = refl; version_is = refl }) refl

pub returns-clause-short_version : goal.returns-clause-short_version
unfolding clap_on_literals
returns-clause-short_version c =
    taken_by _ (bare_given true) version
    (record { taken = refl; command_is = refl; values_are = refl; seed_is = refl; spurious_is = refl; workers_is = refl; relay_is = refl; count_is = refl; fits_is = refl; version_is = refl }) refl

pub returns-clause-no_version : goal.returns-clause-no_version
unfolding clap_on_literals
returns-clause-no_version c =
    untaken_by _ (record { command = Some (codes "check"); values = codes "M" ∷ []; seed = None; spurious = None; workers = None; relay = false; count = false; fits = false; version = true })
    (record { taken = refl; command_is = refl; values_are = refl; seed_is = refl; spurious_is = refl; workers_is = refl; relay_is = refl; count_is = refl; fits_is = refl; version_is = refl }) refl

pub returns-clause-no_command : goal.returns-clause-no_command
unfolding clap_on_literals
returns-clause-no_command c =
    untaken_by _ (bare_given false)
    (record { taken = refl; command_is = refl; values_are = refl; seed_is = refl; spurious_is = refl; workers_is = refl; relay_is = refl; count_is = refl; fits_is = refl; version_is = refl }) refl
