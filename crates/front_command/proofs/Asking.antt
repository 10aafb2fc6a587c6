-- What arguments ask for is what is computed of them.
use Rattle.std.proofs.Common.{◌≡◌, ℕ, zero, suc, ◌≤◌, Bool, true, false, ◌||◌, List, [], ◌∷◌, Option, Some, None, cond, codes, bytes_eq, is_some, option_map, option_and_then, refl, ap, sym, subst, ◌∙◌, true≢false, arith}
use Rattle.std.proofs.lemmas.Option.{none-some, same_Some, option_and_then_some}
use Rattle.std.proofs.lemmas.Slice.Eq.{bytes_eq-Decides}
use Rattle.std.proofs.Math.Dec.{eqb-suc-zero}
use Rattle.lang_base.specs.Limits.{MOST_SPURIOUS, WORKERS}
use Rattle.front_command.specs.declared.plan_choice.PlanChoice.{PlanChoice}
use Rattle.front_command.specs.declared.schedule.Schedule.{Schedule}
use Rattle.front_command.specs.declared.schedule.Schedule.TheVariants.{Rounds, Drawn}
use Rattle.front_command.specs.CommandLine.{Command, check, turns, compile, simulate, run, stress, report, recheck, block, audit, explain, emit, version, Given, GREATEST_UNSIGNED, HasNoChoice, HasNoOptions, HasNoSchedule, IsSpurious, IsSchedule, IsWorkers, Asks, choice_in}
use Rattle.front_command.specs.inner.Asked.{number_if, spurious_if, schedule_if, some_workers, workers_if, has_choice, has_schedule, has_settings, counted_if, plain_if, compile_if, stress_if, run_if, simulate_if, single_if, pair_if, is_named, command_of_values, command_if, fitting_if, fitting_of_values, named_if, version_if, version_of_values}
use Rattle.front_command.proofs.Written.{chosen, cond_second, number_found, number_is}

abbrev Text : Type 0
Text = List ℕ

-- ---- options that are computed

map_is : {A B P : Type 0} (f : A → B) (o : Option A) (y : B) → option_map f o ≡ Some y → ((x : A) → o ≡ Some x → f x ≡ y → P) → P
map_is f None y e next = absurd (none-some y e)
map_is f (Some x) y e next = next x refl (same_Some (f x) y e)

spurious_found : (word : Option Text) (extra : ℕ) → IsSpurious word extra → spurious_if word ≡ Some extra
spurious_found None extra is = ap Some (sym is)
spurious_found (Some word) extra is = number_found MOST_SPURIOUS word extra is

spurious_is : (word : Option Text) (extra : ℕ) → spurious_if word ≡ Some extra → IsSpurious word extra
spurious_is None extra e = sym (same_Some 0 extra e)
spurious_is (Some word) extra e = number_is MOST_SPURIOUS word extra e

schedule_found : (seed spurious : Option Text) (schedule : Schedule) → IsSchedule seed spurious schedule → schedule_if seed spurious ≡ Some schedule
schedule_found seed spurious Rounds (no_seed, no_spurious) = λ i. schedule_if (no_seed i) (no_spurious i)
schedule_found seed spurious (Drawn number extra) (word, is, drawn, made) =
    let rest : ℕ → Option Schedule = λ n. option_map (λ k. Drawn n k) (spurious_if spurious) in
    ap (λ (s : Option Text). schedule_if s spurious) is
    ∙ ap (option_and_then rest) (number_found GREATEST_UNSIGNED word number drawn)
    ∙ ap (option_map (λ k. Drawn number k)) (spurious_found spurious extra made)

schedule_is : (seed spurious : Option Text) (schedule : Schedule) → schedule_if seed spurious ≡ Some schedule → IsSchedule seed spurious schedule
schedule_is None None schedule e = subst (IsSchedule None None) (same_Some Rounds schedule e) (refl, refl)
schedule_is None (Some word) schedule e = absurd (none-some schedule e)
schedule_is (Some word) spurious schedule e =
    option_and_then_some (λ n. option_map (λ k. Drawn n k) (spurious_if spurious)) (number_if GREATEST_UNSIGNED word) schedule e
    (λ number drawn more. map_is (λ k. Drawn number k) (spurious_if spurious) schedule more
    (λ extra made same. subst (IsSchedule (Some word) spurious) same (word, refl, number_is GREATEST_UNSIGNED word number drawn, spurious_is spurious extra made)))

some_found : (number : ℕ) → 1 ≤ number → some_workers number ≡ Some number
some_found zero some = absurd (omega arith)
some_found (suc number) some = ap (λ (b : Bool). cond b None (Some (suc number))) (eqb-suc-zero number)

some_is : (number other : ℕ) → some_workers number ≡ Some other → (1 ≤ number) × (number ≡ other)
some_is zero other e = absurd (none-some other e)
some_is (suc number) other e = (omega arith, same_Some (suc number) other (sym (some_found (suc number) (omega arith)) ∙ e))

workers_found : (word : Option Text) (number : ℕ) → IsWorkers word number → workers_if word ≡ Some number
workers_found None number is = ap Some (sym is)
workers_found (Some word) number (is, some) = ap (option_and_then some_workers) (number_found WORKERS word number is) ∙ some_found number some

workers_is : (word : Option Text) (number : ℕ) → workers_if word ≡ Some number → IsWorkers word number
workers_is None number e = sym (same_Some _ number e)
workers_is (Some word) number e =
    option_and_then_some some_workers (number_if WORKERS word) number e
    (λ other is more.
    let (some, same) = some_is other number more in
    subst (IsWorkers (Some word)) same (number_is WORKERS word other is, some))

-- ---- options that are not used

none_given : (word : Option Text) → is_some word ≡ false → word ≡ None
none_given None e = refl
none_given (Some word) e = absurd (true≢false e)

neither : (a b : Bool) → (a || b) ≡ false → (a ≡ false) × (b ≡ false)
neither true b e = absurd (true≢false e)
neither false b e = (refl, e)

no_schedule : (given : Given) → has_schedule given ≡ false → HasNoSchedule given
no_schedule given e =
    let (no_seed, no_spurious) = neither (is_some given.seed) (is_some given.spurious) e in
    (none_given given.seed no_seed, none_given given.spurious no_spurious)

schedule_unused : (given : Given) → HasNoSchedule given → has_schedule given ≡ false
schedule_unused given (no_seed, no_spurious) = λ i. is_some (no_seed i) || is_some (no_spurious i)

no_choice : (given : Given) → has_choice given ≡ false → HasNoChoice given
no_choice given e = neither given.relay given.count e

choice_unused : (given : Given) → HasNoChoice given → has_choice given ≡ false
choice_unused given (no_relay, no_count) = λ i. no_relay i || no_count i

-- ---- each command is found

plain_found : (given : Given) (command : Command) → HasNoOptions given → plain_if given command ≡ Some command
plain_found given command (rounds, no_workers, plain) =
    let unused = schedule_unused given rounds in
    let no_relay = plain.0 in
    let no_count = plain.1 in
    λ i. cond (no_count i) None (cond ((unused i || is_some (no_workers i)) || no_relay i) None (Some command))

block_found : (given : Given) (monitor clients : Text) (choice : PlanChoice) → HasNoSchedule given → given.workers ≡ None → given.relay ≡ false → choice_in given ≡ choice
    → counted_if given (block monitor clients (choice_in given)) ≡ Some (block monitor clients choice)
block_found given monitor clients choice rounds no_workers no_relay chosen_is =
    let unused = schedule_unused given rounds in
    λ i. cond ((unused i || is_some (no_workers i)) || no_relay i) None (Some (block monitor clients (chosen_is i)))

-- a command that says whether `--count` is used
counted_found : (given : Given) (command : Bool → Command) (count : Bool) → HasNoSchedule given → given.workers ≡ None → given.relay ≡ false → given.count ≡ count
    → counted_if given (command given.count) ≡ Some (command count)
counted_found given command count rounds no_workers no_relay count_is =
    let unused = schedule_unused given rounds in
    λ i. cond ((unused i || is_some (no_workers i)) || no_relay i) None (Some (command (count_is i)))

compile_found : (given : Given) (monitor : Text) (choice : PlanChoice) → HasNoSchedule given → given.workers ≡ None → choice_in given ≡ choice
    → compile_if given monitor ≡ Some (compile monitor choice)
compile_found given monitor choice rounds no_workers chosen_is =
    let unused = schedule_unused given rounds in
    λ i. cond (unused i || is_some (no_workers i)) None (Some (compile monitor (chosen_is i)))

simulate_found : (given : Given) (monitor clients : Text) (schedule : Schedule) (choice : PlanChoice) → IsSchedule given.seed given.spurious schedule → given.workers ≡ None → choice_in given ≡ choice
    → simulate_if given monitor clients ≡ Some (simulate monitor clients schedule choice)
simulate_found given monitor clients schedule choice is no_workers chosen_is =
    let found = schedule_found given.seed given.spurious schedule is in
    λ i. cond (is_some (no_workers i)) None (option_map (λ s. simulate monitor clients s (chosen_is i)) (found i))

run_found : (given : Given) (monitor clients : Text) (workers : ℕ) (choice : PlanChoice) → HasNoSchedule given → IsWorkers given.workers workers → choice_in given ≡ choice
    → run_if given monitor clients ≡ Some (run monitor clients workers choice)
run_found given monitor clients workers choice rounds is chosen_is =
    let unused = schedule_unused given rounds in
    let found = workers_found given.workers workers is in
    λ i. cond (unused i) None (option_map (λ n. run monitor clients n (chosen_is i)) (found i))

stress_found : (given : Given) (word : Text) (number workers : ℕ) → (number_if GREATEST_UNSIGNED word ≡ Some number) → HasNoSchedule given → IsWorkers given.workers workers → HasNoChoice given
    → stress_if given word ≡ Some (stress number workers)
stress_found given word number workers large rounds is plain =
    let unused = schedule_unused given rounds in
    let placed = choice_unused given plain in
    let found = workers_found given.workers workers is in
    λ i. cond (unused i || placed i) None (option_and_then (λ n. option_map (λ k. stress n k) (found i)) (large i))

-- by the name alone
single_named : Option Text → Given → Text → Option Command
single_named name given value =
    cond (is_named name (codes "check")) (plain_if given (check value))
    (cond (is_named name (codes "compile")) (compile_if given value)
    (cond (is_named name (codes "stress")) (stress_if given value)
    (cond (is_named name (codes "report")) (counted_if given (report value given.count false))
    (cond (is_named name (codes "explain")) (counted_if given (explain value given.count false))
    (cond (is_named name (codes "emit")) (plain_if given (emit value)) None)))))

pair_named : Option Text → Given → Text → Text → Option Command
pair_named name given monitor clients =
    cond (is_named name (codes "turns")) (plain_if given (turns monitor clients))
    (cond (is_named name (codes "simulate")) (simulate_if given monitor clients)
    (cond (is_named name (codes "run")) (run_if given monitor clients)
    (cond (is_named name (codes "recheck")) (plain_if given (recheck monitor clients))
    (cond (is_named name (codes "block")) (counted_if given (block monitor clients (choice_in given)))
    (cond (is_named name (codes "audit")) (counted_if given (audit monitor clients given.count)) None)))))

-- where `--version` is not used
unasked : (given : Given) (found : Option Command) → given.version ≡ false → named_if given ≡ found → command_if given ≡ found
unasked given found no_version same = ap (λ (b : Bool). cond b (version_of_values given given.values) (named_if given)) no_version ∙ same

-- and `--fits` is not, either
unfit : (given : Given) (found : Option Command) → given.version ≡ false → given.fits ≡ false → command_of_values given given.values ≡ found → command_if given ≡ found
unfit given found no_version no_fits same =
    unasked given found no_version (ap (λ (b : Bool). cond b (fitting_of_values given given.values) (command_of_values given given.values)) no_fits ∙ same)

single_found : (given : Given) (name : Option Text) (value : Text) (command : Command) → given.version ≡ false → given.fits ≡ false → given.command ≡ name → given.values ≡ value ∷ []
    → single_named name given value ≡ Some command → command_if given ≡ Some command
unfolding single_named
single_found given name value command no_version no_fits is values found =
    unfit given (Some command) no_version no_fits (ap (command_of_values given) values ∙ ap (λ (n : Option Text). single_named n given value) is ∙ found)

pair_found : (given : Given) (name : Option Text) (monitor clients : Text) (command : Command) → given.version ≡ false → given.fits ≡ false → given.command ≡ name → given.values ≡ monitor ∷ clients ∷ []
    → pair_named name given monitor clients ≡ Some command → command_if given ≡ Some command
unfolding pair_named
pair_found given name monitor clients command no_version no_fits is values found =
    unfit given (Some command) no_version no_fits (ap (command_of_values given) values ∙ ap (λ (n : Option Text). pair_named n given monitor clients) is ∙ found)

-- where it is
fitting_named : Option Text → Given → Text → Option Command
fitting_named name given value =
    cond (is_named name (codes "report")) (counted_if given (report value given.count true))
    (cond (is_named name (codes "explain")) (counted_if given (explain value given.count true)) None)

fitting_found : (given : Given) (name : Option Text) (value : Text) (command : Command) → given.version ≡ false → given.fits ≡ true → given.command ≡ name → given.values ≡ value ∷ []
    → fitting_named name given value ≡ Some command → command_if given ≡ Some command
unfolding fitting_named
fitting_found given name value command no_version fits is values found =
    unasked given (Some command) no_version (ap (λ (b : Bool). cond b (fitting_of_values given given.values) (command_of_values given given.values)) fits
    ∙ ap (fitting_of_values given) values ∙ ap (λ (n : Option Text). fitting_named n given value) is ∙ found)

-- where `--version` is
version_found : (given : Given) → given.version ≡ true → given.fits ≡ false → given.command ≡ None → given.values ≡ [] → HasNoOptions given → command_if given ≡ Some version
version_found given asked no_fits none values unused =
    ap (λ (b : Bool). cond b (version_of_values given given.values) (named_if given)) asked
    ∙ ap (version_of_values given) values
    ∙ (λ i. cond (is_some (none i) || no_fits i) None (plain_if given version))
    ∙ plain_found given version unused

pub command_found : (given : Given) (command : Command) → Asks given command → command_if given ≡ Some command
unfolding single_named pair_named fitting_named
command_found given (check m) asks = single_found given (Some (codes "check")) m (check m) asks.has_version asks.has_fits asks.name asks.has_values (plain_found given (check m) asks.has_options)
command_found given (compile m p) asks =
    let (rounds, no_workers, chosen_is) = asks.has_options in
    single_found given (Some (codes "compile")) m (compile m p) asks.has_version asks.has_fits asks.name asks.has_values (compile_found given m p rounds no_workers chosen_is)
command_found given (report m n false) asks =
    let (rounds, no_workers, no_relay, count_is) = asks.has_options in
    single_found given (Some (codes "report")) m (report m n false) asks.has_version asks.has_fits asks.name asks.has_values (counted_found given (λ count. report m count false) n rounds no_workers no_relay count_is)
command_found given (report m n true) asks =
    let (rounds, no_workers, no_relay, count_is) = asks.has_options in
    fitting_found given (Some (codes "report")) m (report m n true) asks.has_version asks.has_fits asks.name asks.has_values (counted_found given (λ count. report m count true) n rounds no_workers no_relay count_is)
command_found given (explain m n false) asks =
    let (rounds, no_workers, no_relay, count_is) = asks.has_options in
    single_found given (Some (codes "explain")) m (explain m n false) asks.has_version asks.has_fits asks.name asks.has_values (counted_found given (λ count. explain m count false) n rounds no_workers no_relay count_is)
command_found given (explain m n true) asks =
    let (rounds, no_workers, no_relay, count_is) = asks.has_options in
    fitting_found given (Some (codes "explain")) m (explain m n true) asks.has_version asks.has_fits asks.name asks.has_values (counted_found given (λ count. explain m count true) n rounds no_workers no_relay count_is)
command_found given (emit m) asks = single_found given (Some (codes "emit")) m (emit m) asks.has_version asks.has_fits asks.name asks.has_values (plain_found given (emit m) asks.has_options)
command_found given version asks = version_found given asks.has_version asks.has_fits asks.name asks.has_values asks.has_options
command_found given (recheck m r) asks = pair_found given (Some (codes "recheck")) m r (recheck m r) asks.has_version asks.has_fits asks.name asks.has_values (plain_found given (recheck m r) asks.has_options)
command_found given (block m c p) asks =
    let (rounds, no_workers, no_relay, chosen_is) = asks.has_options in
    pair_found given (Some (codes "block")) m c (block m c p) asks.has_version asks.has_fits asks.name asks.has_values (block_found given m c p rounds no_workers no_relay chosen_is)
command_found given (audit m p n) asks =
    let (rounds, no_workers, no_relay, count_is) = asks.has_options in
    pair_found given (Some (codes "audit")) m p (audit m p n) asks.has_version asks.has_fits asks.name asks.has_values (counted_found given (audit m p) n rounds no_workers no_relay count_is)
command_found given (turns m c) asks = pair_found given (Some (codes "turns")) m c (turns m c) asks.has_version asks.has_fits asks.name asks.has_values (plain_found given (turns m c) asks.has_options)
command_found given (simulate m c s p) asks =
    let (is, no_workers, chosen_is) = asks.has_options in
    pair_found given (Some (codes "simulate")) m c (simulate m c s p) asks.has_version asks.has_fits asks.name asks.has_values (simulate_found given m c s p is no_workers chosen_is)
command_found given (run m c n p) asks =
    let (rounds, is, chosen_is) = asks.has_options in
    pair_found given (Some (codes "run")) m c (run m c n p) asks.has_version asks.has_fits asks.name asks.has_values (run_found given m c n p rounds is chosen_is)
command_found given (stress n k) asks =
    let (word, values, large) = asks.has_values in
    let (rounds, is, plain) = asks.has_options in
    single_found given (Some (codes "stress")) word (stress n k) asks.has_version asks.has_fits asks.name values (stress_found given word n k (number_found GREATEST_UNSIGNED word n large) rounds is plain)

-- ---- what is found is asked for

is_that : (word : Option Text) (name : Text) → is_named word name ≡ true → word ≡ Some name
is_that None name e = absurd (true≢false (sym e))
is_that (Some word) name e = ap Some ((bytes_eq-Decides word name).0 e)

named : (given : Given) (name : Text) → is_named given.command name ≡ true → given.command ≡ Some name
named given name = is_that given.command name

plain_is : (given : Given) (command found : Command) → plain_if given command ≡ Some found → HasNoOptions given × (command ≡ found)
plain_is given command found e =
    let (no_count, counted) = cond_second given.count (counted_if given command) found e in
    let (unused, same) = cond_second (has_settings given || given.relay) (Some command) found counted in
    let (settings, no_relay) = neither (has_settings given) given.relay unused in
    let (rounds, no_workers) = neither (has_schedule given) (is_some given.workers) settings in
    ((no_schedule given rounds, none_given given.workers no_workers, (no_relay, no_count)), same_Some command found same)

counted_is : (given : Given) (command found : Command) → counted_if given command ≡ Some found
    → HasNoSchedule given × (given.workers ≡ None) × (given.relay ≡ false) × (command ≡ found)
counted_is given command found e =
    let (unused, same) = cond_second (has_settings given || given.relay) (Some command) found e in
    let (settings, no_relay) = neither (has_settings given) given.relay unused in
    let (rounds, no_workers) = neither (has_schedule given) (is_some given.workers) settings in
    (no_schedule given rounds, none_given given.workers no_workers, no_relay, same_Some command found same)

block_asks : (given : Given) (monitor clients : Text) (found : Command) → given.version ≡ false → given.fits ≡ false → given.command ≡ Some (codes "block") → given.values ≡ monitor ∷ clients ∷ []
    → counted_if given (block monitor clients (choice_in given)) ≡ Some found → Asks given found
block_asks given monitor clients found no_version no_fits name values e =
    let (rounds, no_workers, no_relay, same) = counted_is given (block monitor clients (choice_in given)) found e in
    subst (Asks given) same (record { name = name; has_values = values; has_options = (rounds, no_workers, no_relay, refl); has_fits = no_fits; has_version = no_version })

audit_asks : (given : Given) (monitor plan_file : Text) (found : Command) → given.version ≡ false → given.fits ≡ false → given.command ≡ Some (codes "audit") → given.values ≡ monitor ∷ plan_file ∷ []
    → counted_if given (audit monitor plan_file given.count) ≡ Some found → Asks given found
audit_asks given monitor plan_file found no_version no_fits name values e =
    let (rounds, no_workers, no_relay, same) = counted_is given (audit monitor plan_file given.count) found e in
    subst (Asks given) same (record { name = name; has_values = values; has_options = (rounds, no_workers, no_relay, refl); has_fits = no_fits; has_version = no_version })

compile_asks : (given : Given) (monitor : Text) (found : Command) → given.version ≡ false → given.fits ≡ false → given.command ≡ Some (codes "compile") → given.values ≡ monitor ∷ []
    → compile_if given monitor ≡ Some found → Asks given found
compile_asks given monitor found no_version no_fits name values e =
    let (settings, same) = cond_second (has_settings given) (Some (compile monitor (choice_in given))) found e in
    let (rounds, no_workers) = neither (has_schedule given) (is_some given.workers) settings in
    subst (Asks given) (same_Some (compile monitor (choice_in given)) found same) (record {
      name = name;
      has_values = values;
      has_options = (no_schedule given rounds, none_given given.workers no_workers, refl);
      has_fits = no_fits;
      has_version = no_version;
    })

simulate_asks : (given : Given) (monitor clients : Text) (found : Command) → given.version ≡ false → given.fits ≡ false → given.command ≡ Some (codes "simulate") → given.values ≡ monitor ∷ clients ∷ []
    → simulate_if given monitor clients ≡ Some found → Asks given found
simulate_asks given monitor clients found no_version no_fits name values e =
    let (unused, more) = cond_second (is_some given.workers) (option_map (λ s. simulate monitor clients s (choice_in given)) (schedule_if given.seed given.spurious)) found e in
    map_is (λ s. simulate monitor clients s (choice_in given)) (schedule_if given.seed given.spurious) found more
    (λ schedule is same. subst (Asks given) same (record {
      name = name;
      has_values = values;
      has_options = (schedule_is given.seed given.spurious schedule is, none_given given.workers unused, refl);
      has_fits = no_fits;
      has_version = no_version;
    }))

run_asks : (given : Given) (monitor clients : Text) (found : Command) → given.version ≡ false → given.fits ≡ false → given.command ≡ Some (codes "run") → given.values ≡ monitor ∷ clients ∷ []
    → run_if given monitor clients ≡ Some found → Asks given found
run_asks given monitor clients found no_version no_fits name values e =
    let (unused, more) = cond_second (has_schedule given) (option_map (λ n. run monitor clients n (choice_in given)) (workers_if given.workers)) found e in
    map_is (λ n. run monitor clients n (choice_in given)) (workers_if given.workers) found more
    (λ workers is same. subst (Asks given) same (record {
      name = name;
      has_values = values;
      has_options = (no_schedule given unused, workers_is given.workers workers is, refl);
      has_fits = no_fits;
      has_version = no_version;
    }))

stress_asks : (given : Given) (word : Text) (found : Command) → given.version ≡ false → given.fits ≡ false → given.command ≡ Some (codes "stress") → given.values ≡ word ∷ []
    → stress_if given word ≡ Some found → Asks given found
stress_asks given word found no_version no_fits name values e =
    let rest : ℕ → Option Command = λ n. option_map (λ k. stress n k) (workers_if given.workers) in
    let (unused, more) = cond_second (has_schedule given || has_choice given) (option_and_then rest (number_if GREATEST_UNSIGNED word)) found e in
    let (rounds, plain) = neither (has_schedule given) (has_choice given) unused in
    option_and_then_some rest (number_if GREATEST_UNSIGNED word) found more
    (λ number large made. map_is (λ k. stress number k) (workers_if given.workers) found made
    (λ workers is same. subst (Asks given) same (record {
      name = name;
      has_values = (word, values, number_is GREATEST_UNSIGNED word number large);
      has_options = (no_schedule given rounds, workers_is given.workers workers is, no_choice given plain);
      has_fits = no_fits;
      has_version = no_version;
    })))

single_asks : (given : Given) (value : Text) (found : Command) → given.version ≡ false → given.fits ≡ false → given.values ≡ value ∷ [] → single_if given value ≡ Some found → Asks given found
single_asks given value found no_version no_fits values e =
    chosen (is_named given.command (codes "check")) _ _ found e
    (λ is made.
    let (unused, same) = plain_is given (check value) found made in
    subst (Asks given) same (record { name = named given (codes "check") is; has_values = values; has_options = unused; has_fits = no_fits; has_version = no_version }))
    (λ no more. chosen (is_named given.command (codes "compile")) _ _ found more
    (λ is made. compile_asks given value found no_version no_fits (named given (codes "compile") is) values made)
    (λ no_compile rest. chosen (is_named given.command (codes "stress")) _ _ found rest
    (λ is made. stress_asks given value found no_version no_fits (named given (codes "stress") is) values made)
    (λ no_stress others. chosen (is_named given.command (codes "report")) _ _ found others
    (λ is made.
    let (rounds, no_workers, no_relay, same) = counted_is given (report value given.count false) found made in
    subst (Asks given) same (record { name = named given (codes "report") is; has_values = values; has_options = (rounds, no_workers, no_relay, refl); has_fits = no_fits; has_version = no_version }))
    (λ no_report later. chosen (is_named given.command (codes "explain")) _ _ found later
    (λ is made.
    let (rounds, no_workers, no_relay, same) = counted_is given (explain value given.count false) found made in
    subst (Asks given) same (record { name = named given (codes "explain") is; has_values = values; has_options = (rounds, no_workers, no_relay, refl); has_fits = no_fits; has_version = no_version }))
    (λ no_explain last. chosen (is_named given.command (codes "emit")) _ _ found last
    (λ is made.
    let (unused, same) = plain_is given (emit value) found made in
    subst (Asks given) same (record { name = named given (codes "emit") is; has_values = values; has_options = unused; has_fits = no_fits; has_version = no_version }))
    (λ no_emit none. absurd (none-some found none)))))))

pair_asks : (given : Given) (monitor clients : Text) (found : Command) → given.version ≡ false → given.fits ≡ false → given.values ≡ monitor ∷ clients ∷ [] → pair_if given monitor clients ≡ Some found → Asks given found
pair_asks given monitor clients found no_version no_fits values e =
    chosen (is_named given.command (codes "turns")) _ _ found e
    (λ is made.
    let (unused, same) = plain_is given (turns monitor clients) found made in
    subst (Asks given) same (record { name = named given (codes "turns") is; has_values = values; has_options = unused; has_fits = no_fits; has_version = no_version }))
    (λ no more. chosen (is_named given.command (codes "simulate")) _ _ found more
    (λ is made. simulate_asks given monitor clients found no_version no_fits (named given (codes "simulate") is) values made)
    (λ no_simulate rest. chosen (is_named given.command (codes "run")) _ _ found rest
    (λ is made. run_asks given monitor clients found no_version no_fits (named given (codes "run") is) values made)
    (λ no_run others. chosen (is_named given.command (codes "recheck")) _ _ found others
    (λ is made.
    let (unused, same) = plain_is given (recheck monitor clients) found made in
    subst (Asks given) same (record { name = named given (codes "recheck") is; has_values = values; has_options = unused; has_fits = no_fits; has_version = no_version }))
    (λ no_recheck later. chosen (is_named given.command (codes "block")) _ _ found later
    (λ is made. block_asks given monitor clients found no_version no_fits (named given (codes "block") is) values made)
    (λ no_block last. chosen (is_named given.command (codes "audit")) _ _ found last
    (λ is made. audit_asks given monitor clients found no_version no_fits (named given (codes "audit") is) values made)
    (λ no_audit none. absurd (none-some found none)))))))

values_ask : (given : Given) (values : List Text) (found : Command) → given.version ≡ false → given.fits ≡ false → given.values ≡ values → command_of_values given values ≡ Some found → Asks given found
values_ask given [] found no_version no_fits is e = absurd (none-some found e)
values_ask given (value ∷ []) found no_version no_fits is e = single_asks given value found no_version no_fits is e
values_ask given (monitor ∷ clients ∷ []) found no_version no_fits is e = pair_asks given monitor clients found no_version no_fits is e
values_ask given (value ∷ other ∷ another ∷ more) found no_version no_fits is e = absurd (none-some found e)

fitting_asks : (given : Given) (value : Text) (found : Command) → given.version ≡ false → given.fits ≡ true → given.values ≡ value ∷ [] → fitting_if given value ≡ Some found → Asks given found
fitting_asks given value found no_version fits values e =
    chosen (is_named given.command (codes "report")) _ _ found e
    (λ is made.
    let (rounds, no_workers, no_relay, same) = counted_is given (report value given.count true) found made in
    subst (Asks given) same (record { name = named given (codes "report") is; has_values = values; has_options = (rounds, no_workers, no_relay, refl); has_fits = fits; has_version = no_version }))
    (λ no more. chosen (is_named given.command (codes "explain")) _ _ found more
    (λ is made.
    let (rounds, no_workers, no_relay, same) = counted_is given (explain value given.count true) found made in
    subst (Asks given) same (record { name = named given (codes "explain") is; has_values = values; has_options = (rounds, no_workers, no_relay, refl); has_fits = fits; has_version = no_version }))
    (λ no_explain none. absurd (none-some found none)))

fitting_ask : (given : Given) (values : List Text) (found : Command) → given.version ≡ false → given.fits ≡ true → given.values ≡ values → fitting_of_values given values ≡ Some found → Asks given found
fitting_ask given [] found no_version fits is e = absurd (none-some found e)
fitting_ask given (value ∷ []) found no_version fits is e = fitting_asks given value found no_version fits is e
fitting_ask given (value ∷ other ∷ more) found no_version fits is e = absurd (none-some found e)

named_asks : (given : Given) (found : Command) → given.version ≡ false → named_if given ≡ Some found → Asks given found
named_asks given found no_version e =
    chosen given.fits (fitting_of_values given given.values) (command_of_values given given.values) found e
    (λ fits made. fitting_ask given given.values found no_version fits refl made)
    (λ no_fits made. values_ask given given.values found no_version no_fits refl made)

version_asks : (given : Given) (values : List Text) (found : Command) → given.version ≡ true → given.values ≡ values → version_of_values given values ≡ Some found → Asks given found
version_asks given [] found asked values e =
    let (unused, more) = cond_second (is_some given.command || given.fits) (plain_if given version) found e in
    let (none, no_fits) = neither (is_some given.command) given.fits unused in
    let (plain, same) = plain_is given version found more in
    subst (Asks given) same (record { name = none_given given.command none; has_values = values; has_options = plain; has_fits = no_fits; has_version = asked })
version_asks given (value ∷ more) found asked values e = absurd (none-some found e)

pub command_asks : (given : Given) (found : Command) → command_if given ≡ Some found → Asks given found
command_asks given found e =
    chosen given.version (version_of_values given given.values) (named_if given) found e
    (λ asked made. version_asks given given.values found asked refl made)
    (λ no_version made. named_asks given found no_version made)
