-- The words of a command.
use Rattle.std.proofs.Common.{◌≡◌, ℕ, List, [], ◌∷◌, Option, Some, None, option_map, ap, sym, subst, ◌∙◌}
use Rattle.std.specs.Prelude.{Result, Ok, Err, IfOk, ok_or}
use Rattle.std.proofs.lemmas.Option.{none-some, same_Some}
use Rattle.clap.specs.Words.{fault_of}
use Rattle.clap.specs.declared.error.kind.ErrorKind.{ErrorKind}
use Rattle.front_command.specs.CommandLine.{Command, Given, IsGiven, Takes, TakesNone, program}
use Rattle.front_command.specs.inner.Asked.{command_if}
use Rattle.front_command.proofs.Asking.{command_found, command_asks}

-- the words give one thing for each argument
given_same : (words : List (List ℕ)) (one other : Given) → IsGiven words one → IsGiven words other → one ≡ other
given_same words one other is also =
    let command : one.command ≡ other.command = sym is.command_is ∙ also.command_is in
    let values : one.values ≡ other.values = sym is.values_are ∙ also.values_are in
    let seed : one.seed ≡ other.seed = sym is.seed_is ∙ also.seed_is in
    let spurious : one.spurious ≡ other.spurious = sym is.spurious_is ∙ also.spurious_is in
    let workers : one.workers ≡ other.workers = sym is.workers_is ∙ also.workers_is in
    let relay : one.relay ≡ other.relay = sym is.relay_is ∙ also.relay_is in
    let count : one.count ≡ other.count = sym is.count_is ∙ also.count_is in
    let fits : one.fits ≡ other.fits = sym is.fits_is ∙ also.fits_is in
    let version : one.version ≡ other.version = sym is.version_is ∙ also.version_is in
    λ i. record { command = command i; values = values i; seed = seed i; spurious = spurious i; workers = workers i; relay = relay i; count = count i; fits = fits i; version = version i }

-- what words take is what is computed of what they give
taken_found : (words : List (List ℕ)) (given : Given) (command : Command) → IsGiven words given → Takes words command → command_if given ≡ Some command
taken_found words given command is (other, also, asks) = ap command_if (given_same words given other is also) ∙ command_found other command asks

pub one_taken : (words : List (List ℕ)) (command other : Command) → Takes words command → Takes words other → command ≡ other
one_taken words command other (given, is, asks) taken =
    same_Some command other (sym (command_found given command asks) ∙ taken_found words given other is taken)

-- ---- how the reading ends

pub found_taken : {C E : Type 0} (meant : C → Command) (words : List (List ℕ)) (given : Given) (o : Option C) (fault : E) (r : Result C E)
    → IsGiven words given → option_map meant o ≡ command_if given → r ≡ ok_or o fault → IfOk r (λ c. Takes words (meant c))
found_taken meant words given None fault r is found ended = subst (λ (r : Result _ _). IfOk r (λ c. Takes words (meant c))) (sym ended) tt
found_taken meant words given (Some c) fault r is found ended =
    subst (λ (r : Result _ _). IfOk r (λ c. Takes words (meant c))) (sym ended) (given, is, command_asks given (meant c) (sym found))

ok_not_err : {C E : Type 0} (c : C) (e : E) → Ok c ≡ Err e → ⊥
ok_not_err c e p = cc

pub none_taken : {C E : Type 0} (meant : C → Command) (words : List (List ℕ)) (given : Given) (o : Option C) (fault usage : E) (r : Result C E)
    → IsGiven words given → option_map meant o ≡ command_if given → r ≡ ok_or o fault → r ≡ Err usage → TakesNone words
none_taken meant words given None fault usage r is found ended err command taken = none-some command (found ∙ taken_found words given command is taken)
none_taken meant words given (Some c) fault usage r is found ended err command taken = absurd (ok_not_err c usage (sym ended ∙ err))

-- words that give nothing for the arguments are no command
pub nothing_taken : (words : List (List ℕ)) → ((given : Given) → IsGiven words given → ⊥) → TakesNone words
nothing_taken words none command (given, is, asks) = none given is

-- ---- words that are written out

pub taken_by : (words : List (List ℕ)) (given : Given) (command : Command) → IsGiven words given → command_if given ≡ Some command → Takes words command
taken_by words given command is found = (given, is, command_asks given command found)

pub untaken_by : (words : List (List ℕ)) (given : Given) → IsGiven words given → command_if given ≡ None → TakesNone words
untaken_by words given is none command taken = none-some command (sym none ∙ taken_found words given command is taken)

some_fault : (kind : ErrorKind) (faults : List ErrorKind) → faults ≡ kind ∷ [] → faults ≡ [] → ⊥
some_fault kind faults p q = cc

pub refused : (words : List (List ℕ)) (kind : ErrorKind) → fault_of program words ≡ kind ∷ [] → TakesNone words
refused words kind fault command (given, is, asks) = some_fault kind (fault_of program words) fault is.taken
