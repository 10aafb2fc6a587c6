-- The clients meet the rule of scripts, and their calls fit the buffer.
use Rattle.std.proofs.Common.{◌≡◌, ◌≢◌, ℕ, zero, suc, ◌+◌, ◌*◌, ◌/◌, ◌%◌, ◌<◌, ◌≤◌, Bool, true, false, cond, ltb, not, ◌&&◌, List, [], ◌∷◌, ◌++◌, length, map, replicate, codes, refl, sym, ap, ap₂, subst, ◌∙◌, arith, length-append, add-mul, suc-mul}
use Rattle.std.specs.Prelude.{decimal, nat_le, sum_by}
use Rattle.std.specs.List.{All, AllPairs, list_all, range_with_len}
use Rattle.std.specs.Str.{bytes_eq}
use Rattle.std.proofs.lemmas.Bool.{leb-true, true≢false}
use Rattle.std.proofs.lemmas.Bool.Decides.{nat_tests}
use Rattle.std.proofs.lemmas.Fmt.{decimal_digit, decimal_step}
use Rattle.std.proofs.lemmas.List.{length-replicate}
use Rattle.std.proofs.lemmas.List.Elements.{All-nil, All-cons, All-append, All-replicate}
use Rattle.std.proofs.lemmas.List.FromFn.{length-map-range_with_len}
use Rattle.std.proofs.lemmas.List.Kept.{AllPairs-cons}
use Rattle.std.proofs.lemmas.List.Sums.{sum_by-append, sum_by-cons}
use Rattle.std.proofs.lemmas.Slice.Eq.{bytes_eq-Decides}
use Rattle.lang_base.specs.Identifiers.{IsIdentifier, is_keyword, is_spelled}
use Rattle.lang_monitor.specs.MonitorParts.{MonitorParts}
use Rattle.machine_implicit.specs.declared.script.Client.{Client}
use Rattle.machine_implicit.specs.Scripted.{AreClients, FitsCall, FitsScripts}
use Rattle.machine_implicit.proofs.Sums.{both_true}
use Rattle.machine_stress.specs.LargeInput.{buffer_of, caller, callers, clients_of, plain_call, producers_and_consumers}

-- ---- names

is_identifier : List ℕ → Bool
is_identifier name = is_spelled name && (nat_le (length name) 32 && not (is_keyword name))

not_true : (test : Bool) → not test ≡ true → test ≡ false
not_true true is = cc
not_true false is = refl

identifier : (name : List ℕ) → is_identifier name ≡ true → IsIdentifier name
unfolding is_identifier
identifier name holds =
    let first = both_true (is_spelled name) (nat_le (length name) 32 && not (is_keyword name)) holds in
    let second = both_true (nat_le (length name) 32) (not (is_keyword name)) first.1 in
    record { spelled = first.0; short = leb-true (length name) 32 second.0; no_keyword = not_true (is_keyword name) second.1 }

abbrev IsNamed : Client → Type 0
IsNamed client = IsIdentifier client.name

all_named : (clients : List Client) → list_all (λ client. is_identifier client.name) clients ≡ true → All IsNamed clients
all_named [] holds = All-nil IsNamed
all_named (client ∷ clients) holds =
    let parts = both_true (is_identifier client.name) (list_all (λ one. is_identifier one.name) clients) holds in
    All-cons IsNamed client clients (identifier client.name parts.0) (all_named clients parts.1)

abbrev HasOtherName : Client → Client → Type 0
HasOtherName client other = client.name ≢ other.name

differs : Client → Client → Bool
differs client other = not (bytes_eq client.name other.name)

abbrev all_differ : List Client → Bool
all_differ [] = true
all_differ (client ∷ clients) = list_all (differs client) clients && all_differ clients

other_name : (client other : Client) → differs client other ≡ true → HasOtherName client other
unfolding differs
other_name client other holds same =
    let equal = (bytes_eq-Decides client.name other.name).1 same in
    let unequal = not_true (bytes_eq client.name other.name) holds in
    absurd (cc)

differs_from_all : (client : Client) (clients : List Client) → list_all (differs client) clients ≡ true → All (HasOtherName client) clients
differs_from_all client [] holds = All-nil (HasOtherName client)
differs_from_all client (other ∷ clients) holds =
    let parts = both_true (differs client other) (list_all (differs client) clients) holds in
    All-cons (HasOtherName client) other clients (other_name client other parts.0) (differs_from_all client clients parts.1)

all_other_names : (clients : List Client) → all_differ clients ≡ true → AllPairs HasOtherName clients
all_other_names [] holds = λ i j d less within. absurd (omega arith)
all_other_names (client ∷ clients) holds =
    let parts = both_true (list_all (differs client) clients) (all_differ clients) holds in
    AllPairs-cons HasOtherName client clients (differs_from_all client clients parts.0) (all_other_names clients parts.1)

-- a number of one digit or two, which computes
abbrev numeral : ℕ → List ℕ
numeral number = cond (ltb number 10) ((48 + number) ∷ []) ((48 + number / 10) ∷ (48 + number % 10) ∷ [])

two_digits : (number : ℕ) → 10 ≤ number → number < 100 → decimal number ≡ (48 + number / 10) ∷ (48 + number % 10) ∷ []
two_digits number long short =
    decimal_step number long (omega arith) ∙ ap (λ (first : List ℕ). first ++ (48 + number % 10) ∷ []) (decimal_digit (number / 10) (omega arith))

numeral_is : (number : ℕ) → number < 100 → decimal number ≡ numeral number
numeral_is number short = by (ltb number 10) refl
  where
    by : (test : Bool) → ltb number 10 ≡ test → decimal number ≡ cond test ((48 + number) ∷ []) ((48 + number / 10) ∷ (48 + number % 10) ∷ [])
    by true is = decimal_digit number (grind (arith, nat_tests, is))
    by false is = two_digits number (grind (arith, nat_tests, is)) short

-- the same clients, with names that compute
abbrev plain_caller : List ℕ → ℕ → ℕ → ℕ → Client
plain_caller letter method calls number = record { name = letter ++ numeral number; calls = replicate calls (plain_call method) }

plain_callers : (letter : List ℕ) (method calls from count : ℕ) → from + count ≤ 100 → map (caller letter method calls) (range_with_len from count) ≡ map (plain_caller letter method calls) (range_with_len from count)
plain_callers letter method calls from zero few = refl
plain_callers letter method calls from (suc count) few =
    ap₂ (λ (digits : List ℕ) (more : List Client). record { name = letter ++ digits; calls = replicate calls (plain_call method) } ∷ more)
    (numeral_is from (omega arith)) (plain_callers letter method calls (from + 1) count (omega arith))

abbrev plain_clients : ℕ → List Client
plain_clients calls = map (plain_caller (codes "P") 0 calls) (range_with_len 1 16) ++ map (plain_caller (codes "G") 1 calls) (range_with_len 1 16)

are_plain : (calls : ℕ) → clients_of 16 16 calls ≡ plain_clients calls
unfolding clients_of
are_plain calls =
    ap₂ (λ (first second : List Client). first ++ second) (plain_callers (codes "P") 0 calls 1 16 (omega arith)) (plain_callers (codes "G") 1 calls 1 16 (omega arith))

names_fit : (calls : ℕ) → list_all (λ client. is_identifier client.name) (plain_clients calls) ≡ true
unfolding is_identifier
names_fit calls = refl

names_differ : (calls : ℕ) → all_differ (plain_clients calls) ≡ true
unfolding differs
names_differ calls = refl

all_are_named : (calls : ℕ) → All IsNamed (clients_of 16 16 calls)
all_are_named calls = subst (λ (clients : List Client). All IsNamed clients) (sym (are_plain calls)) (all_named (plain_clients calls) (names_fit calls))

all_are_distinct : (calls : ℕ) → AllPairs HasOtherName (clients_of 16 16 calls)
all_are_distinct calls = subst (λ (clients : List Client). AllPairs HasOtherName clients) (sym (are_plain calls)) (all_other_names (plain_clients calls) (names_differ calls))

-- ---- how many there are

how_many : (producers consumers calls : ℕ) → length (clients_of producers consumers calls) ≡ producers + consumers
unfolding clients_of
how_many producers consumers calls =
    omega (
      arith,
      length-append (callers (codes "P") 0 calls producers) (callers (codes "G") 1 calls consumers),
      length-map-range_with_len (caller (codes "P") 0 calls) 1 producers,
      length-map-range_with_len (caller (codes "G") 1 calls) 1 consumers,
    )

abbrev calls_made : Client → ℕ
calls_made client = length client.calls

calls_from : (letter : List ℕ) (method calls from count : ℕ) → sum_by calls_made (map (caller letter method calls) (range_with_len from count)) ≡ count * calls
calls_from letter method calls from zero = omega arith
calls_from letter method calls from (suc count) =
    omega (
      arith,
      sum_by-cons calls_made (caller letter method calls from) (map (caller letter method calls) (range_with_len (from + 1) count)),
      length-replicate calls (plain_call method),
      calls_from letter method calls (from + 1) count,
      suc-mul count calls,
    )

how_many_calls : (producers consumers calls : ℕ) → sum_by calls_made (clients_of producers consumers calls) ≡ (producers + consumers) * calls
unfolding clients_of
how_many_calls producers consumers calls =
    omega (
      arith,
      sum_by-append calls_made (callers (codes "P") 0 calls producers) (callers (codes "G") 1 calls consumers),
      calls_from (codes "P") 0 calls 1 producers,
      calls_from (codes "G") 1 calls 1 consumers,
      add-mul producers consumers calls,
    )

pub are_clients : AreClients producers_and_consumers
are_clients = record {
  few = omega (arith, how_many 16 16 512);
  names = all_are_named 512;
  distinct = all_are_distinct 512;
  few_calls = omega (arith, how_many_calls 16 16 512);
}

-- ---- calls fit

abbrev CallsFit : ℕ → Client → Type 0
CallsFit capacity client = All (FitsCall (buffer_of capacity)) client.calls

each_fits : (capacity : ℕ) (letter : List ℕ) (method calls from count : ℕ) → FitsCall (buffer_of capacity) (plain_call method) → All (CallsFit capacity) (map (caller letter method calls) (range_with_len from count))
each_fits capacity letter method calls from zero fits = All-nil (CallsFit capacity)
each_fits capacity letter method calls from (suc count) fits =
    All-cons (CallsFit capacity) (caller letter method calls from) (map (caller letter method calls) (range_with_len (from + 1) count))
    (All-replicate (FitsCall (buffer_of capacity)) calls (plain_call method) fits) (each_fits capacity letter method calls (from + 1) count fits)

all_fit : (capacity producers consumers calls : ℕ) → FitsScripts (buffer_of capacity) (clients_of producers consumers calls)
unfolding clients_of
all_fit capacity producers consumers calls =
    All-append (CallsFit capacity) (callers (codes "P") 0 calls producers) (callers (codes "G") 1 calls consumers)
    (each_fits capacity (codes "P") 0 calls 1 producers (record { method = omega arith; inputs = tt; tries = λ asserts. absurd (true≢false (sym asserts)) }))
    (each_fits capacity (codes "G") 1 calls 1 consumers (record { method = omega arith; inputs = tt; tries = λ asserts. absurd (true≢false (sym asserts)) }))

pub calls_fit : (capacity : ℕ) (monitor : MonitorParts) (clients : List Client) → monitor ≡ buffer_of capacity → clients ≡ producers_and_consumers → FitsScripts monitor clients
calls_fit capacity monitor clients is are =
    subst (λ (which : MonitorParts). FitsScripts which clients) (sym is) (subst (λ (some : List Client). FitsScripts (buffer_of capacity) some) (sym are) (all_fit capacity 16 16 512))
