-- Each run of the large input that ends is done.
use Rattle.std.proofs.Common.{◌≡◌, ◌==◌, ℕ, zero, suc, ◌+◌, ◌*◌, ◌^◌, ◌<◌, ◌≤◌, ◌⊎◌, true, List, [], ◌∷◌, ◌++◌, length, replicate, Some, None, refl, sym, ap, subst, ◌∙◌, arith, inl, inr, add-mul}
use Rattle.std.specs.Prelude.{nat_lt, slice_get, slice_set}
use Rattle.std.proofs.lemmas.Bool.Decides.{nat_tests}
use Rattle.std.proofs.lemmas.List.{length-set, length_push, length-replicate}
use Rattle.std.proofs.lemmas.Option.{slice_get_past}
use Rattle.lang_base.specs.declared.value.Value.{Value}
use Rattle.lang_monitor.specs.Bodies.{Inputs, Memory}
use Rattle.lang_monitor.specs.MonitorParts.{MonitorParts}
use Rattle.machine_implicit.specs.declared.commit.Commit.{Commit}
use Rattle.machine_implicit.specs.declared.commit.Reply.{Reply}
use Rattle.machine_implicit.specs.declared.place.Place.{Place}
use Rattle.machine_implicit.specs.declared.script.Call.{Call}
use Rattle.machine_implicit.specs.declared.script.Client.{Client}
use Rattle.machine_implicit.specs.Places.{call_at}
use Rattle.machine_implicit.specs.Runs.{Ends, IsFinished, IsNextCommit, IsRun, Situation, first_places, start_at}
use Rattle.machine_implicit.specs.Runs.IsRunBy.{begun, stepped}
use Rattle.machine_implicit.specs.Scripted.{calls_of}
use Rattle.machine_implicit.specs.Steps.{IsBlockStep, guard_truth}
use Rattle.machine_implicit.proofs.Fitting.{at_index, first_is}
use Rattle.machine_stress.specs.LargeInput.{buffer_of, capacity_of}
use Rattle.machine_stress.specs.LargeInput.{plain_call, producers_and_consumers}
use Rattle.machine_stress.specs.Laws.{EveryLargeRunEndsDone}
use Rattle.machine_stress.proofs.Buffers.{get_takes, holding, put_adds, room_needed, room_true, some_needed, some_true}
use Rattle.machine_stress.proofs.Callers.{AreHalves, are_halves}
use Rattle.machine_stress.proofs.Counting.{InRange, at_most_each, below, below_none, below_push, counts, done, done_push, each_from_all, just_each}
use Rattle.machine_stress.proofs.Moves.{IsPast, can_act, makes, nobody, still_past}

-- ---- every state of a run

-- so much is in the buffer as was put and not got, and no client is past its calls
record IsCounted (clients : List Client) (half capacity : ℕ) (history : List Commit)
    (now : Situation) : Type 0 where
  count : ℕ
  holds : now.state ≡ holding count
  within : count ≤ capacity
  balance : below half history + below half history ≡ count + below (half + half) history
  all : length history ≡ below (half + half) history
  few : (client : ℕ) → done history client ≤ length (calls_of clients client)
  one_each : length now.places ≡ length clients
  past : (client : ℕ) (place : Place) → slice_get now.places client ≡ Some place
      → IsPast (done history client) place

first_length : (monitor : MonitorParts) (all : List Client) (number : ℕ) (some : List Client)
    → length (first_places monitor all number some) ≡ length some
first_length monitor all number [] = refl
first_length monitor all number (client ∷ some) = ap suc (first_length monitor all (number + 1) some)

at_start : (clients : List Client) (half capacity : ℕ)
    → IsCounted clients half capacity [] (start_at (buffer_of capacity) clients)
at_start clients half capacity = record {
  count = 0;
  holds = refl;
  within = omega arith;
  balance = refl;
  all = refl;
  few = λ client. omega arith;
  one_each = first_length (buffer_of capacity) clients 0 clients;
  past = λ client place at.
      let is = first_is (buffer_of capacity) clients client place at in
      record { calls = ap (λ (one : Place). one.past) is; block = ap (λ (one : Place). one.block) is };
}

-- ---- one commit more

split : (a b : ℕ) → (a < b) ⊎ (b ≤ a)
split a b = grind arith

low : (client bound : ℕ) → client < bound → counts (nat_lt client bound) ≡ 1
low client bound less = grind (arith, nat_tests)

high : (client bound : ℕ) → bound ≤ client → counts (nat_lt client bound) ≡ 0
high client bound more = grind (arith, nat_tests)

one_more_fits : (own other past most : ℕ) → past ≤ most → (own ≡ other → past < most) → past + counts (own == other) ≤ most
one_more_fits own other past most few less = elim (same_or_not own other) [
  | inl same ↦ (let fits = less same in grind (arith, nat_tests))
  | inr differs ↦ grind (arith, nat_tests)
] where
  same_or_not : (a b : ℕ) → (a ≡ b) ⊎ (a ≡ b → ⊥)
  same_or_not a b = grind (arith, nat_tests)

still_few : (clients : List Client) (history : List Commit) (commit : Commit)
    → done history commit.client < length (calls_of clients commit.client)
    → ((client : ℕ) → done history client ≤ length (calls_of clients client)) → (client : ℕ)
    → done (history ++ commit ∷ []) client ≤ length (calls_of clients client)
still_few clients history commit less few client =
    omega (
      arith,
      done_push history commit client,
      one_more_fits commit.client client (done history client) (length (calls_of clients client)) (few client) (λ same. subst (λ (one : ℕ). done history one < length (calls_of clients one)) same less),
    )

-- what was got leaves one less
record Leaves (count : ℕ) (next : List Value) : Type 0 where
  left : ℕ
  one : count ≡ suc left
  holds : next ≡ holding left

got : (capacity count : ℕ) (inputs : Inputs) (reply : Reply) (memory : Memory) → count ≤ capacity
    → capacity < 2 ^ 63 → IsBlockStep (buffer_of capacity) 1 inputs (holding count) reply memory
    → Leaves count memory.state
got capacity zero inputs reply memory within small step = absurd (omega (arith, some_needed capacity zero inputs step.guard))
got capacity (suc left) inputs reply memory within small step = record { left = left; one = refl; holds = get_takes left inputs reply memory (omega arith) step.runs }

-- the situation after a commit
abbrev reached : {monitor : MonitorParts} {clients : List Client} {now next : Situation}
    {commit : Commit} → IsNextCommit monitor clients now commit next → Situation
reached {monitor} {clients} {now} {next} {commit} follows = record { state = follows.state; places = slice_set now.places commit.client follows.goes }

after_put : (clients : List Client) (half calls capacity : ℕ) (history : List Commit)
    (now : Situation) (commit : Commit) (next : Situation)
    → AreHalves clients half calls → capacity < 2 ^ 63 → commit.client < half
    → IsCounted clients half capacity history now
    → (follows : IsNextCommit (buffer_of capacity) clients now commit next)
    → IsCounted clients half capacity (history ++ commit ∷ []) (reached follows)
after_put clients half calls capacity history now commit next halves small puts counted follows =
    let are = halves.puts commit.client puts in
    let made = makes clients capacity calls 0 (done history commit.client) counted.count now next commit follows (omega arith) are counted.holds (counted.past commit.client follows.place follows.at) in
    let room = room_needed capacity counted.count made.inputs made.step.guard in
    let long : length (calls_of clients commit.client) ≡ calls = ap (λ (list : List Call). length list) are ∙ length-replicate calls (plain_call 0) in
    let one = below_push half history commit in
    let other = below_push (half + half) history commit in
    let first = low commit.client half puts in
    let second = low commit.client (half + half) (omega arith) in
    record {
      count = suc counted.count;
      holds = made.state_is ∙ put_adds capacity counted.count made.inputs commit.reply made.memory (omega (arith, room)) made.step.runs;
      within = omega (arith, room);
      balance = omega (arith, counted.balance, one, other, first, second);
      all = omega (arith, length_push history commit, counted.all, other, second);
      few = still_few clients history commit (omega (arith, made.less, long)) counted.few;
      one_each = length-set now.places commit.client follows.goes ∙ counted.one_each;
      past = still_past history commit now.places follows.goes made.there counted.past;
    }

after_get : (clients : List Client) (half calls capacity : ℕ) (history : List Commit)
    (now : Situation) (commit : Commit) (next : Situation)
    → AreHalves clients half calls → capacity < 2 ^ 63 → half ≤ commit.client
    → commit.client < half + half → IsCounted clients half capacity history now
    → (follows : IsNextCommit (buffer_of capacity) clients now commit next)
    → IsCounted clients half capacity (history ++ commit ∷ []) (reached follows)
after_get clients half calls capacity history now commit next halves small past gets counted follows =
    let are = halves.gets commit.client past gets in
    let made = makes clients capacity calls 1 (done history commit.client) counted.count now next commit follows (omega arith) are counted.holds (counted.past commit.client follows.place follows.at) in
    let leaves = got capacity counted.count made.inputs commit.reply made.memory counted.within small made.step in
    let long : length (calls_of clients commit.client) ≡ calls = ap (λ (list : List Call). length list) are ∙ length-replicate calls (plain_call 1) in
    let one = below_push half history commit in
    let other = below_push (half + half) history commit in
    let first = high commit.client half past in
    let second = low commit.client (half + half) gets in
    record {
      count = leaves.left;
      holds = made.state_is ∙ leaves.holds;
      within = omega (arith, counted.within, leaves.one);
      balance = omega (arith, counted.balance, one, other, first, second, leaves.one);
      all = omega (arith, length_push history commit, counted.all, other, second);
      few = still_few clients history commit (omega (arith, made.less, long)) counted.few;
      one_each = length-set now.places commit.client follows.goes ∙ counted.one_each;
      past = still_past history commit now.places follows.goes made.there counted.past;
    }

one_more : (clients : List Client) (half calls capacity : ℕ) (history : List Commit)
    (now : Situation) (commit : Commit) (next : Situation)
    → AreHalves clients half calls → capacity < 2 ^ 63 → IsCounted clients half capacity history now
    → IsNextCommit (buffer_of capacity) clients now commit next
    → IsCounted clients half capacity (history ++ commit ∷ []) next
one_more clients half calls capacity history now commit next halves small counted follows =
    let made : IsCounted clients half capacity (history ++ commit ∷ []) (reached follows) = elim (split commit.client half) [
      | inl puts ↦ after_put clients half calls capacity history now commit next halves small puts counted follows
      | inr past ↦ elim (split commit.client (half + half)) [
        | inl gets ↦ after_get clients half calls capacity history now commit next halves small past gets counted follows
        | inr none ↦ absurd (nobody clients capacity now next commit (halves.none commit.client none) follows)
      ]
    ] in
    subst (IsCounted clients half capacity (history ++ commit ∷ [])) (sym follows.becomes) made

every_state : (clients : List Client) (half calls capacity : ℕ) (history : List Commit)
    (now : Situation)
    → AreHalves clients half calls → capacity < 2 ^ 63
    → IsRun (buffer_of capacity) clients history now → IsCounted clients half capacity history now
every_state clients half calls capacity history now halves small begun = at_start clients half capacity
every_state clients half calls capacity history now halves small (stepped before from commit next run may follows) =
    one_more clients half calls capacity before from commit next halves small (every_state clients half calls capacity before from halves small run) follows

-- ---- where a run ends

-- each client has made so many calls, and the buffer is empty
record IsOver (half calls : ℕ) (history : List Commit) (now : Situation) : Type 0 where
  each : (client : ℕ) → client < half + half → done history client ≡ calls
  empty : now.state ≡ holding 0
  all : length history ≡ (half + half) * calls

-- no more calls than there are
within_calls : (clients : List Client) (calls method : ℕ) (history : List Commit) (client : ℕ)
    → calls_of clients client ≡ replicate calls (plain_call method)
    → done history client ≤ length (calls_of clients client) → done history client ≤ calls
within_calls clients calls method history client are few =
    omega (arith, few, ap (λ (list : List Call). length list) are, length-replicate calls (plain_call method))

-- a client whose guard is true has no call left
all_made : (clients : List Client) (half capacity calls method : ℕ) (history : List Commit)
    (now : Situation) (client : ℕ) → method ≤ 1
    → AreHalves clients half calls → client < half + half
    → IsCounted clients half capacity history now
    → calls_of clients client ≡ replicate calls (plain_call method)
    → ((inputs : Inputs) → guard_truth (buffer_of capacity) now.state method inputs ≡ true)
    → Ends (buffer_of capacity) clients now → done history client ≡ calls
all_made clients half capacity calls method history now client low_number halves within counted are guard ends =
    let here = at_index now.places client (omega (arith, within, halves.long, counted.one_each)) in
    let past = counted.past client here.0 here.1 in
    elim (split (done history client) calls) [
      | inl less ↦ absurd (ends client (can_act clients capacity calls method now client here.0 low_number here.1 past.block (omega (arith, less, past.calls)) are guard))
      | inr more ↦ omega (arith, within_calls clients calls method history client are (counted.few client), more)
    ]

from_none : (half : ℕ) (history : List Commit) → below (0 + half) history ≡ below half history
from_none half history = ap (λ (bound : ℕ). below bound history) (omega arith)

ends_over : (clients : List Client) (half calls capacity count : ℕ) (history : List Commit)
    (now : Situation)
    → AreHalves clients half calls → 0 < capacity → IsCounted clients half capacity history now
    → now.state ≡ holding count → below half history + below half history ≡ count + below
    (half + half) history
    → Ends (buffer_of capacity) clients now → IsOver half calls history now
ends_over clients half calls capacity zero history now halves some counted holds balance ends =
    let open_now : (inputs : Inputs) → guard_truth (buffer_of capacity) now.state 0 inputs ≡ true =
    λ inputs. subst (λ (state : List Value). guard_truth (buffer_of capacity) state 0 inputs ≡ true) (sym holds) (room_true capacity 0 inputs some) in
    let put : (client : ℕ) → client < half → done history client ≡ calls =
    λ client puts. all_made clients half capacity calls 0 history now client (omega arith) halves (omega (arith, puts)) counted (halves.puts client puts) open_now ends in
    let most : (client : ℕ) → InRange half half client → done history client ≤ calls =
    λ client gets. within_calls clients calls 1 history client (halves.gets client gets.0 gets.1) (counted.few client) in
    let puts = just_each history 0 half calls (λ client within. put client (omega (arith, within.1))) in
    let start = from_none half history in
    let none = below_none history in
    let get = each_from_all history half half calls most (omega (arith, puts, start, none, balance)) in
    record {
      each = λ client within. elim (split client half) [ inl puts ↦ put client puts | inr gets ↦ get client (gets, within) ];
      empty = holds;
      all = omega (arith, counted.all, puts, start, none, balance, add-mul half half calls);
    }
ends_over clients half calls capacity (suc count) history now halves some counted holds balance ends =
    let open_now : (inputs : Inputs) → guard_truth (buffer_of capacity) now.state 1 inputs ≡ true =
    λ inputs. subst (λ (state : List Value). guard_truth (buffer_of capacity) state 1 inputs ≡ true) (sym holds) (some_true capacity (suc count) inputs (omega arith)) in
    let got_all : (client : ℕ) → InRange half half client → done history client ≡ calls =
    λ client gets. all_made clients half capacity calls 1 history now client (omega arith) halves gets.1 counted (halves.gets client gets.0 gets.1) open_now ends in
    let most : (client : ℕ) → InRange 0 half client → done history client ≤ calls =
    λ client puts. within_calls clients calls 0 history client (halves.puts client (omega (arith, puts.1))) (counted.few client) in
    absurd (omega (arith, just_each history half half calls got_all, at_most_each history 0 half calls most, from_none half history, below_none history, balance))

none_left : (clients : List Client) (half calls capacity : ℕ) (history : List Commit)
    (now : Situation) → AreHalves clients half calls → IsCounted clients half capacity history now
    → IsOver half calls history now
    → IsFinished clients now
none_left clients half calls capacity history now halves counted over client place at = elim (split client half) [
  | inl puts ↦ past_all 0 (halves.puts client puts) (over.each client (omega arith))
  | inr past ↦ elim (split client (half + half)) [
    | inl gets ↦ past_all 1 (halves.gets client past gets) (over.each client gets)
    | inr none ↦ ap (λ (list : List Call). slice_get list place.past) (halves.none client none)
  ]
] where
  past_all : (method : ℕ) → calls_of clients client ≡ replicate calls (plain_call method)
      → done history client ≡ calls → call_at clients client place ≡ None
  past_all method are is =
      let past = counted.past client place at in
      slice_get_past (calls_of clients client) place.past (omega (arith, is, past.calls, ap (λ (list : List Call). length list) are, length-replicate calls (plain_call method)))

-- ---- the large input

halves : AreHalves producers_and_consumers 16 512
halves = are_halves 16 512

-- what is known of a run at its end
record IsWhole (clients : List Client) (half calls : ℕ) (history : List Commit)
    (now : Situation) : Type 0 where
  over : IsOver half calls history now
  finished : IsFinished clients now

run_over : (half calls capacity : ℕ) (clients : List Client) (history : List Commit)
    (now : Situation) → AreHalves clients half calls → 0 < capacity → capacity < 2 ^ 63
    → IsRun (buffer_of capacity) clients history now → Ends (buffer_of capacity) clients now
    → IsWhole clients half calls history now
run_over half calls capacity clients history now are some small run ends =
    let counted = every_state clients half calls capacity history now are small run in
    let over = ends_over clients half calls capacity counted.count history now are some counted counted.holds counted.balance ends in
    record { over = over; finished = none_left clients half calls capacity history now are counted over }

small_capacity : (number : ℕ) → capacity_of number < 2 ^ 63
small_capacity number = omega arith

pub every_run : EveryLargeRunEndsDone
every_run number history now run ends =
    let whole = run_over 16 512 (capacity_of number) producers_and_consumers history now halves (omega arith) (small_capacity number) run ends in
    record { finished = whole.finished; calls = whole.over.all; empty = whole.over.empty }
