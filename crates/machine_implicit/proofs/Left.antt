-- The blocks that are left: in a run each commit takes one away at least.
use Rattle.std.proofs.Common.{◌≡◌, ℕ, zero, suc, ◌+◌, ◌-◌, ◌<◌, ◌≤◌, Bool, true, false, cond, List, [], ◌∷◌, length, drop, sum_by, Some, refl, sym, ap, subst, ◌∙◌, arith}
use Rattle.std.specs.Prelude.{slice_get, slice_set, ◌||◌}
use Rattle.std.proofs.lemmas.List.{length_push}
use Rattle.std.proofs.lemmas.List.Sums.{sum_by-cons, sum_by-drop_more}
use Rattle.std.proofs.lemmas.Option.{none-some, same_Some, slice_get_within, get_or_from_slice_get}
use Rattle.lang_base.specs.declared.value.Value.{Value}
use Rattle.lang_monitor.specs.MonitorParts.{MonitorParts, IsMonitor}
use Rattle.machine_implicit.specs.declared.commit.Commit.{Commit}
use Rattle.machine_implicit.specs.declared.commit.Reply.{Reply}
use Rattle.machine_implicit.specs.declared.script.Call.{Call}
use Rattle.machine_implicit.specs.declared.script.Client.{Client}
use Rattle.machine_implicit.specs.Scripted.{FitsScripts, calls_of, blocks_in, all_blocks}
use Rattle.machine_implicit.specs.declared.place.Place.{Place}
use Rattle.machine_implicit.specs.Places.{first_place, next_place, gives_up, is_last, FitsPlaceAt}
use Rattle.machine_implicit.specs.Runs.{Situation, first_places, IsRun}
use Rattle.machine_implicit.specs.Runs.IsRunBy.{begun, stepped}
use Rattle.machine_implicit.proofs.Fitting.{run_fits}

-- ---- the blocks that are left of a client's calls

unfoldable pub left_in : MonitorParts → List Call → Place → ℕ
left_in monitor calls place = sum_by (blocks_in monitor) (drop place.past calls) - place.block

unfoldable pub left_of : MonitorParts → List Client → List Place → ℕ
left_of monitor [] places = 0
left_of monitor (client ∷ clients) [] = 0
left_of monitor (client ∷ clients) (place ∷ places) = left_in monitor client.calls place + left_of monitor clients places

-- the next call's blocks, and those after it
next_blocks : (monitor : MonitorParts) (calls : List Call) (past : ℕ) (call : Call) → slice_get calls past ≡ Some call
    → sum_by (blocks_in monitor) (drop past calls) ≡ blocks_in monitor call + sum_by (blocks_in monitor) (drop (past + 1) calls)
next_blocks monitor calls past call is =
    sum_by-drop_more (blocks_in monitor) calls past call (slice_get_within calls past call is)
    ∙ ap (λ (one : Call). blocks_in monitor one + sum_by (blocks_in monitor) (drop (past + 1) calls)) (get_or_from_slice_get calls past call call is)

-- a client with a call left has a block left
pub some_left : (monitor : MonitorParts) (calls : List Call) (place : Place) (call : Call) → slice_get calls place.past ≡ Some call → place.block < blocks_in monitor call → 1 ≤ left_in monitor calls place
unfolding left_in
some_left monitor calls place call is within = omega (arith, next_blocks monitor calls place.past call is, within)

-- a step takes one away
fewer_left : (monitor : MonitorParts) (clients : List Client) (client : ℕ) (place : Place) (call : Call) (reply : Reply) (locals : List Value)
    → slice_get (calls_of clients client) place.past ≡ Some call → place.block < blocks_in monitor call
    → left_in monitor (calls_of clients client) (next_place monitor clients client call place reply locals) + 1 ≤ left_in monitor (calls_of clients client) place
unfolding left_in
fewer_left monitor clients client place call reply locals is within = by (gives_up reply) (is_last monitor call place.block)
  where
    calls : List Call
    calls = calls_of clients client

    by : (up last : Bool)
        → sum_by (blocks_in monitor) (drop (cond (up || last) (first_place monitor clients client (place.past + 1)) (record { past = place.past; block = place.block + 1; locals = locals })).past (calls_of clients client))
        - (cond (up || last) (first_place monitor clients client (place.past + 1)) (record { past = place.past; block = place.block + 1; locals = locals })).block + 1
        ≤ sum_by (blocks_in monitor) (drop place.past (calls_of clients client)) - place.block
    by true last = omega (arith, next_blocks monitor (calls_of clients client) place.past call is, within)
    by false true = omega (arith, next_blocks monitor (calls_of clients client) place.past call is, within)
    by false false = omega (arith, next_blocks monitor (calls_of clients client) place.past call is, within)

-- one client's place changes
left_moved : (monitor : MonitorParts) (clients : List Client) (places : List Place) (client : ℕ) (place goes : Place) (call : Call) → slice_get places client ≡ Some place
    → slice_get (calls_of clients client) place.past ≡ Some call
    → left_in monitor (calls_of clients client) goes + 1 ≤ left_in monitor (calls_of clients client) place
    → left_of monitor clients (slice_set places client goes) + 1 ≤ left_of monitor clients places
unfolding left_of
left_moved monitor [] places client place goes call at is fewer = absurd (none-some call is)
left_moved monitor (first ∷ clients) [] client place goes call at is fewer = absurd (none-some place at)
left_moved monitor (first ∷ clients) (one ∷ places) zero place goes call at is fewer =
    let same : one ≡ place = same_Some one place at in
    let own : left_in monitor first.calls one ≡ left_in monitor first.calls place = ap (left_in monitor first.calls) same in
    omega (arith, own, fewer)
left_moved monitor (first ∷ clients) (one ∷ places) (suc client) place goes call at is fewer = omega (arith, left_moved monitor clients places client place goes call at is fewer)

-- all are left at the start
all_left : (monitor : MonitorParts) (all clients : List Client) (number : ℕ) → left_of monitor clients (first_places monitor all number clients) ≡ sum_by (λ client. sum_by (blocks_in monitor) client.calls) clients
unfolding left_of left_in
all_left monitor all [] number = refl
all_left monitor all (client ∷ clients) number =
    omega (arith, all_left monitor all clients (number + 1), sum_by-cons (λ (one : Client). sum_by (blocks_in monitor) one.calls) client clients)

-- the commits of a run, and the blocks that are left, are no more than the blocks of all calls
pub run_counts : (monitor : MonitorParts) (clients : List Client) (history : List Commit) (now : Situation) → IsMonitor monitor → FitsScripts monitor clients → IsRun monitor clients history now
    → length history + left_of monitor clients now.places ≤ all_blocks monitor clients
run_counts monitor clients history now rule scripts begun = omega (arith, all_left monitor clients clients 0)
run_counts monitor clients history now rule scripts (stepped before from commit next runs may follows) =
    let fit = run_fits monitor clients before from rule scripts runs in
    let step = follows.step in
    let here : FitsPlaceAt monitor follows.place (Some step.call) = subst (FitsPlaceAt monitor follows.place) step.at (fit.places commit.client follows.place follows.at) in
    let fewer = fewer_left monitor clients commit.client follows.place step.call commit.reply step.memory.locals step.at here.0 in
    let goes : left_in monitor (calls_of clients commit.client) follows.goes + 1 ≤ left_in monitor (calls_of clients commit.client) follows.place =
    subst (λ (one : Place). left_in monitor (calls_of clients commit.client) one + 1 ≤ left_in monitor (calls_of clients commit.client) follows.place) (sym step.place_is) fewer in
    let moved = left_moved monitor clients from.places commit.client follows.place follows.goes step.call follows.at step.at goes in
    let places : left_of monitor clients next.places ≡ left_of monitor clients (slice_set from.places commit.client follows.goes) =
    ap (λ (one : Situation). left_of monitor clients one.places) follows.becomes in
    omega (arith, length_push before commit, moved, places, run_counts monitor clients before from rule scripts runs)
