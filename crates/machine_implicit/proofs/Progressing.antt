-- A run so far: its start, one more step, and whether it is finished.
use Rattle.std.proofs.Common.{◌≡◌, ◌+◌, ◌-◌, ◌<◌, ◌≤◌, ℕ, suc, true, IsTrue, List, [], ◌∷◌, ◌++◌, Some, None, length, get_or, refl, sym, ap, subst, ◌∙◌, arith, inl, inr}
use Rattle.std.specs.Prelude.{◌↔◌, nat_le, slice_get}
use Rattle.std.proofs.lemmas.Bool.Decides.{nat_tests}
use Rattle.std.proofs.lemmas.Option.{none-some, same_Some, slice_get_cases, slice_get_past, slice_get_read}
use Rattle.std.proofs.lemmas.List.{length_push}
use Rattle.lang_base.specs.declared.value.Value.{Value}
use Rattle.lang_monitor.specs.MonitorParts.{MonitorParts, IsMonitor}
use Rattle.machine_implicit.specs.declared.commit.Commit.{Commit}
use Rattle.machine_implicit.specs.declared.place.Place.{Place}
use Rattle.machine_implicit.specs.declared.script.Call.{Call}
use Rattle.machine_implicit.specs.declared.script.Client.{Client}
use Rattle.machine_implicit.specs.declared.progress.Progress.{Progress}
use Rattle.machine_implicit.specs.Scripted.{FitsScripts, all_blocks, calls_in, calls_of}
use Rattle.machine_implicit.specs.Places.{call_at}
use Rattle.machine_implicit.specs.Steps.{start_of}
use Rattle.machine_implicit.specs.Runs.{first_places, start_at, IsNextCommit, IsRun, Situation}
use Rattle.machine_implicit.specs.Runs.IsRunBy.{begun, stepped}
use Rattle.machine_implicit.specs.Rounds.{IsNextActor}
use Rattle.machine_implicit.specs.inner.Progress.{blocks_left, now_of, stands_at, IsProgress}
use Rattle.machine_implicit.proofs.Schedule.{first_asked_more}
use Rattle.machine_implicit.proofs.Fitting.{run_fits, commit_fits}
use Rattle.machine_implicit.proofs.Left.{run_counts}

first_length : (monitor : MonitorParts) (all : List Client) (number : ℕ) (some : List Client) → length (first_places monitor all number some) ≡ length some
first_length monitor all number [] = refl
first_length monitor all number (client ∷ some) = ap suc (first_length monitor all (number + 1) some)

pub progress_begun : (monitor : MonitorParts) (clients : List Client) (run : Progress) → IsMonitor monitor → FitsScripts monitor clients
    → run.history.items ≡ [] → run.places.items ≡ first_places monitor clients 0 clients → run.next_asked ≡ 0 → run.state ≡ start_of monitor
    → IsProgress monitor clients run
progress_begun monitor clients run rule scripts empty places asks start =
    let is : now_of run ≡ start_at monitor clients = λ i. record { state = start i; places = places i } in
    record {
      runs = rw (empty, is) begun;
      by_rounds = rw (empty, is) begun;
      fits = rw is (run_fits monitor clients [] (start_at monitor clients) rule scripts begun);
      one_each = ap length places ∙ first_length monitor clients 0 clients;
      asks = rw empty asks;
      asks_within = omega (arith, asks);
    }

-- the step of the next actor, as the code lends the places
pub follows_lent : (monitor : MonitorParts) (clients : List Client) (state next : List Value) (before places goes after : List Place) (commit : Commit) → places ≡ before → after ≡ goes
    → IsNextCommit monitor clients (stands_at state places) commit (stands_at next goes) → IsNextCommit monitor clients (stands_at state before) commit (stands_at next after)
follows_lent monitor clients state next before places goes after commit lent back follows =
    subst (λ (some : List Place). IsNextCommit monitor clients (stands_at state some) commit (stands_at next after)) lent
    (subst (λ (some : List Place). IsNextCommit monitor clients (stands_at state places) commit (stands_at next some)) (sym back) follows)

pub progress_more : (monitor : MonitorParts) (clients : List Client) (run next : Progress) (client : ℕ) (commit : Commit) → IsMonitor monitor → FitsScripts monitor clients
    → IsProgress monitor clients run → IsNextActor monitor clients run.history.items (now_of run) client
    → commit.client ≡ client
    → IsNextCommit monitor clients (now_of run) commit (now_of next)
    → next.history.items ≡ run.history.items ++ commit ∷ []
    → length next.places.items ≡ length run.places.items
    → next.next_asked ≡ client + 1
    → IsProgress monitor clients next
progress_more monitor clients run next client commit rule scripts progress actor own follows history each asks =
    let acts = subst (IsNextActor monitor clients run.history.items (now_of run)) (sym own) actor in
    record {
      runs = rw history (stepped run.history.items (now_of run) commit (now_of next) progress.runs tt follows);
      by_rounds = rw history (stepped run.history.items (now_of run) commit (now_of next) progress.by_rounds acts follows);
      fits = commit_fits monitor clients (now_of run) (now_of next) commit rule scripts progress.fits follows;
      one_each = each ∙ progress.one_each;
      asks = rw (history, first_asked_more run.history.items commit, own) asks;
      asks_within = omega (arith, asks, actor.is);
    }

-- one block less is left
pub progress_fewer : (monitor : MonitorParts) (clients : List Client) (run : Progress) (next : Situation) (history : List Commit) (commit : Commit) → IsMonitor monitor → FitsScripts monitor clients
    → IsProgress monitor clients run → IsNextCommit monitor clients (now_of run) commit next → history ≡ run.history.items ++ commit ∷ []
    → all_blocks monitor clients - length history < blocks_left monitor clients run
progress_fewer monitor clients run next history commit rule scripts progress follows more =
    let runs : IsRun monitor clients history next = rw more (stepped run.history.items (now_of run) commit next progress.runs tt follows) in
    let counts = run_counts monitor clients history next rule scripts runs in
    let long : length history ≡ length run.history.items + 1 = ap length more ∙ length_push run.history.items commit in
    omega (arith, counts, long)

-- ---- a client with no call left

past_all : (calls : List Call) (past : ℕ) → slice_get calls past ≡ None → nat_le (length calls) past ≡ true
past_all calls past none = elim (slice_get_cases calls past).1 [
  | inl (call, within, some, at) ↦ absurd (none-some call (sym none ∙ some))
  | inr (low, is) ↦ grind (arith, nat_tests)
]

-- as the code finds its place and its calls
pub done_where : (clients : List Client) (places : List Place) (client : ℕ) (one : Client) (place : Place) (calls : List Call) → client < length clients → length places ≡ length clients
    → place ≡ get_or places client place → one ≡ get_or clients client one → calls ≡ one.calls
    → IsTrue (nat_le (length calls) place.past) ↔ ((other : Place) → slice_get places client ≡ Some other → call_at clients client other ≡ None)
done_where clients places client one place calls within each is one_is calls_is =
    let at = slice_get_read places (length clients) client place (sym each) within is in
    let own : calls_of clients client ≡ calls = ap calls_in (slice_get_read clients (length clients) client one refl within one_is) ∙ sym calls_is in (
      λ low other here.
          let same : place ≡ other = same_Some place other (sym at ∙ here) in
          let past : length calls ≤ place.past = grind (arith, nat_tests) in
          ap (λ (q : Place). slice_get (calls_of clients client) q.past) (sym same) ∙ ap (λ (list : List Call). slice_get list place.past) own ∙ slice_get_past calls place.past past,
      λ none. past_all calls place.past (ap (λ (list : List Call). slice_get list place.past) (sym own) ∙ none place at),
    )
