-- A client that can act, as the code finds its place.
use Rattle.std.proofs.Common.{◌≡◌, ℕ, zero, suc, ◌<◌, ◌≤◌, true, List, [], ◌∷◌, ◌++◌, length, take, get_or, sum_by, Option, Some, None, refl, sym, ap, subst, ◌∙◌, arith}
use Rattle.std.specs.Prelude.{slice_get, slice_set, ◌+◌}
use Rattle.std.proofs.lemmas.List.{take_more, length-take}
use Rattle.std.proofs.lemmas.List.Sums.{sum_by-cons}
use Rattle.std.proofs.lemmas.Option.{slice_get_within, get_or_from_slice_get}
use Rattle.lang_base.specs.declared.value.Value.{Value}
use Rattle.lang_monitor.specs.declared.monitor.Method.{Method}
use Rattle.lang_monitor.specs.MonitorParts.{MonitorParts, IsMonitor, count_in}
use Rattle.machine_implicit.specs.declared.commit.Reply.{Reply}
use Rattle.machine_implicit.specs.declared.place.Place.{Place}
use Rattle.machine_implicit.specs.declared.script.Call.{Call}
use Rattle.machine_implicit.specs.declared.script.Client.{Client}
use Rattle.machine_implicit.specs.Scripted.{AreClients, FitsScripts, FitsCall, calls_of}
use Rattle.machine_implicit.specs.Places.{call_at, first_place, may_step, FitsPlace, FitsPlaceAt, IsStep}
use Rattle.machine_implicit.specs.Runs.{CanAct, FitsSituation, IsNextCommit, first_places}
use Rattle.machine_implicit.specs.inner.Progress.{stands_at}
use Rattle.machine_implicit.proofs.Fitting.{is_some_and, all_at, at_index, calls_fit}

-- a client with a place at which it may step
pub record IsActor (monitor : MonitorParts) (clients : List Client) (state : List Value) (places : List Place) (client : ℕ) (place : Place) : Type 0 where
  pub at : slice_get places client ≡ Some place
  pub fits : FitsPlace monitor clients client place
  pub may : may_step monitor clients state client place ≡ true
  pub within : client < length clients
  pub past : place.past < 16384
  pub block : place.block < 4

calls_within_sum : (clients : List Client) (client : ℕ) → length (calls_of clients client) ≤ sum_by (λ one. length one.calls) clients
calls_within_sum [] client = omega arith
calls_within_sum (one ∷ clients) zero = omega (arith, sum_by-cons (λ (one : Client). length one.calls) one clients)
calls_within_sum (one ∷ clients) (suc client) = omega (arith, sum_by-cons (λ (one : Client). length one.calls) one clients, calls_within_sum clients client)

has_call : (monitor : MonitorParts) (clients : List Client) (state : List Value) (client : ℕ) (place : Place) (found : Option Call) → call_at clients client place ≡ found
    → may_step monitor clients state client place ≡ true → (call : Call) × (call_at clients client place ≡ Some call)
has_call monitor clients state client place (Some call) is may = (call, is)
has_call monitor clients state client place None is may = absurd (cc)

actor_at : (monitor : MonitorParts) (clients : List Client) (state : List Value) (places : List Place) (client : ℕ) → IsMonitor monitor → AreClients clients → FitsScripts monitor clients → length places ≡ length clients
    → FitsSituation monitor clients (stands_at state places) → CanAct monitor clients (stands_at state places) client → (place : Place) × IsActor monitor clients state places client place
actor_at monitor clients state places client rule named scripts same fits can =
    let found = is_some_and (slice_get places client) (λ (place : Place). may_step monitor clients state client place ≡ true) can in
    let place = found.0 in
    let fit = fits.places client place found.1 in
    let call = has_call monitor clients state client place (call_at clients client place) refl found.2 in
    let within = slice_get_within (calls_of clients client) place.past call.0 call.1 in
    let here : FitsPlaceAt monitor place (Some call.0) = subst (FitsPlaceAt monitor place) call.1 fit in
    let method = at_index monitor.methods call.0.method (all_at (FitsCall monitor) (calls_of clients client) place.past call.0 call.1 (calls_fit monitor clients client scripts)).method in
    let counted : place.block < method.0.count = subst (λ (some : Option Method). place.block < count_in some) method.1 here.0 in
    let few = (rule.methods call.0.method method.0 method.1).few in (
      place,
      record {
        at = found.1;
        fits = fit;
        may = found.2;
        within = omega (arith, same, slice_get_within places client place found.1);
        past = omega (arith, within, calls_within_sum clients client, named.few_calls);
        block = omega (arith, counted, few);
      },
    )

-- the place that the code reads, whatever it takes where there is none
pub read_at : (monitor : MonitorParts) (clients : List Client) (state : List Value) (places : List Place) (client : ℕ) (default : Place) → IsMonitor monitor → AreClients clients → FitsScripts monitor clients → length places ≡ length clients
    → FitsSituation monitor clients (stands_at state places) → CanAct monitor clients (stands_at state places) client → IsActor monitor clients state places client (get_or places client default)
read_at monitor clients state places client default rule named scripts same fits can =
    let actor = actor_at monitor clients state places client rule named scripts same fits can in
    subst (IsActor monitor clients state places client) (sym (get_or_from_slice_get places client actor.0 default actor.1.at)) actor.1

-- the commit of the step, whatever the code takes where there is no place
pub commit_follows : (monitor : MonitorParts) (clients : List Client) (state next : List Value) (places : List Place) (client : ℕ) (first second third goes : Place) (reply : Reply)
    → IsActor monitor clients state places client (get_or places client third)
    → IsStep monitor clients client (get_or places client third) state reply next goes
    → IsNextCommit monitor clients (stands_at state places) (record { client = client; call = (get_or places client first).past + 1; block = (get_or places client second).block + 1; reply = reply })
    (stands_at next (slice_set places client goes))
commit_follows monitor clients state next places client first second third goes reply one step = record {
  place = get_or places client third;
  at = one.at;
  call = ap (λ (place : Place). place.past + 1) (get_or_from_slice_get places client (get_or places client third) first one.at);
  block = ap (λ (place : Place). place.block + 1) (get_or_from_slice_get places client (get_or places client third) second one.at);
  state = next;
  goes = goes;
  step = step;
  becomes = refl;
}

-- ---- first places, one more

first_push : (monitor : MonitorParts) (all : List Client) (number : ℕ) (some : List Client) (client : Client)
    → first_places monitor all number (some ++ client ∷ []) ≡ first_places monitor all number some ++ first_place monitor all (number + length some) 0 ∷ []
first_push monitor all number [] client = let same : number ≡ number + 0 = omega arith in ap (λ (who : ℕ). first_place monitor all who 0 ∷ []) same
first_push monitor all number (first ∷ some) client =
    let same : (number + 1) + length some ≡ number + length (first ∷ some) = omega arith in
    ap (λ (more : List Place). first_place monitor all number 0 ∷ more) (first_push monitor all (number + 1) some client)
    ∙ ap (λ (who : ℕ). first_place monitor all number 0 ∷ (first_places monitor all (number + 1) some ++ first_place monitor all who 0 ∷ [])) same

pub first_more : (monitor : MonitorParts) (clients : List Client) (index : ℕ) → index < length clients
    → first_places monitor clients 0 (take (index + 1) clients) ≡ first_places monitor clients 0 (take index clients) ++ first_place monitor clients index 0 ∷ []
first_more monitor clients index within =
    let one = at_index clients index within in
    let same : 0 + length (take index clients) ≡ index = omega (arith, length-take index clients) in
    ap (first_places monitor clients 0) (take_more clients index one.0 within) ∙ first_push monitor clients 0 (take index clients) (get_or clients index one.0)
    ∙ ap (λ (who : ℕ). first_places monitor clients 0 (take index clients) ++ first_place monitor clients who 0 ∷ []) same
