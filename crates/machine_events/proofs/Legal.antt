-- Legal logs keep what events keep, and where one is closed no client may step.
use Rattle.std.proofs.Common.{◌≡◌, ℕ, true, List, length, sym, subst, arith, inl, inr}
use Rattle.std.proofs.lemmas.Bool.{true≢false, leb-true}
use Rattle.machine_implicit.specs.Scripted.{calls_of}
use Rattle.machine_implicit.specs.declared.place.Place.{Place}
use Rattle.machine_implicit.specs.Places.{may_step}
use Rattle.machine_implicit.specs.Runs.{Ends}
use Rattle.machine_events.specs.declared.event.Event.{Event}
use Rattle.machine_events.specs.declared.event.Event.TheVariants as events
use Rattle.machine_events.specs.declared.log.Entry.{Entry}
use Rattle.machine_events.specs.declared.plan.Note.{Note}
use Rattle.machine_events.specs.declared.event.Stage.{Stage}
use Rattle.machine_events.specs.Configurations.{System, Configuration, StandsAt, initial, situation_of}
use Rattle.machine_events.specs.declared.event.Stage.TheVariants.{Idle, Entering, Waiting, Woken, Inside, Notifying}
use Rattle.machine_events.specs.Events.{IsEvent}
use Rattle.machine_events.specs.Pending.{IsSystem, IsSound}
use Rattle.machine_events.specs.Logs.{IsNotified, IsBegun, IsSection, IsLegal, IsClosed}
use Rattle.machine_events.specs.Logs.IsNotified.{all_made, one_made}
use Rattle.machine_events.specs.Logs.IsSection.{waited, refused, replied}
use Rattle.machine_events.specs.Logs.IsLegal.{empty, sectioned, woken}
use Rattle.machine_events.proofs.Sound.{event_keeps_sound, start_is_sound}
use Rattle.machine_events.specs.Laws.{HasCountingPlan}
use Rattle.machine_events.proofs.Notified.{event_keeps_covered, start_is_covered}
use Rattle.machine_events.proofs.Ending.{IsKept, wake_is_pending, waiting_guard, has_call, actor}

-- ---- what each event keeps, a legal log keeps

-- what events keep
pub record IsLasting (system : System) (P : Configuration → Type 0) : Type 0 where
  pub start : P (initial system)
  pub kept : (event : Event) (before next : Configuration) → P before
      → IsEvent system event before next → P next

notified_keeps : (system : System) (P : Configuration → Type 0) → IsLasting system P
    → (log : List Entry) (client : ℕ) (c last : Configuration) → P c
    → IsNotified system log client c last → P last
notified_keeps system P lasting log client c last held (all_made own place at) = held
notified_keeps system P lasting log client c last held (one_made own next end target chosen happens more) =
    notified_keeps system P lasting log client next end (lasting.kept (events.Notify client target) own next held happens) more

begun_keeps : (system : System) (P : Configuration → Type 0) → IsLasting system P
    → (client : ℕ) (place : Place) (before begun : Configuration) → P before
    → IsBegun system client place before begun → P begun
begun_keeps system P lasting client place before begun held (inl begins) = lasting.kept (events.Begin client) before begun held (place, begins)
begun_keeps system P lasting client place before begun held (inr stays) = subst P (sym stays.1) held

pub section_keeps : (system : System) (P : Configuration → Type 0) → IsLasting system P
    → (log : List Entry) (before : Configuration) (entry : Entry) (next : Configuration) → P before
    → IsSection system log before entry next → P next
section_keeps system P lasting log before entry next held (waited client place begun locked last free begins locks waits) =
    let one = begun_keeps system P lasting client place before begun held begins in
    let two = lasting.kept (events.Lock client) begun locked one (place, locks) in
    lasting.kept (events.Wait client) locked last two (place, inl waits)
section_keeps system P lasting log before entry next held (refused client place goes reply state begun locked ran last free begins locks refuses unlocks) =
    let one = begun_keeps system P lasting client place before begun held begins in
    let two = lasting.kept (events.Lock client) begun locked one (place, locks) in
    let three = lasting.kept (events.Wait client) locked ran two (place, inr (goes, reply, state, refuses)) in
    lasting.kept (events.Unlock client) ran last three (goes, unlocks)
section_keeps system P lasting log before entry next held (replied client place goes bits reply state begun locked ran notified last free begins locks runs notes unlocks are) =
    let one = begun_keeps system P lasting client place before begun held begins in
    let two = lasting.kept (events.Lock client) begun locked one (place, locks) in
    let three = lasting.kept (events.Run client) locked ran two (place, goes, reply, state, runs) in
    let four = notified_keeps system P lasting log client ran notified three notes in
    lasting.kept (events.Unlock client) notified last four (goes, unlocks)

pub legal_keeps : (system : System) (P : Configuration → Type 0) → IsLasting system P
    → (log : List Entry) (c : Configuration) → IsLegal system log c → P c
legal_keeps system P lasting log c empty = lasting.start
legal_keeps system P lasting log c (sectioned more before entry next legal section) = section_keeps system P lasting more before entry next (legal_keeps system P lasting more before legal) section
legal_keeps system P lasting log c (woken more before client place condition next legal wakens) =
    lasting.kept (events.Spurious client) before next (legal_keeps system P lasting more before legal) (place, condition, wakens)

pub sound_lasts : (system : System) → IsSystem system → IsLasting system (IsSound system)
sound_lasts system is = record { start = start_is_sound system is.rule is.scripts; kept = event_keeps_sound system is.rule is.scripts }

pub kept_lasts : (system : System) → HasCountingPlan system → IsLasting system (IsKept system)
kept_lasts system set = record {
  start = record { sound = start_is_sound system set.is.rule set.is.scripts; covered = start_is_covered system set };
  kept = λ event before next kept happens. record {
    sound = event_keeps_sound system set.is.rule set.is.scripts event before next kept.sound happens;
    covered = event_keeps_covered system set event before next kept.sound kept.covered happens;
  };
}

-- ---- where it is closed

no_one_acts : (system : System) (c : Configuration) → HasCountingPlan system → IsKept system c
    → IsClosed system c → (client : ℕ) (place : Place) (stage : Stage (List Note))
    → StandsAt c.standings client place stage
    → may_step system.monitor system.clients c.state client place ≡ true → ⊥
no_one_acts system c set kept closed client place Idle at may =
    let over = leb-true (length (calls_of system.clients client)) place.past (closed.each client place Idle at) in
    let left = has_call system c.state client place may in
    omega (arith, over, left)
no_one_acts system c set kept closed client place (Waiting on) at may =
    let pending = wake_is_pending system c set kept.sound kept.covered closed.free client place on at (waiting_guard system c kept.sound client place on at may) in
    true≢false (sym (closed.each pending.0 pending.1 (Woken on) pending.2))
no_one_acts system c set kept closed client place Entering at may = true≢false (sym (closed.each client place Entering at))
no_one_acts system c set kept closed client place (Woken on) at may = true≢false (sym (closed.each client place (Woken on) at))
no_one_acts system c set kept closed client place Inside at may = true≢false (sym (closed.each client place Inside at))
no_one_acts system c set kept closed client place (Notifying notes) at may = true≢false (sym (closed.each client place (Notifying notes) at))

pub closed_ends : (system : System) (c : Configuration) → HasCountingPlan system → IsKept system c
    → IsClosed system c → Ends system.monitor system.clients (situation_of c)
closed_ends system c set kept closed client can =
    let one = actor system c client can in
    no_one_acts system c set kept closed client one.place one.stage one.at one.may
