-- The machine as the code keeps it.
use Rattle.std.proofs.Common.{◌≡◌, ℕ, ◌<◌, List, [], ◌∷◌, map, set, length, get_or, Option, Some, None, refl, sym, ap, subst, ◌∙◌, inl, inr}
use Rattle.std.specs.Prelude.{slice_get, option_map, is_some, false}
use Rattle.std.proofs.lemmas.List.{map-set}
use Rattle.std.proofs.lemmas.Option.{none-some, same_Some, slice_get-map, slice_get_within, get_or_from_slice_get}
use Rattle.lang_base.specs.declared.value.Value.{Value}
use Rattle.lang_monitor.specs.MonitorParts.{MonitorParts}
use Rattle.machine_implicit.specs.declared.commit.Commit.{Commit}
use Rattle.machine_implicit.specs.declared.script.Client.{Client}
use Rattle.machine_implicit.specs.Scripted.{calls_of}
use Rattle.machine_events.specs.declared.plan.Plan.{Plan}
use Rattle.machine_events.specs.declared.event.Event.{Event}
use Rattle.machine_events.specs.declared.event.Event.TheVariants as events
use Rattle.machine_events.specs.declared.plan.Note.{Note}
use Rattle.machine_events.specs.declared.event.Stage.{Stage}
use Rattle.machine_explicit.specs.declared.position.ToCome.{ToCome}
use Rattle.machine_events.specs.declared.event.Stage.TheVariants.{Idle, Entering, Waiting, Woken, Inside, Notifying}
use Rattle.machine_explicit.specs.declared.position.Position.{Position}
use Rattle.machine_events.specs.Configurations.{Standing, Configuration, StandsAt, put}
use Rattle.machine_events.specs.Events.{IsEvent, WantsLock}
use Rattle.machine_events.specs.Laws.{HasCountingPlan}
use Rattle.machine_events.proofs.Ending.{wake_is_pending, stuck_ends}
use Rattle.machine_explicit.specs.Machines.{Machine, IsMachine, KeepsWakeUps, NotAllowed}
use Rattle.machine_explicit.specs.inner.Positions.{coming_notes, stage_of, standing_of, machine_of, PositionAt, WantsLockAt}
use Rattle.machine_events.proofs.Sound.{event_keeps_sound}
use Rattle.machine_events.proofs.Notified.{event_keeps_covered}
use Rattle.machine_implicit.specs.declared.place.Place.{Place}

-- ---- where a client stands, as it is kept

pub position_stands : (plan : Plan) (positions : List Position) (client : ℕ) (place : Place) (kept : Stage ToCome) → PositionAt positions client place kept → StandsAt (map (standing_of plan) positions) client place (stage_of plan kept)
position_stands plan positions client place kept at = slice_get-map (standing_of plan) positions client ∙ ap (option_map (standing_of plan)) at

some_of : (plan : Plan) (o : Option Position) (place : Place) (stage : Stage (List Note)) → option_map (standing_of plan) o ≡ Some (record { place = place; stage = stage })
    → (kept : Stage ToCome) × (o ≡ Some (record { place = place; stage = kept })) × (stage_of plan kept ≡ stage)
some_of plan None place stage is = absurd (none-some (record { place = place; stage = stage }) is)
some_of plan (Some one) place stage is =
    let same = same_Some (standing_of plan one) (record { place = place; stage = stage }) is in
    (one.stage, (λ i. Some (record { place = (same i).place; stage = one.stage })), ap (λ (s : Standing). s.stage) same)

pub standing_position : (plan : Plan) (positions : List Position) (client : ℕ) (place : Place) (stage : Stage (List Note)) → StandsAt (map (standing_of plan) positions) client place stage
    → (kept : Stage ToCome) × PositionAt positions client place kept × (stage_of plan kept ≡ stage)
standing_position plan positions client place stage at = some_of plan (slice_get positions client) place stage (sym (slice_get-map (standing_of plan) positions client) ∙ at)

pub map_put : (plan : Plan) (positions : List Position) (client : ℕ) (place : Place) (kept : Stage ToCome)
    → map (standing_of plan) (set positions client (record { place = place; stage = kept })) ≡ put (map (standing_of plan) positions) client place (stage_of plan kept)
map_put plan positions client place kept = map-set (standing_of plan) positions client (record { place = place; stage = kept })

notifying_kept : (plan : Plan) (kept : Stage ToCome) (notes : List Note) → stage_of plan kept ≡ Notifying notes → (to_come : ToCome) × (kept ≡ Notifying to_come) × (coming_notes plan to_come ≡ notes)
notifying_kept plan Idle notes is = absurd (cc is)
notifying_kept plan Entering notes is = absurd (cc is)
notifying_kept plan (Waiting condition) notes is = absurd (cc is)
notifying_kept plan (Woken condition) notes is = absurd (cc is)
notifying_kept plan Inside notes is = absurd (cc is)
notifying_kept plan (Notifying to_come) notes is = (to_come, refl, cc is)

-- a client that stands notifying, as it is kept
pub notifying_made : (plan : Plan) (positions : List Position) (client : ℕ) (place : Place) (notes : List Note) → StandsAt (map (standing_of plan) positions) client place (Notifying notes)
    → (to_come : ToCome) × PositionAt positions client place (Notifying to_come) × (coming_notes plan to_come ≡ notes)
notifying_made plan positions client place notes at =
    let found = standing_position plan positions client place (Notifying notes) at in
    let which = notifying_kept plan found.0 notes found.2 in
    (which.0, subst (λ (kept : Stage ToCome). PositionAt positions client place kept) which.1 found.1, which.2)

idle_kept : (plan : Plan) (kept : Stage ToCome) → stage_of plan kept ≡ Idle → kept ≡ Idle
idle_kept plan Idle is = refl
idle_kept plan Entering is = absurd (cc is)
idle_kept plan (Waiting condition) is = absurd (cc is)
idle_kept plan (Woken condition) is = absurd (cc is)
idle_kept plan Inside is = absurd (cc is)
idle_kept plan (Notifying to_come) is = absurd (cc is)

pub idle_at : (plan : Plan) (positions : List Position) (client : ℕ) (place : Place) → StandsAt (map (standing_of plan) positions) client place Idle → PositionAt positions client place Idle
idle_at plan positions client place at =
    let found = standing_position plan positions client place Idle at in
    subst (λ (kept : Stage ToCome). PositionAt positions client place kept) (idle_kept plan found.0 found.2) found.1

-- ---- an event keeps what a machine meets

pub event_keeps_machine : (event : Event) (before : Machine) (next : Configuration) → IsMachine before → IsEvent before.system event before.now next → IsMachine (record { system = before.system; now = next })
event_keeps_machine event before next machine happens = record {
  is = machine.is;
  clients = machine.clients;
  sound = event_keeps_sound before.system machine.is.rule machine.is.scripts event before.now next machine.sound happens;
  covered = λ lawful. event_keeps_covered before.system (record { is = machine.is; lawful = lawful }) event before.now next machine.sound (machine.covered lawful) happens;
}

-- ---- the events

pub begins : (monitor : MonitorParts) (plan : Plan) (clients : List Client) (state : List Value) (owner : Option ℕ) (commits : List Commit) (positions : List Position) (client : ℕ) (place : Place)
    → PositionAt positions client place Idle → place.past < length (calls_of clients client)
    → IsEvent (record { monitor = monitor; plan = plan; clients = clients }) (events.Begin client) (machine_of monitor plan clients state owner commits positions).now
    (machine_of monitor plan clients state owner commits (set positions client (record { place = place; stage = Entering }))).now
begins monitor plan clients state owner commits positions client place at left = (
  place,
  record {
    idle = position_stands plan positions client place Idle at;
    left = left;
    becomes = ap (λ (standings : List Standing). record { state = state; owner = owner; commits = commits; standings = standings }) (map_put plan positions client place Entering);
  },
)

pub begins_not : (monitor : MonitorParts) (plan : Plan) (clients : List Client) (state : List Value) (owner : Option ℕ) (commits : List Commit) (positions : List Position) (client : ℕ)
    → ((place : Place) → PositionAt positions client place Idle → place.past < length (calls_of clients client) → ⊥)
    → NotAllowed (machine_of monitor plan clients state owner commits positions) (events.Begin client)
begins_not monitor plan clients state owner commits positions client never next happens =
    never happens.0 (idle_at plan positions client happens.0 happens.1.idle) happens.1.left

entering_kept : (plan : Plan) (kept : Stage ToCome) → stage_of plan kept ≡ Entering → kept ≡ Entering
entering_kept plan Idle is = absurd (cc is)
entering_kept plan Entering is = refl
entering_kept plan (Waiting condition) is = absurd (cc is)
entering_kept plan (Woken condition) is = absurd (cc is)
entering_kept plan Inside is = absurd (cc is)
entering_kept plan (Notifying to_come) is = absurd (cc is)

pub woken_kept : (plan : Plan) (kept : Stage ToCome) (condition : ℕ) → stage_of plan kept ≡ Woken condition → kept ≡ Woken condition
woken_kept plan Idle condition is = absurd (cc is)
woken_kept plan Entering condition is = absurd (cc is)
woken_kept plan (Waiting other) condition is = absurd (cc is)
woken_kept plan (Woken other) condition is = ap Woken (cc is)
woken_kept plan Inside condition is = absurd (cc is)
woken_kept plan (Notifying to_come) condition is = absurd (cc is)

pub ready_made : (plan : Plan) (positions : List Position) (client : ℕ) (place : Place) → WantsLock (map (standing_of plan) positions) client place → WantsLockAt positions client place
ready_made plan positions client place (inl at) =
    let found = standing_position plan positions client place Entering at in
    inl (subst (λ (kept : Stage ToCome). PositionAt positions client place kept) (entering_kept plan found.0 found.2) found.1)
ready_made plan positions client place (inr (condition, at)) =
    let found = standing_position plan positions client place (Woken condition) at in
    inr (condition, subst (λ (kept : Stage ToCome). PositionAt positions client place kept) (woken_kept plan found.0 condition found.2) found.1)

pub made_ready : (plan : Plan) (positions : List Position) (client : ℕ) (place : Place) → WantsLockAt positions client place → WantsLock (map (standing_of plan) positions) client place
made_ready plan positions client place (inl at) = inl (position_stands plan positions client place Entering at)
made_ready plan positions client place (inr (condition, at)) = inr (condition, position_stands plan positions client place (Woken condition) at)

pub locks : (monitor : MonitorParts) (plan : Plan) (clients : List Client) (state : List Value) (owner : Option ℕ) (commits : List Commit) (positions : List Position) (client : ℕ) (place : Place)
    → owner ≡ None → WantsLockAt positions client place
    → IsEvent (record { monitor = monitor; plan = plan; clients = clients }) (events.Lock client) (machine_of monitor plan clients state owner commits positions).now
    (machine_of monitor plan clients state (Some client) commits (set positions client (record { place = place; stage = Inside }))).now
locks monitor plan clients state owner commits positions client place free ready = (
  place,
  record {
    free = free;
    wants = made_ready plan positions client place ready;
    becomes = ap (λ (standings : List Standing). record { state = state; owner = Some client; commits = commits; standings = standings }) (map_put plan positions client place Inside);
  },
)

pub locks_not : (monitor : MonitorParts) (plan : Plan) (clients : List Client) (state : List Value) (owner : Option ℕ) (commits : List Commit) (positions : List Position) (client : ℕ)
    → (owner ≡ None → (place : Place) → WantsLockAt positions client place → ⊥)
    → NotAllowed (machine_of monitor plan clients state owner commits positions) (events.Lock client)
locks_not monitor plan clients state owner commits positions client never next happens =
    never happens.1.free happens.0 (ready_made plan positions client happens.0 happens.1.wants)

pub one_place_made : (positions : List Position) (client : ℕ) (place other : Place) (kept others_kept : Stage ToCome) → PositionAt positions client place kept → PositionAt positions client other others_kept → place ≡ other
one_place_made positions client place other kept others_kept at also =
    ap (λ (one : Position). one.place) (same_Some (record { place = place; stage = kept }) (record { place = other; stage = others_kept }) (sym at ∙ also))

-- the position of a client, as it is lent
pub lent_place : (positions : List Position) (client : ℕ) (place : Place) (kept : Stage ToCome) (one : Position) → PositionAt positions client place kept → one ≡ get_or positions client one → place ≡ one.place
lent_place positions client place kept one at is = ap (λ (o : Position). o.place) (sym (get_or_from_slice_get positions client (record { place = place; stage = kept }) one at) ∙ sym is)

pub lent_at : (positions : List Position) (client : ℕ) (place : Place) (kept : Stage ToCome) (one : Position) → PositionAt positions client place kept → one ≡ get_or positions client one → PositionAt positions client one.place kept
lent_at positions client place kept one at is = subst (λ (here : Place). PositionAt positions client here kept) (lent_place positions client place kept one at is) at

pub lent_ready : (positions : List Position) (client : ℕ) (place : Place) (one : Position) → WantsLockAt positions client place → one ≡ get_or positions client one → WantsLockAt positions client one.place
lent_ready positions client place one (inl at) is = inl (lent_at positions client place Entering one at is)
lent_ready positions client place one (inr (condition, at)) is = inr (condition, lent_at positions client place (Woken condition) one at is)

pub position_within : (positions : List Position) (client : ℕ) (place : Place) (kept : Stage ToCome) → PositionAt positions client place kept → client < length positions
position_within positions client place kept at = slice_get_within positions client (record { place = place; stage = kept }) at

pub ready_within : (positions : List Position) (client : ℕ) (place : Place) → WantsLockAt positions client place → client < length positions
ready_within positions client place (inl at) = position_within positions client place Entering at
ready_within positions client place (inr (condition, at)) = position_within positions client place (Woken condition) at

pub none_is : (owner : Option ℕ) → (is_some owner ≡ false) → owner ≡ None
none_is None is = refl
none_is (Some client) is = absurd (cc is)

-- ---- what the rule of a machine gives

pub keeps_wake_ups : (machine : Machine) → IsMachine machine → KeepsWakeUps machine
keeps_wake_ups machine rule lawful =
    let set : HasCountingPlan machine.system = record { is = rule.is; lawful = lawful } in record {
      pending = wake_is_pending machine.system machine.now set rule.sound (rule.covered lawful);
      ends = stuck_ends machine.system machine.now set rule.sound (rule.covered lawful);
    }
