-- The start of a section, as the client's position is kept.
use Rattle.std.proofs.Common.{◌≡◌, ℕ, ◌<◌, Bool, true, false, List, set, length, get_or, Option, Some, None, IsSomeAnd, Ok, refl, sym, ap, subst, ◌∙◌, inl, inr}
use Rattle.std.specs.Prelude.{slice_get, map}
use Rattle.std.proofs.lemmas.Bool.{true≢false, ltb-true, lt-ltb}
use Rattle.std.proofs.lemmas.List.{set-set}
use Rattle.std.proofs.lemmas.Option.{same_Some}
use Rattle.circular_buffer.proofs.Places.{slice_get-set_same}
use Rattle.lang_base.specs.declared.value.Value.{Value}
use Rattle.lang_monitor.specs.MonitorParts.{MonitorParts}
use Rattle.machine_implicit.specs.declared.commit.Commit.{Commit}
use Rattle.machine_implicit.specs.declared.place.Place.{Place}
use Rattle.machine_implicit.specs.declared.script.Client.{Client}
use Rattle.machine_implicit.specs.Scripted.{calls_of}
use Rattle.machine_implicit.proofs.Fitting.{is_some_and}
use Rattle.machine_events.specs.declared.plan.Plan.{Plan}
use Rattle.machine_events.specs.declared.event.Event.TheVariants as events
use Rattle.machine_events.specs.declared.plan.Note.{Note}
use Rattle.machine_events.specs.declared.event.Stage.{Stage}
use Rattle.machine_events.specs.Configurations.{Standing, StandsAt}
use Rattle.machine_events.specs.declared.event.Stage.TheVariants.{Idle, Entering, Waiting, Woken, Inside, Notifying}
use Rattle.machine_explicit.specs.declared.position.Position.{Position}
use Rattle.machine_explicit.specs.Machines.{Machine, IsMachine}
use Rattle.machine_explicit.specs.Sections.{can_start}
use Rattle.machine_explicit.specs.inner.Positions.{standing_of, machine_of, PositionAt}
use Rattle.machine_explicit.specs.inner.Waiting.{CanStart, IsSettled, Started}
use Rattle.machine_explicit.proofs.Making.{begins, locks, position_stands, idle_at, ready_made, lent_ready, lent_place, position_within, event_keeps_machine}
use Rattle.machine_explicit.proofs.Starting.{began}

-- what the machine is once the client is inside, and what it meets
pub record StartsAt (monitor : MonitorParts) (plan : Plan) (clients : List Client) (state : List Value) (owner : Option ℕ) (commits : List Commit) (positions : List Position) (client : ℕ) (place : Place) : Type 0 where
  pub started : Started (machine_of monitor plan clients state owner commits positions) client (machine_of monitor plan clients state (Some client) commits (set positions client (record { place = place; stage = Inside })))
  pub meets : IsMachine (machine_of monitor plan clients state (Some client) commits (set positions client (record { place = place; stage = Inside })))

begins_here : (monitor : MonitorParts) (plan : Plan) (clients : List Client) (state : List Value) (owner : Option ℕ) (commits : List Commit) (positions : List Position) (client : ℕ) (place : Place)
    → IsMachine (machine_of monitor plan clients state owner commits positions) → owner ≡ None → PositionAt positions client place Idle → place.past < length (calls_of clients client)
    → StartsAt monitor plan clients state owner commits positions client place
begins_here monitor plan clients state owner commits positions client place meets free at left =
    let enters : Position = record { place = place; stage = Entering } in
    let goes : Position = record { place = place; stage = Inside } in
    let entered = set positions client enters in
    let here : PositionAt entered client place Entering = slice_get-set_same positions client enters (position_within positions client place Idle at) in
    let begun = begins monitor plan clients state owner commits positions client place at left in
    let locked = locks monitor plan clients state owner commits entered client place free (inl here) in
    let meets_begun = event_keeps_machine (events.Begin client) (machine_of monitor plan clients state owner commits positions) _ meets begun in
    let meets_locked = event_keeps_machine (events.Lock client) (machine_of monitor plan clients state owner commits entered) _ meets_begun locked in
    let same : set entered client goes ≡ set positions client goes = set-set positions client enters goes in
    record {
      started = subst (λ (last : List Position). Started (machine_of monitor plan clients state owner commits positions) client (machine_of monitor plan clients state (Some client) commits last)) same
          (began {E = ℕ} (machine_of monitor plan clients state owner commits positions) (machine_of monitor plan clients state owner commits entered) (machine_of monitor plan clients state (Some client) commits (set entered client goes))
          client (Ok tt) free (refl, begun) (refl, locked));
      meets = subst (λ (last : List Position). IsMachine (machine_of monitor plan clients state (Some client) commits last)) same meets_locked;
    }

goes_on_here : (monitor : MonitorParts) (plan : Plan) (clients : List Client) (state : List Value) (owner : Option ℕ) (commits : List Commit) (positions : List Position) (client : ℕ) (place : Place) (condition : ℕ)
    → IsMachine (machine_of monitor plan clients state owner commits positions) → IsSettled (machine_of monitor plan clients state owner commits positions).now → PositionAt positions client place (Woken condition)
    → StartsAt monitor plan clients state owner commits positions client place
goes_on_here monitor plan clients state owner commits positions client place condition meets settled at =
    let before = machine_of monitor plan clients state owner commits positions in
    let locked = locks monitor plan clients state owner commits positions client place settled.free (inr (condition, at)) in
    record {
      started = elim locked.1.wants [
        | inl entering ↦ absurd (settled.none_enters client locked.0 entering)
        | inr woken ↦ (refl, (locked.0, before.now, inr (woken, refl), locked.1))
      ];
      meets = event_keeps_machine (events.Lock client) before _ meets locked;
    }

by_stage : (monitor : MonitorParts) (plan : Plan) (clients : List Client) (state : List Value) (owner : Option ℕ) (commits : List Commit) (positions : List Position) (client : ℕ) (one : Position) (place : Place) (stage : Stage (List Note))
    → IsMachine (machine_of monitor plan clients state owner commits positions) → IsSettled (machine_of monitor plan clients state owner commits positions).now → one ≡ get_or positions client one
    → StandsAt (map (standing_of plan) positions) client place stage → true ≡ can_start (record { monitor = monitor; plan = plan; clients = clients }) client place stage
    → StartsAt monitor plan clients state owner commits positions client one.place
by_stage monitor plan clients state owner commits positions client one place Idle meets settled is at can =
    let here = idle_at plan positions client place at in
    subst (λ (who : Place). StartsAt monitor plan clients state owner commits positions client who) (lent_place positions client place Idle one here is)
    (begins_here monitor plan clients state owner commits positions client place meets settled.free here (ltb-true place.past (length (calls_of clients client)) (sym can)))
by_stage monitor plan clients state owner commits positions client one place (Woken condition) meets settled is at can = elim (lent_ready positions client place one (ready_made plan positions client place (inr (condition, at))) is) [
  | inl entering ↦ absurd (settled.none_enters client one.place (position_stands plan positions client one.place Entering entering))
  | inr woken ↦ goes_on_here monitor plan clients state owner commits positions client one.place woken.0 meets settled woken.1
]
by_stage monitor plan clients state owner commits positions client one place Entering meets settled is at can = absurd (true≢false can)
by_stage monitor plan clients state owner commits positions client one place (Waiting condition) meets settled is at can = absurd (true≢false can)
by_stage monitor plan clients state owner commits positions client one place Inside meets settled is at can = absurd (true≢false can)
by_stage monitor plan clients state owner commits positions client one place (Notifying notes) meets settled is at can = absurd (true≢false can)

pub starts_by : (monitor : MonitorParts) (plan : Plan) (clients : List Client) (state : List Value) (owner : Option ℕ) (commits : List Commit) (positions : List Position) (client : ℕ) (one : Position) (can : Bool)
    → IsMachine (machine_of monitor plan clients state owner commits positions) → IsSettled (machine_of monitor plan clients state owner commits positions).now → one ≡ get_or positions client one
    → IsSomeAnd (slice_get (map (standing_of plan) positions) client) (λ standing. can ≡ can_start (record { monitor = monitor; plan = plan; clients = clients }) client standing.place standing.stage)
    → can ≡ true → StartsAt monitor plan clients state owner commits positions client one.place
starts_by monitor plan clients state owner commits positions client one can meets settled is found holds =
    let there = is_some_and (slice_get (map (standing_of plan) positions) client) (λ (standing : Standing). can ≡ can_start (record { monitor = monitor; plan = plan; clients = clients }) client standing.place standing.stage) found in
    by_stage monitor plan clients state owner commits positions client one there.0.place there.0.stage meets settled is there.1 (sym holds ∙ there.2)

-- where it can't start
pub starts_not : (machine : Machine) (client : ℕ) (can : Bool) → IsSomeAnd (slice_get machine.now.standings client) (λ standing. can ≡ can_start machine.system client standing.place standing.stage)
    → can ≡ false → CanStart machine client → ⊥
starts_not machine client can found fails starts =
    let there = is_some_and (slice_get machine.now.standings client) (λ (standing : Standing). can ≡ can_start machine.system client standing.place standing.stage) found in
    let no : can_start machine.system client there.0.place there.0.stage ≡ false = sym there.2 ∙ fails in
    elim starts [
      | inl idle ↦
          let same = same_Some there.0 (record { place = idle.0; stage = Idle }) (sym there.1 ∙ idle.1) in
          true≢false (sym (lt-ltb idle.0.past (length (calls_of machine.system.clients client)) idle.2) ∙ sym (ap (λ (standing : Standing). can_start machine.system client standing.place standing.stage) same) ∙ no)
      | inr woken ↦
          let same = same_Some there.0 (record { place = woken.0; stage = Woken woken.1 }) (sym there.1 ∙ woken.2) in
          true≢false (sym (ap (λ (standing : Standing). can_start machine.system client standing.place standing.stage) same) ∙ no)
    ]
