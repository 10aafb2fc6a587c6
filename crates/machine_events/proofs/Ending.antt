-- No wake-up is lost, and where no event but a wake-up by nothing may happen, no client may step.
use Rattle.std.proofs.Common.{◌≡◌, ◌⊎◌, ℕ, zero, suc, ◌-◌, ◌<◌, ◌==◌, true, false, ◌&&◌, List, [], ◌∷◌, length, Option, Some, None, IsSomeAnd, map, refl, sym, ap, subst, ◌∙◌, arith, inl, inr}
use Rattle.std.specs.Prelude.{slice_get}
use Rattle.std.specs.Option.{option_map_or}
use Rattle.std.proofs.lemmas.Option.{none-some, same_Some, slice_get_within}
use Rattle.std.proofs.lemmas.Bool.{true≢false, eqb-true, cases_eq, cases_Bool, and_parts, or_cases}
use Rattle.lang_base.specs.declared.value.Value.{Value}
use Rattle.lang_monitor.specs.declared.monitor.Block.{Block}
use Rattle.lang_monitor.specs.declared.monitor.Condition.{Condition}
use Rattle.lang_monitor.specs.MonitorParts.{IsMonitor}
use Rattle.lang_monitor.specs.Bodies.{Memory, memory_of, after, overflows_in, block_result}
use Rattle.machine_implicit.specs.declared.commit.Reply.{Reply}
use Rattle.machine_implicit.specs.declared.commit.Reply.TheVariants as replies
use Rattle.machine_implicit.specs.declared.script.Call.{Call}
use Rattle.machine_implicit.specs.Steps.{BlockSteps, reply_of, guard_truth, condition_truth}
use Rattle.machine_implicit.specs.declared.place.Place.{Place}
use Rattle.machine_implicit.specs.Places.{call_at, block_at, inputs_at, tries_at, next_place, IsCallStep, IsStep, may_step}
use Rattle.machine_implicit.specs.Scripted.{FitsScripts, calls_of}
use Rattle.machine_implicit.specs.Runs.{CanAct, Ends}
use Rattle.machine_events.specs.declared.plan.CondKind.{CondKind}
use Rattle.machine_events.specs.declared.plan.CondKind.TheVariants as kinds
use Rattle.machine_events.specs.declared.event.Event.{Event}
use Rattle.machine_events.specs.declared.event.Event.TheVariants as events
use Rattle.machine_events.specs.Plans.{condition_kind}
use Rattle.machine_events.specs.declared.plan.Note.{Note}
use Rattle.machine_events.specs.declared.event.Stage.{Stage}
use Rattle.machine_events.specs.Configurations.{System, Standing, Configuration, StandsAt, put, initial, situation_of, guard_of}
use Rattle.machine_events.specs.declared.event.Stage.TheVariants.{Idle, Entering, Waiting, Woken, Inside, Notifying}
use Rattle.machine_events.specs.Events.{wake_all, fires, NoneWaits, IsEvent, Happen, AreEvents}
use Rattle.machine_events.specs.Pending.{holds_lock, IsSound, announces, sees_to, SomeStands, IsCovered, WakePending, is_spurious, IsStuck}
use Rattle.machine_events.proofs.Facing.{Faces, faces, at_index, IsWaiter, waiter_in, waiter_guard}
use Rattle.machine_events.proofs.Sound.{event_keeps_sound, start_is_sound}
use Rattle.machine_events.proofs.Covered.{not_both, condition_truth_is, reads_not}
use Rattle.machine_events.proofs.Counting.{measure_of, someone_sees}
use Rattle.machine_events.specs.Laws.{HasCountingPlan}
use Rattle.machine_events.proofs.Notified.{event_keeps_covered, start_is_covered}

-- ---- a wake-up is pending

free_holds_not : (system : System) (c : Configuration) → IsSound system c → c.owner ≡ None
    → (client : ℕ) (place : Place) (stage : Stage (List Note)) → StandsAt c.standings client place stage
    → holds_lock stage ≡ true → ⊥
free_holds_not system c sound free client place stage at holds = none-some client (sym free ∙ sound.lock.only client place stage at holds)

nobody_announces : (system : System) (c : Configuration) → IsSound system c → c.owner ≡ None
    → (condition : ℕ) → SomeStands c.standings
    (λ other others_place stage. announces stage condition) → ⊥
nobody_announces system c sound free condition (other, others_place, Notifying notes, at, is) = free_holds_not system c sound free other others_place (Notifying notes) at refl
nobody_announces system c sound free condition (other, others_place, Idle, at, is) = true≢false (sym is)
nobody_announces system c sound free condition (other, others_place, Entering, at, is) = true≢false (sym is)
nobody_announces system c sound free condition (other, others_place, Waiting on, at, is) = true≢false (sym is)
nobody_announces system c sound free condition (other, others_place, Woken on, at, is) = true≢false (sym is)
nobody_announces system c sound free condition (other, others_place, Inside, at, is) = true≢false (sym is)

one_woken : (system : System) (c : Configuration) → IsSound system c → c.owner ≡ None
    → (condition : ℕ) → SomeStands c.standings
    (λ other others_place stage. sees_to system other others_place stage condition)
    → (other : ℕ) × (others_place : Place)
    × StandsAt c.standings other others_place (Woken condition)
one_woken system c sound free condition (other, others_place, Idle, at, is) = absurd (true≢false (sym is))
one_woken system c sound free condition (other, others_place, Entering, at, is) = absurd (true≢false (sym is))
one_woken system c sound free condition (other, others_place, Waiting on, at, is) = absurd (true≢false (sym is))
one_woken system c sound free condition (other, others_place, Woken on, at, is) = (other, others_place, subst (λ (one : ℕ). StandsAt c.standings other others_place (Woken one)) (eqb-true on condition is) at)
one_woken system c sound free condition (other, others_place, Inside, at, is) = absurd (free_holds_not system c sound free other others_place Inside at refl)
one_woken system c sound free condition (other, others_place, Notifying notes, at, is) = absurd (free_holds_not system c sound free other others_place (Notifying notes) at refl)

by_kind : (system : System) (c : Configuration) → HasCountingPlan system → IsSound system c
    → IsCovered system c → c.owner ≡ None → (client : ℕ) (place : Place) (condition : ℕ)
    → StandsAt c.standings client place (Waiting condition)
    → guard_of system c.state client place ≡ true
    → (call : Call) (block : Block) (which : Condition)
    → IsWaiter system client place condition call block which
    → (kind : CondKind) → condition_kind system.plan condition ≡ Some kind
    → (other : ℕ) × (others_place : Place)
    × StandsAt c.standings other others_place (Woken condition)
by_kind system c set sound covered free client place condition at holds call block which waits kinds.Broadcast kind =
    absurd (nobody_announces system c sound free condition (covered.pending.broadcasts client place condition at kind holds))
by_kind system c set sound covered free client place condition at holds call block which waits kinds.Signal kind =
    let is_true : condition_truth system.monitor c.state condition ≡ true =
    condition_truth_is system c.state (inputs_at call place) condition which waits.which_is (reads_not system set condition which waits.which_is kind)
    ∙ sym (waiter_guard system c.state client place condition call block which waits) ∙ holds in
    let counted = measure_of system set condition which waits.which_is kind in
    elim (covered.pending.signals client place condition at kind counted.0 counted.1) [
      | inl told ↦ absurd (nobody_announces system c sound free condition told)
      | inr enough ↦ one_woken system c sound free condition (someone_sees system c.state c.standings condition counted.0 enough is_true)
    ]

pub wake_is_pending : (system : System) (c : Configuration) → HasCountingPlan system
    → IsSound system c → IsCovered system c → WakePending system c
wake_is_pending system c set sound covered free client place condition at holds =
    let theirs = waiter_in system set.is c sound client place condition at in
    let numbered = theirs.3.which_is.numbered in
    let within = slice_get_within system.monitor.conditions (condition - 1) theirs.2 theirs.3.which_is.there in
    let kind = at_index system.plan.kinds (condition - 1) (omega (arith, set.is.plan.kinds, within, numbered)) in
    by_kind system c set sound covered free client place condition at holds theirs.0 theirs.1 theirs.2 theirs.3 kind.0 kind.1

-- ---- a configuration in which no event but a wake-up by nothing may happen

not_stuck : (system : System) (c : Configuration) → IsStuck system c
    → (event : Event) (next : Configuration) → is_spurious event ≡ false
    → IsEvent system event c next → ⊥
not_stuck system c stuck event next other happens = not_both (is_spurious event) (stuck event next happens) other

-- a client makes a step of its call
stepping : (system : System) (state : List Value) (client : ℕ) (place : Place) (call : Call)
    (block : Block) → Faces system client place call block
    → (reply : Reply) (memory : Memory) → IsCallStep system.monitor call place state reply memory
    → IsStep system.monitor system.clients client place state reply memory.state
    (next_place system.monitor system.clients client call place reply memory.locals)
stepping system state client place call block faced reply memory step = record { call = call; memory = memory; at = faced.call_is; step = step; state_is = refl; place_is = refl }

guard_truth_is : (system : System) (state : List Value) (client : ℕ) (place : Place) (call : Call)
    (block : Block) → Faces system client place call block
    → guard_of system state client place
    ≡ guard_truth system.monitor state (block_at system.monitor call place) (inputs_at call place)
guard_truth_is system state client place call block faced =
    ap (λ (one : Option Call). option_map_or (λ call. guard_truth system.monitor state (block_at system.monitor call place) (inputs_at call place)) one false) faced.call_is

-- a step of a block whose guard is true
some_step : (system : System) (state : List Value) (client : ℕ) (place : Place) (call : Call)
    (block : Block) → Faces system client place call block
    → guard_of system state client place ≡ true
    → (reply : Reply) × (memory : Memory) × IsCallStep system.monitor call place state reply memory
some_step system state client place call block faced holds =
    let inputs = inputs_at call place in
    let guard : guard_truth system.monitor state (block_at system.monitor call place) inputs ≡ true = sym (guard_truth_is system state client place call block faced) ∙ holds in
    elim (cases_Bool (overflows_in inputs block state)) [
      | inl over ↦ (replies.Overflow, memory_of state inputs, made replies.Overflow (memory_of state inputs) guard (inr (over, refl, refl)))
      | inr fits ↦ (
        reply_of (block_result inputs block state),
        after inputs block.body state,
        made (reply_of (block_result inputs block state)) (after inputs block.body state) guard (inl ((λ over. not_both _ over fits), refl, refl)),
      )
    ]
  where
    made : (reply : Reply) (next : Memory)
        → guard_truth system.monitor state (block_at system.monitor call place)
        (inputs_at call place) ≡ true → BlockSteps block (inputs_at call place) state reply next
        → IsCallStep system.monitor call place state reply next
    made reply next guard steps = inl (record {
      guard = guard;
      runs = subst (λ (one : Option Block). IsSomeAnd one (λ which. BlockSteps which (inputs_at call place) state reply next)) (sym faced.block_is) steps;
    })

-- a refusal at the first block of a call that tries
some_refusal : (system : System) (state : List Value) (client : ℕ) (place : Place) (call : Call)
    (block : Block) → Faces system client place call block
    → guard_of system state client place ≡ false → tries_at system.clients client place ≡ true
    → IsCallStep system.monitor call place state replies.Refused
    (memory_of state (inputs_at call place))
some_refusal system state client place call block faced fails tries =
    let both = and_parts call.tries (place.block == 0) (sym (ap (λ (one : Option Call). option_map_or (λ call. call.tries && place.block == 0) one false) faced.call_is) ∙ tries) in
    inr (record {
      tries = both.0;
      first = eqb-true place.block 0 both.1;
      guard = sym (guard_truth_is system state client place call block faced) ∙ fails;
      reply_is = refl;
      stays = refl;
    })

is_waiting : (condition : ℕ) (standing : Standing)
    → ((place : Place) × (standing ≡ record { place = place; stage = Waiting condition }))
    ⊎ ((place : Place) → standing ≡ record { place = place; stage = Waiting condition } → ⊥)
is_waiting condition standing = by standing.stage standing.place (λ i. standing)
  where
    other : (stage : Stage (List Note)) → (stage ≡ Waiting condition → ⊥)
        → standing ≡ record { place = standing.place; stage = stage } → (place : Place)
        → standing ≡ record { place = place; stage = Waiting condition } → ⊥
    other stage differs is place same = differs (ap (λ (s : Standing). s.stage) (sym is ∙ same))

    by : (stage : Stage (List Note)) (place : Place) → standing ≡ record { place = place; stage = stage }
        → ((place : Place) × (standing ≡ record { place = place; stage = Waiting condition }))
        ⊎ ((place : Place) → standing ≡ record { place = place; stage = Waiting condition } → ⊥)
    by Idle place is = inr (λ at same. cc (ap (λ (s : Standing). s.stage) (sym is ∙ same)))
    by Entering place is = inr (λ at same. cc (ap (λ (s : Standing). s.stage) (sym is ∙ same)))
    by (Waiting on) place is = elim (cases_eq on condition) [
      | inl same ↦ inl (place, is ∙ ap (λ (one : ℕ). record { place = place; stage = Waiting one }) same)
      | inr differs ↦ inr (λ at same. differs (cc (ap (λ (s : Standing). s.stage) (sym is ∙ same))))
    ]
    by (Woken on) place is = inr (λ at same. cc (ap (λ (s : Standing). s.stage) (sym is ∙ same)))
    by Inside place is = inr (λ at same. cc (ap (λ (s : Standing). s.stage) (sym is ∙ same)))
    by (Notifying notes) place is = inr (λ at same. cc (ap (λ (s : Standing). s.stage) (sym is ∙ same)))

-- some client waits on a condition, or none does
pub some_waits : (standings : List Standing) (condition : ℕ)
    → ((client : ℕ) × (place : Place) × StandsAt standings client place (Waiting condition))
    ⊎ NoneWaits standings condition
some_waits [] condition = inr (λ client place at. none-some (record { place = place; stage = Waiting condition }) at)
some_waits (first ∷ more) condition = elim (is_waiting condition first) [
  | inl here ↦ inl (zero, here.0, ap Some here.1)
  | inr differs ↦ elim (some_waits more condition) [
    | inl later ↦ inl (suc later.0, later.1, later.2)
    | inr none ↦ inr (none_here first more condition differs none)
  ]
]
  where
    none_here : (first : Standing) (more : List Standing) (condition : ℕ)
        → ((place : Place) → first ≡ record { place = place; stage = Waiting condition } → ⊥)
        → NoneWaits more condition → NoneWaits (first ∷ more) condition
    none_here first more condition differs none zero place at = differs place (same_Some first (record { place = place; stage = Waiting condition }) at)
    none_here first more condition differs none (suc client) place at = none client place at

holder_moves : (system : System) (c : Configuration) → IsMonitor system.monitor
    → FitsScripts system.monitor system.clients → IsSound system c → IsStuck system c
    → (client : ℕ) (place : Place) (stage : Stage (List Note)) → StandsAt c.standings client place stage
    → holds_lock stage ≡ true → ⊥
holder_moves system c rule scripts sound stuck client place Inside at holds =
    let faced = faces system client place rule scripts (sound.places client place Inside at) (sound.begun client place Inside at refl) in
    elim (cases_Bool (guard_of system c.state client place)) [
      | inl is_true ↦
          let step = some_step system c.state client place faced.0 faced.1 faced.2 is_true in
          not_stuck system c stuck (events.Run client) _ refl (
            place,
            _,
            step.0,
            step.1.state,
            record { guard = is_true; steps = record { inside = at; step = stepping system c.state client place faced.0 faced.1 faced.2 step.0 step.1 step.2; becomes = refl } },
          )
      | inr is_false ↦ elim (cases_Bool (tries_at system.clients client place)) [
        | inl tries ↦
            let refusal = some_refusal system c.state client place faced.0 faced.1 faced.2 is_false tries in
            not_stuck system c stuck (events.Wait client) _ refl (
              place,
              inr (
                _,
                replies.Refused,
                c.state,
                record {
                  guard = is_false;
                  steps = record {
                    inside = at;
                    step = stepping system c.state client place faced.0 faced.1 faced.2 replies.Refused (memory_of c.state (inputs_at faced.0 place)) refusal;
                    becomes = refl;
                  };
                },
              ),
            )
        | inr patient ↦ not_stuck system c stuck (events.Wait client) _ refl (place, inl (record { inside = at; guard = is_false; patient = patient; becomes = refl }))
      ]
    ]
holder_moves system c rule scripts sound stuck client place (Notifying []) at holds = not_stuck system c stuck (events.Unlock client) _ refl (place, record { notifying = at; becomes = refl })
holder_moves system c rule scripts sound stuck client place (Notifying (note ∷ more)) at holds = elim (cases_Bool (fires system c.state note)) [
  | inr still ↦ not_stuck system c stuck (events.Notify client None) _ refl (place, record { note = note; more = more; woken = c.standings; notifying = at; wakes = inr (record { nobody = inl still; becomes = refl }); becomes = refl })
  | inl fired ↦ elim (cases_Bool note.all) [
    | inl each ↦ not_stuck system c stuck (events.Notify client None) _ refl (place, record { note = note; more = more; woken = wake_all note.condition c.standings; notifying = at; wakes = inl (record { fired = fired; each = each; becomes = refl }); becomes = refl })
    | inr one ↦ elim (some_waits c.standings note.condition) [
      | inl waiter ↦
          not_stuck system c stuck (events.Notify client (Some waiter.0)) _ refl (
            place,
            record {
              note = note;
              more = more;
              woken = put c.standings waiter.0 waiter.1 (Woken note.condition);
              notifying = at;
              wakes = (waiter.1, record { fired = fired; one = one; waits = waiter.2; becomes = refl });
              becomes = refl;
            },
          )
      | inr none ↦ not_stuck system c stuck (events.Notify client None) _ refl (place, record { note = note; more = more; woken = c.standings; notifying = at; wakes = inr (record { nobody = inr (one, none); becomes = refl }); becomes = refl })
    ]
  ]
]
holder_moves system c rule scripts sound stuck client place Idle at holds = true≢false (sym holds)
holder_moves system c rule scripts sound stuck client place Entering at holds = true≢false (sym holds)
holder_moves system c rule scripts sound stuck client place (Waiting on) at holds = true≢false (sym holds)
holder_moves system c rule scripts sound stuck client place (Woken on) at holds = true≢false (sym holds)

stuck_is_free : (system : System) (c : Configuration) → IsMonitor system.monitor
    → FitsScripts system.monitor system.clients → IsSound system c → IsStuck system c
    → (owner : Option ℕ) → c.owner ≡ owner → c.owner ≡ None
stuck_is_free system c rule scripts sound stuck None is = is
stuck_is_free system c rule scripts sound stuck (Some client) is =
    let holder = sound.lock.holds client is in
    absurd (holder_moves system c rule scripts sound stuck client holder.0 holder.1 holder.2 holder.3)

-- ---- the end

-- a client that may step where it waits has a true guard
pub waiting_guard : (system : System) (c : Configuration) → IsSound system c
    → (client : ℕ) (place : Place) (condition : ℕ)
    → StandsAt c.standings client place (Waiting condition)
    → may_step system.monitor system.clients c.state client place ≡ true
    → guard_of system c.state client place ≡ true
waiting_guard system c sound client place condition at may = elim (or_cases (guard_of system c.state client place) (tries_at system.clients client place) may) [
  | inl holds ↦ holds
  | inr tries ↦ absurd (not_both (tries_at system.clients client place) tries (sound.waits client place (Waiting condition) condition at refl).1)
]

-- a client that may step has a call left
pub has_call : (system : System) (state : List Value) (client : ℕ) (place : Place)
    → may_step system.monitor system.clients state client place ≡ true
    → place.past < length (calls_of system.clients client)
has_call system state client place may = by (call_at system.clients client place) refl
  where
    by : (found : Option Call) → call_at system.clients client place ≡ found
        → place.past < length (calls_of system.clients client)
    by (Some call) is = slice_get_within (calls_of system.clients client) place.past call is
    by None is =
        let guard : guard_of system state client place ≡ false =
        ap (λ (one : Option Call). option_map_or (λ call. guard_truth system.monitor state (block_at system.monitor call place) (inputs_at call place)) one false) is in
        let tries : tries_at system.clients client place ≡ false = ap (λ (one : Option Call). option_map_or (λ call. call.tries && place.block == 0) one false) is in
        elim (or_cases (guard_of system state client place) (tries_at system.clients client place) may) [
          | inl holds ↦ absurd (not_both (guard_of system state client place) holds guard)
          | inr also ↦ absurd (not_both (tries_at system.clients client place) also tries)
        ]

no_one_acts : (system : System) (c : Configuration) → HasCountingPlan system → IsSound system c
    → IsCovered system c → IsStuck system c → c.owner ≡ None
    → (client : ℕ) (place : Place) (stage : Stage (List Note)) → StandsAt c.standings client place stage
    → may_step system.monitor system.clients c.state client place ≡ true → ⊥
no_one_acts system c set sound covered stuck free client place Idle at may =
    not_stuck system c stuck (events.Begin client) _ refl (place, record { idle = at; left = has_call system c.state client place may; becomes = refl })
no_one_acts system c set sound covered stuck free client place Entering at may =
    not_stuck system c stuck (events.Lock client) _ refl (place, record { free = free; wants = inl at; becomes = refl })
no_one_acts system c set sound covered stuck free client place (Woken on) at may =
    not_stuck system c stuck (events.Lock client) _ refl (place, record { free = free; wants = inr (on, at); becomes = refl })
no_one_acts system c set sound covered stuck free client place (Waiting on) at may =
    let woken = wake_is_pending system c set sound covered free client place on at (waiting_guard system c sound client place on at may) in
    not_stuck system c stuck (events.Lock woken.0) _ refl (woken.1, record { free = free; wants = inr (on, woken.2); becomes = refl })
no_one_acts system c set sound covered stuck free client place Inside at may = free_holds_not system c sound free client place Inside at refl
no_one_acts system c set sound covered stuck free client place (Notifying notes) at may = free_holds_not system c sound free client place (Notifying notes) at refl

-- a client that can act stands at its place
pub record IsActor (system : System) (c : Configuration) (client : ℕ) : Type 0 where
  pub place : Place
  pub stage : Stage (List Note)
  pub at : StandsAt c.standings client place stage
  pub may : may_step system.monitor system.clients c.state client place ≡ true

pub actor : (system : System) (c : Configuration) (client : ℕ)
    → CanAct system.monitor system.clients (situation_of c) client → IsActor system c client
actor system c client can = in_list c.standings client refl can
  where
    in_list : (standings : List Standing) (which : ℕ)
        → slice_get standings which ≡ slice_get c.standings client
        → IsSomeAnd (slice_get (map (λ standing. standing.place) standings) which)
        (λ place. may_step system.monitor system.clients c.state client place ≡ true)
        → IsActor system c client
    in_list [] which is found = absurd found
    in_list (first ∷ more) zero is found = record { place = first.place; stage = first.stage; at = sym is; may = found }
    in_list (first ∷ more) (suc which) is found = in_list more which is found

pub stuck_ends : (system : System) (c : Configuration) → HasCountingPlan system → IsSound system c
    → IsCovered system c → IsStuck system c → Ends system.monitor system.clients (situation_of c)
stuck_ends system c set sound covered stuck client can =
    let free = stuck_is_free system c set.is.rule set.is.scripts sound stuck c.owner refl in
    let one = actor system c client can in
    no_one_acts system c set sound covered stuck free client one.place one.stage one.at one.may

-- ---- over any events

pub record IsKept (system : System) (c : Configuration) : Type 0 where
  pub sound : IsSound system c
  pub covered : IsCovered system c

kept_on : (system : System) → HasCountingPlan system
    → (events : List Event) (before last : Configuration) → IsKept system before
    → Happen system events before last → IsKept system last
kept_on system set [] before last kept happen = subst (IsKept system) (sym happen) kept
kept_on system set (event ∷ more) before last kept happen =
    kept_on system set more happen.0 last (record {
      sound = event_keeps_sound system set.is.rule set.is.scripts event before happen.0 kept.sound happen.1;
      covered = event_keeps_covered system set event before happen.0 kept.sound kept.covered happen.1;
    }) happen.2

pub kept_over_events : (system : System) → HasCountingPlan system
    → (events : List Event) (last : Configuration) → AreEvents system events last
    → IsKept system last
kept_over_events system set events last happen =
    kept_on system set events (initial system) last (record { sound = start_is_sound system set.is.rule set.is.scripts; covered = start_is_covered system set }) happen
