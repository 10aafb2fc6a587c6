-- The events of the machine as the code keeps it.
use Rattle.std.proofs.Common.{◌≡◌, ◌==◌, ◌&&◌, ℕ, zero, suc, ◌<◌, ◌≤◌, Bool, true, false, cond, List, [], ◌∷◌, ◌++◌, map, set, drop, length, get_or, Option, Some, None, refl, sym, ap, subst, ◌∙◌, arith, inl, inr}
use Rattle.std.specs.Prelude.{slice_get}
use Rattle.std.specs.Option.{option_map_or}
use Rattle.std.proofs.lemmas.List.{drop_all, length_push, map-set}
use Rattle.std.proofs.lemmas.Option.{same_Some, slice_get_read}
use Rattle.std.proofs.lemmas.Bool.{true≢false}
use Rattle.lang_base.specs.declared.value.Value.{Value}
use Rattle.lang_monitor.specs.MonitorParts.{MonitorParts}
use Rattle.machine_implicit.specs.declared.commit.Commit.{Commit}
use Rattle.machine_implicit.specs.declared.commit.Reply.{Reply}
use Rattle.machine_implicit.specs.declared.commit.Reply.TheVariants as replies
use Rattle.machine_implicit.specs.declared.place.Place.{Place}
use Rattle.machine_implicit.specs.declared.script.Call.{Call}
use Rattle.machine_implicit.specs.declared.script.Client.{Client}
use Rattle.machine_implicit.specs.Places.{call_at, block_at, inputs_at, tries_at, FitsPlace, FitsPlaceAt}
use Rattle.machine_implicit.specs.Steps.{guard_truth}
use Rattle.machine_implicit.specs.Scripted.{FitsCall, all_blocks, calls_of}
use Rattle.machine_implicit.proofs.Left.{run_counts}
use Rattle.machine_events.specs.declared.plan.Note.{Note}
use Rattle.machine_events.specs.declared.plan.Plan.{Plan}
use Rattle.machine_events.specs.declared.event.Event.TheVariants as events
use Rattle.machine_explicit.specs.declared.config.Way.{Way}
use Rattle.machine_explicit.specs.declared.config.Way.TheVariants as ways
use Rattle.machine_events.specs.declared.event.Stage.{Stage}
use Rattle.machine_explicit.specs.declared.position.ToCome.{ToCome}
use Rattle.machine_explicit.specs.declared.position.ToCome.TheVariants as comings
use Rattle.machine_events.specs.declared.event.Stage.TheVariants.{Idle, Entering, Waiting, Woken, Inside, Notifying}
use Rattle.machine_explicit.specs.declared.position.Position.{Position}
use Rattle.machine_events.specs.Plans.{notes_at}
use Rattle.machine_events.specs.Configurations.{System, Standing, Configuration, StandsAt, put, situation_of, guard_of, block_condition, waited_condition}
use Rattle.machine_events.specs.Events.{IsEvent, StepsInside, Runs, Refuses, Waits, WaitsOrRefuses, own_signal, notes_after}
use Rattle.machine_events.specs.Pending.{IsSystem, has_begun}
use Rattle.machine_explicit.specs.Machines.{Machine, IsMachine, NotAllowed}
use Rattle.machine_explicit.specs.inner.Positions.{coming_notes, stage_of, standing_of, machine_of, PositionAt, HasStepped, to_come_after, HasFinished}
use Rattle.machine_explicit.specs.inner.Waiting.{IsInside, IsWay, Goes}
use Rattle.machine_events.proofs.Facing.{all_at, at_index, calls_fit}
use Rattle.machine_events.proofs.Standings.{one_place, put_same, stands_within}
use Rattle.machine_explicit.proofs.Making.{position_stands, standing_position, notifying_made, map_put, lent_at, lent_place, position_within, event_keeps_machine}
use Rattle.machine_explicit.proofs.Counting.{call_number_small, small_block}

inside_kept : (plan : Plan) (kept : Stage ToCome) → stage_of plan kept ≡ Inside → kept ≡ Inside
inside_kept plan Idle is = absurd (cc is)
inside_kept plan Entering is = absurd (cc is)
inside_kept plan (Waiting condition) is = absurd (cc is)
inside_kept plan (Woken condition) is = absurd (cc is)
inside_kept plan Inside is = refl
inside_kept plan (Notifying to_come) is = absurd (cc is)

waiting_kept : (plan : Plan) (kept : Stage ToCome) (condition : ℕ) → stage_of plan kept ≡ Waiting condition → kept ≡ Waiting condition
waiting_kept plan Idle condition is = absurd (cc is)
waiting_kept plan Entering condition is = absurd (cc is)
waiting_kept plan (Waiting other) condition is = ap Waiting (cc is)
waiting_kept plan (Woken other) condition is = absurd (cc is)
waiting_kept plan Inside condition is = absurd (cc is)
waiting_kept plan (Notifying to_come) condition is = absurd (cc is)

pub inside_made : (plan : Plan) (positions : List Position) (client : ℕ) (place : Place) → StandsAt (map (standing_of plan) positions) client place Inside → PositionAt positions client place Inside
inside_made plan positions client place at =
    let found = standing_position plan positions client place Inside at in
    subst (λ (kept : Stage ToCome). PositionAt positions client place kept) (inside_kept plan found.0 found.2) found.1

pub waiting_made : (plan : Plan) (positions : List Position) (client : ℕ) (place : Place) (condition : ℕ) → StandsAt (map (standing_of plan) positions) client place (Waiting condition) → PositionAt positions client place (Waiting condition)
waiting_made plan positions client place condition at =
    let found = standing_position plan positions client place (Waiting condition) at in
    subst (λ (kept : Stage ToCome). PositionAt positions client place kept) (waiting_kept plan found.0 condition found.2) found.1

-- ---- a call

pub call_is : (clients : List Client) (client : ℕ) (place : Place) (some : List Call) (call : Call) → some ≡ calls_of clients client → place.past < length some → call ≡ get_or some place.past call → call_at clients client place ≡ Some call
call_is clients client place some call same within is = ap (λ (calls : List Call). slice_get calls place.past) (sym same) ∙ slice_get_read some (length some) place.past call refl within is

pub call_fits : (system : System) (client : ℕ) (place : Place) (call : Call) → IsSystem system → call_at system.clients client place ≡ Some call → FitsCall system.monitor call
call_fits system client place call is at = all_at (FitsCall system.monitor) (calls_of system.clients client) place.past call at (calls_fit system.monitor system.clients client is.scripts)

-- its guard, whether it tries, and its condition
pub guard_at : (system : System) (state : List Value) (client : ℕ) (place : Place) (call : Call) → call_at system.clients client place ≡ Some call
    → guard_of system state client place ≡ guard_truth system.monitor state (block_at system.monitor call place) (inputs_at call place)
guard_at system state client place call is = ap (λ (one : Option Call). option_map_or (λ call. guard_truth system.monitor state (block_at system.monitor call place) (inputs_at call place)) one false) is

pub tries_here : (clients : List Client) (client : ℕ) (place : Place) (call : Call) → call_at clients client place ≡ Some call → tries_at clients client place ≡ (call.tries && place.block == 0)
tries_here clients client place call is = ap (λ (one : Option Call). option_map_or (λ call. call.tries && place.block == 0) one false) is

pub condition_at : (system : System) (client : ℕ) (place : Place) (call : Call) → call_at system.clients client place ≡ Some call → waited_condition system client place ≡ block_condition system.monitor (block_at system.monitor call place)
condition_at system client place call is = ap (λ (one : Option Call). option_map_or (λ call. block_condition system.monitor (block_at system.monitor call place)) one 0) is

pub waited_is : (system : System) (client : ℕ) (place : Place) (call : Call) (block condition : ℕ) → call_at system.clients client place ≡ Some call → block ≡ block_at system.monitor call place → condition ≡ block_condition system.monitor block
    → condition ≡ waited_condition system client place
waited_is system client place call block condition is number same = same ∙ ap (block_condition system.monitor) number ∙ sym (condition_at system client place call is)

-- a client that has begun a call has it left
pub has_call : (machine : Machine) (client : ℕ) (place : Place) (stage : Stage (List Note)) → IsMachine machine → StandsAt machine.now.standings client place stage → has_begun stage ≡ true → place.past < length (calls_of machine.system.clients client)
has_call machine client place stage meets at begun = meets.sound.begun client place stage at begun

-- the numbers of a place with a call left are small
pub record IsSmall (place : Place) : Type 0 where
  pub past : place.past < 16384
  pub block : place.block < 4

pub place_small : (machine : Machine) (client : ℕ) (place : Place) (stage : Stage (List Note)) → IsMachine machine → StandsAt machine.now.standings client place stage → has_begun stage ≡ true → IsSmall place
place_small machine client place stage meets at begun =
    let system = machine.system in
    let call = at_index (calls_of system.clients client) place.past (has_call machine client place stage meets at begun) in
    let fit : FitsPlaceAt system.monitor place (Some call.0) = subst (FitsPlaceAt system.monitor place) call.1 (meets.sound.places client place stage at) in
    record {
      past = call_number_small system.clients client place.past call.0 meets.clients call.1;
      block = small_block system.monitor call.0 place meets.is.rule (call_fits system client place call.0 meets.is call.1) fit;
    }

-- ---- the events

abbrev pub Told : MonitorParts → Plan → List Client → System
Told monitor plan clients = record { monitor = monitor; plan = plan; clients = clients }

pub wakens : (monitor : MonitorParts) (plan : Plan) (clients : List Client) (state : List Value) (owner : Option ℕ) (commits : List Commit) (positions : List Position) (client : ℕ) (place : Place) (condition : ℕ)
    → PositionAt positions client place (Waiting condition)
    → IsEvent (record { monitor = monitor; plan = plan; clients = clients }) (events.Spurious client) (machine_of monitor plan clients state owner commits positions).now
    (machine_of monitor plan clients state owner commits (set positions client (record { place = place; stage = Woken condition }))).now
wakens monitor plan clients state owner commits positions client place condition at = (
  place,
  condition,
  record {
    waits = position_stands plan positions client place (Waiting condition) at;
    becomes = ap (λ (standings : List Standing). record { state = state; owner = owner; commits = commits; standings = standings }) (map_put plan positions client place (Woken condition));
  },
)

pub wakens_not : (monitor : MonitorParts) (plan : Plan) (clients : List Client) (state : List Value) (owner : Option ℕ) (commits : List Commit) (positions : List Position) (client : ℕ)
    → ((place : Place) (condition : ℕ) → PositionAt positions client place (Waiting condition) → ⊥)
    → NotAllowed (machine_of monitor plan clients state owner commits positions) (events.Spurious client)
wakens_not monitor plan clients state owner commits positions client never next happens = never happens.0 happens.1 (waiting_made plan positions client happens.0 happens.1 happens.2.waits)

pub stands_finished : (plan : Plan) (positions : List Position) (client : ℕ) (place : Place) → HasFinished plan positions client place → StandsAt (map (standing_of plan) positions) client place (Notifying [])
stands_finished plan positions client place done = subst (λ (notes : List Note). StandsAt (map (standing_of plan) positions) client place (Notifying notes)) done.none (position_stands plan positions client place (Notifying done.to_come) done.at)

pub lent_finished : (plan : Plan) (positions : List Position) (client : ℕ) (place : Place) (one : Position) → HasFinished plan positions client place → one ≡ get_or positions client one → HasFinished plan positions client one.place
lent_finished plan positions client place one done is = record { to_come = done.to_come; at = lent_at positions client place (Notifying done.to_come) one done.at is; none = done.none }

pub finished_made : (plan : Plan) (positions : List Position) (client : ℕ) (place : Place) → StandsAt (map (standing_of plan) positions) client place (Notifying []) → HasFinished plan positions client place
finished_made plan positions client place stands =
    let found = notifying_made plan positions client place [] stands in
    record { to_come = found.0; at = found.1; none = found.2 }

pub unlocks : (monitor : MonitorParts) (plan : Plan) (clients : List Client) (state : List Value) (owner : Option ℕ) (commits : List Commit) (positions : List Position) (client : ℕ) (place : Place)
    → HasFinished plan positions client place
    → IsEvent (record { monitor = monitor; plan = plan; clients = clients }) (events.Unlock client) (machine_of monitor plan clients state owner commits positions).now
    (machine_of monitor plan clients state None commits (set positions client (record { place = place; stage = Idle }))).now
unlocks monitor plan clients state owner commits positions client place done = (
  place,
  record {
    notifying = stands_finished plan positions client place done;
    becomes = ap (λ (standings : List Standing). record { state = state; owner = None; commits = commits; standings = standings }) (map_put plan positions client (place) Idle);
  },
)

pub unlocks_not : (monitor : MonitorParts) (plan : Plan) (clients : List Client) (state : List Value) (owner : Option ℕ) (commits : List Commit) (positions : List Position) (client : ℕ)
    → ((place : Place) → HasFinished plan positions client place → ⊥)
    → NotAllowed (machine_of monitor plan clients state owner commits positions) (events.Unlock client)
unlocks_not monitor plan clients state owner commits positions client never next happens =
    never happens.0 (finished_made plan positions client happens.0 happens.1.notifying)

pub waits : (monitor : MonitorParts) (plan : Plan) (clients : List Client) (state : List Value) (owner : Option ℕ) (commits : List Commit) (positions : List Position) (client : ℕ) (place : Place) (condition : ℕ)
    → PositionAt positions client place Inside → guard_of (record { monitor = monitor; plan = plan; clients = clients }) state client place ≡ false → tries_at clients client place ≡ false
    → condition ≡ waited_condition (record { monitor = monitor; plan = plan; clients = clients }) client place
    → Waits (record { monitor = monitor; plan = plan; clients = clients }) client place (machine_of monitor plan clients state owner commits positions).now
    (machine_of monitor plan clients state None commits (set positions client (record { place = place; stage = Waiting condition }))).now
waits monitor plan clients state owner commits positions client place condition at guard patient same = record {
  inside = position_stands plan positions client place Inside at;
  guard = guard;
  patient = patient;
  becomes = ap (λ (standings : List Standing). record { state = state; owner = None; commits = commits; standings = standings })
      (map_put plan positions client place (Waiting condition)
      ∙ ap (λ (one : ℕ). put (map (standing_of plan) positions) client place (Waiting one)) same);
}

-- a client inside that waits now, waits on its condition
pub waits_now : (plan : Plan) (positions : List Position) (client : ℕ) (place : Place) (condition : ℕ) → StandsAt (map (standing_of plan) positions) client place Inside
    → StandsAt (map (standing_of plan) (set positions client (record { place = place; stage = Waiting condition }))) client place (Waiting condition)
waits_now plan positions client place condition inside =
    subst (λ (standings : List Standing). StandsAt standings client place (Waiting condition)) (sym (map_put plan positions client place (Waiting condition)))
    (put_same (map (standing_of plan) positions) client place (Waiting condition) (stands_within (map (standing_of plan) positions) client place Inside inside))

-- ---- a client inside that makes its step

notes_next : (system : System) (block : ℕ) (reply : Reply) → coming_notes system.plan (to_come_after system.monitor block reply) ≡ notes_after system block reply
notes_next system block replies.Overflow = by (block_condition system.monitor block == 0)
  where
    by : (none : Bool) → coming_notes system.plan (cond none comings.Nothing (comings.Signal (block_condition system.monitor block))) ≡ cond none [] (own_signal system block ∷ [])
    by true = refl
    by false = refl
notes_next system block replies.Refused = refl
notes_next system block replies.Unit = refl
notes_next system block (replies.Int number) = refl
notes_next system block (replies.Bool truth) = refl

pub steps_inside : (monitor : MonitorParts) (plan : Plan) (clients : List Client) (state next : List Value) (owner : Option ℕ) (commits : List Commit) (positions : List Position) (client : ℕ) (one new : Position) (commit : Commit)
    → PositionAt positions client one.place Inside → HasStepped monitor clients client state next one new commit
    → StepsInside (record { monitor = monitor; plan = plan; clients = clients }) client one.place new.place commit.reply next (machine_of monitor plan clients state owner commits positions).now
    (machine_of monitor plan clients next owner (commits ++ commit ∷ []) (set positions client new)).now
steps_inside monitor plan clients state next owner commits positions client one new commit at has = record {
  inside = position_stands plan positions client one.place Inside at;
  step = has.step;
  becomes = λ i. record { state = next; owner = owner; commits = commits ++ has.commits i ∷ []; standings = standings i };
}
  where
    standings : map (standing_of plan) (set positions client new)
        ≡ put (map (standing_of plan) positions) client new.place (Notifying (notes_after (record { monitor = monitor; plan = plan; clients = clients }) (block_at monitor has.step.call one.place) commit.reply))
    standings =
        map-set (standing_of plan) positions client new
        ∙ ap (put (map (standing_of plan) positions) client new.place)
        (ap (stage_of plan) has.notes ∙ ap Notifying (notes_next (record { monitor = monitor; plan = plan; clients = clients }) (block_at monitor has.step.call one.place) commit.reply))

-- there is room for its commit: with it the commits are a run still
pub room_left : (before next : Machine) (commits : List Commit) (commit : Commit) (len capacity : ℕ) → IsMachine before → IsMachine next → next.system ≡ before.system → next.now.commits ≡ commits ++ commit ∷ []
    → len ≡ length commits → capacity ≡ all_blocks before.system.monitor before.system.clients → len < capacity
room_left before next commits commit len capacity was is same grown long room =
    let counted = run_counts next.system.monitor next.system.clients next.now.commits (situation_of next.now) is.is.rule is.is.scripts is.sound.run in
    omega (arith, counted, ap length grown, length_push commits commit, long, room, ap (λ (system : System). all_blocks system.monitor system.clients) same)

-- ---- a client that is tested

guard_false : (system : System) (client : ℕ) (place : Place) (before next : Configuration) → WaitsOrRefuses system client place before next
    → StandsAt before.standings client place Inside × (guard_of system before.state client place ≡ false)
guard_false system client place before next (inl waits) = (waits.inside, waits.guard)
guard_false system client place before next (inr (goes, reply, state, refuses)) = (refuses.steps.inside, refuses.guard)

pub waits_not : (machine : Machine) (client : ℕ) → Goes machine client ways.Runs → NotAllowed machine (events.Wait client)
waits_not machine client (place, inside, holds) next (other, event) =
    let fails = guard_false machine.system client other machine.now next event in
    let same = one_place machine.now.standings client place other Inside Inside inside fails.0 in
    true≢false (sym holds ∙ ap (guard_of machine.system machine.now.state client) same ∙ fails.1)

pub none_waits_inside : (machine : Machine) (client : ℕ) → (IsInside machine client → ⊥) → NotAllowed machine (events.Wait client)
none_waits_inside machine client never next (place, event) = never (place, (guard_false machine.system client place machine.now next event).0)

runs_not : (machine : Machine) (client : ℕ) (place : Place) → StandsAt machine.now.standings client place Inside → guard_of machine.system machine.now.state client place ≡ false → NotAllowed machine (events.Run client)
runs_not machine client place inside fails next (other, goes, reply, state, runs) =
    let same = one_place machine.now.standings client place other Inside Inside inside runs.steps.inside in
    true≢false (sym runs.guard ∙ sym (ap (guard_of machine.system machine.now.state client) same) ∙ fails)

pub given_up_runs_not : (machine : Machine) (client : ℕ) → Goes machine client ways.GivesUp → NotAllowed machine (events.Run client)
given_up_runs_not machine client (place, inside, way) = runs_not machine client place inside way.0

pub waiting_runs_not : (machine : Machine) (client : ℕ) → Goes machine client ways.Waits → NotAllowed machine (events.Run client)
waiting_runs_not machine client (place, inside, way) = runs_not machine client place inside way.0

pub none_runs_inside : (machine : Machine) (client : ℕ) → (IsInside machine client → ⊥) → NotAllowed machine (events.Run client)
none_runs_inside machine client never next (place, goes, reply, state, runs) = never (place, runs.steps.inside)

-- ---- a client that has made all its notes

pub none_left : (notes : List Note) → length notes ≡ 0 → notes ≡ []
none_left [] is = refl
none_left (note ∷ notes) is = absurd (omega (arith, is))

pub some_left : (notes : List Note) → (length notes ≡ 0 → ⊥) → notes ≡ [] → ⊥
some_left notes some is = some (ap length is)

-- ---- the call of a client inside

pub left_here : (monitor : MonitorParts) (plan : Plan) (clients : List Client) (state : List Value) (owner : Option ℕ) (commits : List Commit) (positions : List Position) (client : ℕ) (place : Place) (some : List Call)
    → IsMachine (machine_of monitor plan clients state owner commits positions) → PositionAt positions client place Inside → some ≡ calls_of clients client → place.past < length some
left_here monitor plan clients state owner commits positions client place some meets at same =
    subst (λ (calls : List Call). place.past < length calls) (sym same)
    (has_call (machine_of monitor plan clients state owner commits positions) client place Inside meets (position_stands plan positions client place Inside at) refl)

-- what is known of its call
pub record IsHere (monitor : MonitorParts) (clients : List Client) (client : ℕ) (place : Place) (call : Call) : Type 0 where
  pub is : call_at clients client place ≡ Some call
  pub fit : FitsCall monitor call
  pub place_fits : FitsPlaceAt monitor place (Some call)

pub call_here : (monitor : MonitorParts) (plan : Plan) (clients : List Client) (state : List Value) (owner : Option ℕ) (commits : List Commit) (positions : List Position) (client : ℕ) (place : Place) (some : List Call) (call : Call)
    → IsMachine (machine_of monitor plan clients state owner commits positions) → PositionAt positions client place Inside → some ≡ calls_of clients client → call ≡ get_or some place.past call
    → IsHere monitor clients client place call
call_here monitor plan clients state owner commits positions client place some call meets at same is =
    let found = call_is clients client place some call same (left_here monitor plan clients state owner commits positions client place some meets at same) is in
    record {
      is = found;
      fit = call_fits (Told monitor plan clients) client place call meets.is found;
      place_fits = subst (FitsPlaceAt monitor place) found (meets.sound.places client place Inside (position_stands plan positions client place Inside at));
    }

-- ---- a client inside, as its position is lent

pub record GoesAt (monitor : MonitorParts) (plan : Plan) (clients : List Client) (state : List Value) (owner : Option ℕ) (commits : List Commit) (positions : List Position) (client : ℕ) (place : Place) (way : Way) : Type 0 where
  pub at : PositionAt positions client place Inside
  pub is : IsWay (machine_of monitor plan clients state owner commits positions) client place way
  pub fits : FitsPlace monitor clients client place

pub goes_at : (monitor : MonitorParts) (plan : Plan) (clients : List Client) (state : List Value) (owner : Option ℕ) (commits : List Commit) (positions : List Position) (client : ℕ) (one : Position) (way : Way)
    → IsMachine (machine_of monitor plan clients state owner commits positions) → Goes (machine_of monitor plan clients state owner commits positions) client way → one ≡ get_or positions client one
    → GoesAt monitor plan clients state owner commits positions client one.place way
goes_at monitor plan clients state owner commits positions client one way meets (place, inside, is) lent =
    let here = inside_made plan positions client place inside in
    let same = lent_place positions client place Inside one here lent in
    subst (λ (at : Place). GoesAt monitor plan clients state owner commits positions client at way) same (record {
      at = here;
      is = is;
      fits = meets.sound.places client place Inside inside;
    })

pub goes_within : (monitor : MonitorParts) (plan : Plan) (clients : List Client) (state : List Value) (owner : Option ℕ) (commits : List Commit) (positions : List Position) (client : ℕ) (way : Way)
    → Goes (machine_of monitor plan clients state owner commits positions) client way → client < length positions
goes_within monitor plan clients state owner commits positions client way (place, inside, is) = position_within positions client place Inside (inside_made plan positions client place inside)

-- the event of its step
pub runs : (monitor : MonitorParts) (plan : Plan) (clients : List Client) (state next : List Value) (owner : Option ℕ) (commits : List Commit) (positions : List Position) (client : ℕ) (one new : Position) (commit : Commit)
    → GoesAt monitor plan clients state owner commits positions client one.place ways.Runs → HasStepped monitor clients client state next one new commit
    → Runs (record { monitor = monitor; plan = plan; clients = clients }) client one.place new.place commit.reply next (machine_of monitor plan clients state owner commits positions).now
    (machine_of monitor plan clients next owner (commits ++ commit ∷ []) (set positions client new)).now
runs monitor plan clients state next owner commits positions client one new commit goes has =
    record { guard = goes.is; steps = steps_inside monitor plan clients state next owner commits positions client one new commit goes.at has }

pub refuses : (monitor : MonitorParts) (plan : Plan) (clients : List Client) (state : List Value) (owner : Option ℕ) (commits : List Commit) (positions : List Position) (client : ℕ) (one new : Position) (commit : Commit)
    → GoesAt monitor plan clients state owner commits positions client one.place ways.GivesUp → HasStepped monitor clients client state state one new commit
    → Refuses (record { monitor = monitor; plan = plan; clients = clients }) client one.place new.place commit.reply state (machine_of monitor plan clients state owner commits positions).now
    (machine_of monitor plan clients state owner (commits ++ commit ∷ []) (set positions client new)).now
refuses monitor plan clients state owner commits positions client one new commit goes has =
    record { guard = goes.is.0; steps = steps_inside monitor plan clients state state owner commits positions client one new commit goes.at has }

pub refused : (monitor : MonitorParts) (plan : Plan) (clients : List Client) (state : List Value) (owner : Option ℕ) (commits : List Commit) (positions : List Position) (client : ℕ) (one new : Position) (commit : Commit)
    → GoesAt monitor plan clients state owner commits positions client one.place ways.GivesUp → HasStepped monitor clients client state state one new commit → commit.reply ≡ replies.Refused
    → Refuses (record { monitor = monitor; plan = plan; clients = clients }) client one.place new.place replies.Refused state (machine_of monitor plan clients state owner commits positions).now
    (machine_of monitor plan clients state owner (commits ++ commit ∷ []) (set positions client new)).now
refused monitor plan clients state owner commits positions client one new commit goes has is =
    subst (λ (reply : Reply). Refuses (record { monitor = monitor; plan = plan; clients = clients }) client one.place new.place reply state (machine_of monitor plan clients state owner commits positions).now
    (machine_of monitor plan clients state owner (commits ++ commit ∷ []) (set positions client new)).now) is
    (refuses monitor plan clients state owner commits positions client one new commit goes has)

-- what the machine meets after it
pub ran_meets : (monitor : MonitorParts) (plan : Plan) (clients : List Client) (state next : List Value) (owner : Option ℕ) (commits : List Commit) (positions : List Position) (client : ℕ) (one new : Position) (commit : Commit)
    → IsMachine (machine_of monitor plan clients state owner commits positions)
    → GoesAt monitor plan clients state owner commits positions client one.place ways.Runs → HasStepped monitor clients client state next one new commit
    → IsMachine (machine_of monitor plan clients next owner (commits ++ commit ∷ []) (set positions client new))
ran_meets monitor plan clients state next owner commits positions client one new commit meets goes has =
    event_keeps_machine (events.Run client) (machine_of monitor plan clients state owner commits positions) _ meets
    (one.place, new.place, commit.reply, next, runs monitor plan clients state next owner commits positions client one new commit goes has)

pub refused_meets : (monitor : MonitorParts) (plan : Plan) (clients : List Client) (state : List Value) (owner : Option ℕ) (commits : List Commit) (positions : List Position) (client : ℕ) (one new : Position) (commit : Commit)
    → IsMachine (machine_of monitor plan clients state owner commits positions)
    → GoesAt monitor plan clients state owner commits positions client one.place ways.GivesUp → HasStepped monitor clients client state state one new commit
    → IsMachine (machine_of monitor plan clients state owner (commits ++ commit ∷ []) (set positions client new))
refused_meets monitor plan clients state owner commits positions client one new commit meets goes has =
    event_keeps_machine (events.Wait client) (machine_of monitor plan clients state owner commits positions) _ meets
    (one.place, inr (new.place, commit.reply, state, refuses monitor plan clients state owner commits positions client one new commit goes has))
