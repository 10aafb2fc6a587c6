-- Notes and wake-ups of the machine as the code keeps it.
use Rattle.std.proofs.Common.{◌≡◌, ◌==◌, ◌⊎◌, ℕ, zero, suc, ◌+◌, ◌-◌, ◌<◌, Bool, true, false, cond, List, [], ◌∷◌, ◌++◌, map, set, take, drop, length, get_or, append-nil, Option, Some, None, refl, sym, ap, subst, ◌∙◌, arith, inl, inr}
use Rattle.std.specs.Prelude.{slice_get, option_map}
use Rattle.std.specs.List.{list_any}
use Rattle.std.proofs.lemmas.List.{length-map, drop_all, take_all}
use Rattle.std.proofs.lemmas.Option.{none-some, same_Some, slice_get-map}
use Rattle.std.proofs.lemmas.Bool.{true≢false, eqb-true, eq-eqb, or_parts, or_cases}
use Rattle.lang_base.specs.declared.value.Value.{Value}
use Rattle.lang_monitor.specs.MonitorParts.{MonitorParts}
use Rattle.machine_implicit.specs.declared.commit.Commit.{Commit}
use Rattle.machine_implicit.specs.declared.script.Client.{Client}
use Rattle.machine_events.specs.declared.plan.Note.{Note}
use Rattle.machine_events.specs.declared.plan.Plan.{Plan}
use Rattle.machine_events.specs.declared.event.Event.TheVariants as events
use Rattle.machine_events.specs.declared.event.Stage.{Stage}
use Rattle.machine_explicit.specs.declared.position.ToCome.{ToCome}
use Rattle.machine_events.specs.declared.event.Stage.TheVariants.{Idle, Entering, Waiting, Woken, Inside, Notifying}
use Rattle.machine_explicit.specs.declared.position.Position.{Position}
use Rattle.machine_explicit.specs.declared.notes.Next.{Next}
use Rattle.machine_events.specs.Configurations.{System, Standing}
use Rattle.machine_events.specs.Configurations.{Configuration, StandsAt, put}
use Rattle.machine_events.specs.Events.{waking, wake_all, waits_on, fires}
use Rattle.machine_events.specs.Events.{Wakes, NoneWaits, IsEvent}
use Rattle.machine_explicit.specs.Machines.{Machine, NotAllowed}
use Rattle.machine_explicit.specs.inner.Positions.{coming_notes, standing_of, machine_of, PositionAt, HasNoNext, IsNext, fires_in, position_waits, waking_position}
use Rattle.machine_explicit.specs.inner.Waiting.{IsComing, NoneComes, Passes}
use Rattle.machine_events.proofs.Standings.{one_stage, waits_is}
use Rattle.machine_explicit.proofs.Making.{position_stands, notifying_made, map_put, position_within, lent_place}
use Rattle.machine_explicit.proofs.MakingEvents.{waiting_made}
use Rattle.machine_implicit.specs.declared.place.Place.{Place}

-- ---- lists

set_other : {X : Type 0} (xs : List X) (i : ℕ) (y : X) (j : ℕ) → (j ≡ i → ⊥) → slice_get (set xs i y) j ≡ slice_get xs j
set_other [] i y j differs = refl
set_other (x ∷ xs) zero y zero differs = absurd (differs refl)
set_other (x ∷ xs) zero y (suc j) differs = refl
set_other (x ∷ xs) (suc i) y zero differs = refl
set_other (x ∷ xs) (suc i) y (suc j) differs = set_other xs i y j (λ same. differs (ap suc same))

-- ---- waking

waking_is : (plan : Plan) (condition : ℕ) (place : Place) (kept : Stage ToCome) → standing_of plan (waking_position condition (record { place = place; stage = kept })) ≡ waking condition (standing_of plan (record { place = place; stage = kept }))
waking_is plan condition place Idle = refl
waking_is plan condition place Entering = refl
waking_is plan condition place (Waiting on) = by (on == condition)
  where
    by : (test : Bool) → standing_of plan (record { place = place; stage = cond test (Woken condition) (Waiting on) })
        ≡ cond test (record { place = place; stage = Woken condition }) (record { place = place; stage = Waiting on })
    by true = refl
    by false = refl
waking_is plan condition place (Woken on) = refl
waking_is plan condition place Inside = refl
waking_is plan condition place (Notifying to_come) = refl

map_waking : (plan : Plan) (condition : ℕ) (positions : List Position) → map (standing_of plan) (map (waking_position condition) positions) ≡ wake_all condition (map (standing_of plan) positions)
map_waking plan condition [] = refl
map_waking plan condition (one ∷ positions) = λ i. waking_is plan condition one.place one.stage i ∷ map_waking plan condition positions i

pub still_made : (positions : List Position) (condition client : ℕ) (place : Place) (kept : Stage ToCome) → PositionAt positions client place kept → waits_on condition kept ≡ false → PositionAt (map (waking_position condition) positions) client place kept
still_made positions condition client place kept at waits_not =
    slice_get-map (waking_position condition) positions client ∙ ap (option_map (waking_position condition)) at
    ∙ ap (λ (test : Bool). Some (record { place = place; stage = cond test (Woken condition) kept })) waits_not

-- ---- whether some client waits

none_made : (positions : List Position) (condition client : ℕ) (place : Place) → list_any (position_waits condition) positions ≡ false → PositionAt positions client place (Waiting condition) → ⊥
none_made [] condition client place none at = none-some (record { place = place; stage = Waiting condition }) at
none_made (one ∷ positions) condition zero place none at =
    true≢false (sym (ap (position_waits condition) (same_Some one (record { place = place; stage = Waiting condition }) at) ∙ eq-eqb condition condition refl) ∙ (or_parts (position_waits condition one) (list_any (position_waits condition) positions) none).0)
none_made (one ∷ positions) condition (suc client) place none at = none_made positions condition client place (or_parts (position_waits condition one) (list_any (position_waits condition) positions) none).1 at

some_made : (positions : List Position) (condition : ℕ) → list_any (position_waits condition) positions ≡ true → (client : ℕ) × (place : Place) × PositionAt positions client place (Waiting condition)
some_made [] condition is = absurd (true≢false (sym is))
some_made (one ∷ positions) condition is = elim (or_cases (position_waits condition one) (list_any (position_waits condition) positions) is) [
  | inl here ↦ (zero, one.place, λ i. Some (record { place = one.place; stage = waits_is condition one.stage here i }))
  | inr later ↦ let found = some_made positions condition later in (suc found.0, found.1, found.2)
]

pub none_waits_made : (plan : Plan) (positions : List Position) (condition : ℕ) → list_any (position_waits condition) positions ≡ false → NoneWaits (map (standing_of plan) positions) condition
none_waits_made plan positions condition none client place at = none_made positions condition client place none (waiting_made plan positions client place condition at)

-- ---- the first note to come

pub stands_next : (plan : Plan) (positions : List Position) (client : ℕ) (next : Next) → (is : IsNext plan positions client next) → StandsAt (map (standing_of plan) positions) client is.place (Notifying (next.note ∷ is.first.more))
stands_next plan positions client next is =
    subst (λ (notes : List Note). StandsAt (map (standing_of plan) positions) client is.place (Notifying notes)) is.first.notes (position_stands plan positions client is.place (Notifying is.to_come) is.at)

pub next_within : (plan : Plan) (positions : List Position) (client : ℕ) (next : Next) → IsNext plan positions client next → client < length positions
next_within plan positions client next is = position_within positions client is.place (Notifying is.to_come) is.at

same_note : (standings : List Standing) (client : ℕ) (place other : Place) (note others_note : Note) (more others_more : List Note) → StandsAt standings client place (Notifying (note ∷ more)) → StandsAt standings client other (Notifying (others_note ∷ others_more)) → note ≡ others_note
same_note standings client place other note others_note more others_more at also = first_of_same (one_stage standings client place other (Notifying (note ∷ more)) (Notifying (others_note ∷ others_more)) at also)
  where
    first_of_same : Notifying (note ∷ more) ≡ Notifying (others_note ∷ others_more) → note ≡ others_note
    first_of_same same = cc same

-- the same of the machine
pub coming_made : (monitor : MonitorParts) (plan : Plan) (clients : List Client) (state : List Value) (owner : Option ℕ) (commits : List Commit) (positions : List Position) (client : ℕ) (next : Next)
    → IsComing (machine_of monitor plan clients state owner commits positions) client next → IsNext plan positions client next
coming_made monitor plan clients state owner commits positions client next is =
    let found = notifying_made plan positions client is.place (next.note ∷ is.more) is.at in
    record { place = is.place; to_come = found.0; at = found.1; first = record { more = is.more; notes = found.2; then_more = is.then_more; source = is.source } }

pub made_coming : (monitor : MonitorParts) (plan : Plan) (clients : List Client) (state : List Value) (owner : Option ℕ) (commits : List Commit) (positions : List Position) (client : ℕ) (next : Next)
    → IsNext plan positions client next → IsComing (machine_of monitor plan clients state owner commits positions) client next
made_coming monitor plan clients state owner commits positions client next is =
    record { place = is.place; more = is.first.more; at = stands_next plan positions client next is; then_more = is.first.then_more; source = is.first.source }

pub none_comes : (monitor : MonitorParts) (plan : Plan) (clients : List Client) (state : List Value) (owner : Option ℕ) (commits : List Commit) (positions : List Position) (client : ℕ)
    → HasNoNext plan positions client → NoneComes (machine_of monitor plan clients state owner commits positions) client
none_comes monitor plan clients state owner commits positions client never place note more at =
    let found = notifying_made plan positions client place (note ∷ more) at in
    nothing (sym (never place found.0 found.1) ∙ found.2)
  where
    nothing : ◌≡◌ {A = List Note} [] (note ∷ more) → ⊥
    nothing same = cc same

pub none_notifies : (machine : Machine) (client : ℕ) (target : Option ℕ) → NoneComes machine client → NotAllowed machine (events.Notify client target)
none_notifies machine client target never next (place, event) = never place event.note event.more event.notifying

-- a position that is lent after each waiter was woken: a client with a note to come was none of
-- these
pub lent_woken : (plan : Plan) (positions : List Position) (client : ℕ) (next : Next) (is : IsNext plan positions client next) (one : Position) (woken : List Position) → woken ≡ map (waking_position next.note.condition) positions
    → one ≡ get_or woken client one → is.place ≡ one.place
lent_woken plan positions client next is one woken same lent =
    lent_place (map (waking_position next.note.condition) positions) client is.place (Notifying is.to_come) one
    (still_made positions next.note.condition client is.place (Notifying is.to_come) is.at refl)
    (lent ∙ ap (λ (some : List Position). get_or some client one) same)

-- ---- each waiter is woken

pub broadcasts : (monitor : MonitorParts) (plan : Plan) (clients : List Client) (state : List Value) (owner : Option ℕ) (commits : List Commit) (positions : List Position) (client : ℕ) (next : Next)
    → (is : IsNext plan positions client next) → fires_in monitor state next.note ≡ true → next.note.all ≡ true
    → IsEvent (record { monitor = monitor; plan = plan; clients = clients }) (events.Notify client None) (machine_of monitor plan clients state owner commits positions).now
    (machine_of monitor plan clients state owner commits (set (map (waking_position next.note.condition) positions) client (record { place = is.place; stage = Notifying next.rest }))).now
broadcasts monitor plan clients state owner commits positions client next is fired each = (
  is.place,
  record {
    note = next.note;
    more = is.first.more;
    woken = wake_all next.note.condition (map (standing_of plan) positions);
    notifying = stands_next plan positions client next is;
    wakes = inl (record { fired = fired; each = each; becomes = refl });
    becomes = ap (λ (standings : List Standing). record { state = state; owner = owner; commits = commits; standings = standings })
        (map_put plan (map (waking_position next.note.condition) positions) client is.place (Notifying next.rest)
        ∙ (λ i. put (map_waking plan next.note.condition positions i) client is.place (Notifying (is.first.then_more i))));
  },
)

-- ---- a note that passes

-- where no one waits on the condition, a broadcast wakes no one
wakes_none : (standings : List Standing) (condition : ℕ) → NoneWaits standings condition → wake_all condition standings ≡ standings
wakes_none [] condition none = refl
wakes_none (one ∷ standings) condition none = λ i. same (waits_on condition one.stage) refl i ∷ wakes_none standings condition (λ client place at. none (suc client) place at) i
  where
    same : (test : Bool) → test ≡ waits_on condition one.stage → cond test (record { place = one.place; stage = Woken condition }) one ≡ one
    same true is = absurd (none zero one.place (λ i. Some (record { place = one.place; stage = waits_is condition one.stage (sym is) i })))
    same false is = refl

pub none_woken : (system : System) (c : Configuration) (note : Note) (woken : List Standing) → (fires system c.state note ≡ false) ⊎ NoneWaits c.standings note.condition → Wakes system c note None woken → woken ≡ c.standings
none_woken system c note woken (inl not_fired) (inl each) = absurd (true≢false (sym each.fired ∙ not_fired))
none_woken system c note woken (inr none) (inl each) = each.becomes ∙ wakes_none c.standings note.condition none
none_woken system c note woken why (inr nobody) = nobody.becomes

wakes_nobody : (system : System) (c : Configuration) (note : Note) (fired all : Bool) → fires system c.state note ≡ fired → note.all ≡ all → (fires system c.state note ≡ false) ⊎ NoneWaits c.standings note.condition
    → Wakes system c note None c.standings
wakes_nobody system c note false all fires_not is why = inr (record { nobody = inl fires_not; becomes = refl })
wakes_nobody system c note true all fired is (inl fires_not) = absurd (true≢false (sym fired ∙ fires_not))
wakes_nobody system c note true true fired is (inr none) = inl (record { fired = fired; each = is; becomes = sym (wakes_none c.standings note.condition none) })
wakes_nobody system c note true false fired is (inr none) = inr (record { nobody = inr (is, none); becomes = refl })

pub passed : (monitor : MonitorParts) (plan : Plan) (clients : List Client) (state : List Value) (owner : Option ℕ) (commits : List Commit) (positions : List Position) (client : ℕ) (next : Next)
    → Passes (machine_of monitor plan clients state owner commits positions) client → (is : IsNext plan positions client next)
    → IsEvent (record { monitor = monitor; plan = plan; clients = clients }) (events.Notify client None) (machine_of monitor plan clients state owner commits positions).now
    (machine_of monitor plan clients state owner commits (set positions client (record { place = is.place; stage = Notifying next.rest }))).now
passed monitor plan clients state owner commits positions client next passes is = (
  is.place,
  record {
    note = next.note;
    more = is.first.more;
    woken = map (standing_of plan) positions;
    notifying = stands_next plan positions client next is;
    wakes = wakes_nobody system before next.note (fires system state next.note) next.note.all refl refl
        (subst (λ (note : Note). (fires system state note ≡ false) ⊎ NoneWaits before.standings note.condition)
        (same_note (map (standing_of plan) positions) client passes.0 is.place passes.1 next.note passes.2 is.first.more passes.3 (stands_next plan positions client next is)) passes.4);
    becomes = ap (λ (standings : List Standing). record { state = state; owner = owner; commits = commits; standings = standings })
        (map_put plan positions client is.place (Notifying next.rest) ∙ ap (λ (notes : List Note). put (map (standing_of plan) positions) client is.place (Notifying notes)) is.first.then_more);
  },
)
  where
    system : System
    system = record { monitor = monitor; plan = plan; clients = clients }

    before : Configuration
    before = (machine_of monitor plan clients state owner commits positions).now

-- a signal that fires while a client waits names a target
pub names_one : (monitor : MonitorParts) (plan : Plan) (clients : List Client) (state : List Value) (owner : Option ℕ) (commits : List Commit) (positions : List Position) (client : ℕ) (next : Next)
    → IsNext plan positions client next → fires_in monitor state next.note ≡ true → next.note.all ≡ false → list_any (position_waits next.note.condition) positions ≡ true
    → NotAllowed (machine_of monitor plan clients state owner commits positions) (events.Notify client None)
names_one monitor plan clients state owner commits positions client next is fired one waits last (place, event) =
    let same = same_note (map (standing_of plan) positions) client place is.place event.note next.note event.more is.first.more event.notifying (stands_next plan positions client next is) in
    elim event.wakes [
      | inl each ↦ true≢false (sym each.each ∙ ap (λ (n : Note). n.all) same ∙ one)
      | inr nobody ↦ elim nobody.nobody [
        | inl still ↦ true≢false (sym fired ∙ sym (ap (fires_in monitor state) same) ∙ still)
        | inr none ↦
            let found = some_made positions next.note.condition waits in
            none.1 found.0 found.1 (subst (λ (n : Note). StandsAt (map (standing_of plan) positions) found.0 found.1 (Waiting n.condition)) (sym same) (position_stands plan positions found.0 found.1 (Waiting next.note.condition) found.2))
      ]
    ]

-- ---- one is woken

pub target_differs : (plan : Plan) (positions : List Position) (client target : ℕ) (target_place : Place) (condition : ℕ) (next : Next) → IsNext plan positions client next → PositionAt positions target target_place (Waiting condition) → client ≡ target → ⊥
target_differs plan positions client target target_place condition next is waits same =
    two_stages (one_stage (map (standing_of plan) positions) target is.place target_place (Notifying (next.note ∷ is.first.more)) (Waiting condition)
    (subst (λ (who : ℕ). StandsAt (map (standing_of plan) positions) who is.place (Notifying (next.note ∷ is.first.more))) same (stands_next plan positions client next is))
    (position_stands plan positions target target_place (Waiting condition) waits))
  where
    two_stages : Notifying (next.note ∷ is.first.more) ≡ Waiting condition → ⊥
    two_stages both = cc both

pub still_next : (plan : Plan) (positions : List Position) (client target : ℕ) (target_place : Place) (condition : ℕ) (next : Next) (new : Position) → (is : IsNext plan positions client next) → PositionAt positions target target_place (Waiting condition)
    → PositionAt (set positions target new) client is.place (Notifying is.to_come)
still_next plan positions client target target_place condition next new is waits = set_other positions target new client (target_differs plan positions client target target_place condition next is waits) ∙ is.at

pub signals : (monitor : MonitorParts) (plan : Plan) (clients : List Client) (state : List Value) (owner : Option ℕ) (commits : List Commit) (positions : List Position) (client target : ℕ) (target_place : Place) (next : Next)
    → (is : IsNext plan positions client next) → fires_in monitor state next.note ≡ true → next.note.all ≡ false → PositionAt positions target target_place (Waiting next.note.condition)
    → IsEvent (record { monitor = monitor; plan = plan; clients = clients }) (events.Notify client (Some target)) (machine_of monitor plan clients state owner commits positions).now
    (machine_of monitor plan clients state owner commits (set (set positions target (record { place = target_place; stage = Woken next.note.condition })) client (record { place = is.place; stage = Notifying next.rest }))).now
signals monitor plan clients state owner commits positions client target target_place next is fired one waits = (
  is.place,
  record {
    note = next.note;
    more = is.first.more;
    woken = put (map (standing_of plan) positions) target target_place (Woken next.note.condition);
    notifying = stands_next plan positions client next is;
    wakes = (target_place, record { fired = fired; one = one; waits = position_stands plan positions target target_place (Waiting next.note.condition) waits; becomes = refl });
    becomes = ap (λ (standings : List Standing). record { state = state; owner = owner; commits = commits; standings = standings })
        (map_put plan (set positions target (record { place = target_place; stage = Woken next.note.condition })) client is.place (Notifying next.rest)
        ∙ (λ i. put (map_put plan positions target target_place (Woken next.note.condition) i) client is.place (Notifying (is.first.then_more i))));
  },
)

pub signals_not : (monitor : MonitorParts) (plan : Plan) (clients : List Client) (state : List Value) (owner : Option ℕ) (commits : List Commit) (positions : List Position) (client target : ℕ) (next : Next)
    → IsNext plan positions client next
    → (fires_in monitor state next.note ≡ true → next.note.all ≡ false → (place : Place) → PositionAt positions target place (Waiting next.note.condition) → ⊥)
    → NotAllowed (machine_of monitor plan clients state owner commits positions) (events.Notify client (Some target))
signals_not monitor plan clients state owner commits positions client target next is never last (place, event) =
    let same = same_note (map (standing_of plan) positions) client place is.place event.note next.note event.more is.first.more event.notifying (stands_next plan positions client next is) in
    let woken = event.wakes in
    never (sym (ap (fires_in monitor state) same) ∙ woken.1.fired) (sym (ap (λ (n : Note). n.all) same) ∙ woken.1.one) woken.0
    (waiting_made plan positions target woken.0 next.note.condition (subst (λ (n : Note). StandsAt (map (standing_of plan) positions) target woken.0 (Waiting n.condition)) same woken.1.waits))

-- ---- a vector that was lent as a slice

pub lent : {X : Type 0} (f : X → X) (items new : List X) (len : ℕ) → len ≡ length items → new ≡ map f items → take len (new ++ drop (length new) items) ≡ map f items
lent {X} f items new len is same =
    let long : length new ≡ length items = ap length same ∙ length-map items f in
    ap (λ (rest : List X). take len (new ++ rest)) (drop_all (length new) items (omega (arith, long)))
    ∙ ap (take len) (append-nil new)
    ∙ take_all len new (omega (arith, long, is)) ∙ same
