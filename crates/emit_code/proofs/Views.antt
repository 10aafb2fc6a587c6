-- Where the clients of the explicit machine stand at a moment of an execution.
use Rattle.std.proofs.Common.{◌≡◌, ◌==◌, ℕ, zero, suc, ◌+◌, ◌-◌, ◌⊎◌, Bool, true, false, cond, List, [], ◌∷◌, ◌++◌, map, Option, Some, None, refl, sym, ap, ◌∙◌, arith, inl, inr}
use Rattle.std.specs.Prelude.{slice_get, slice_set, option_map}
use Rattle.std.specs.Option.{option_map_or}
use Rattle.std.proofs.lemmas.List.{map-set}
use Rattle.std.proofs.lemmas.Option.{slice_get-map}
use Rattle.std.proofs.lemmas.Bool.{eqb-true}
use Rattle.lang_monitor.specs.MonitorParts.{first_in}
use Rattle.machine_implicit.specs.declared.script.Client.{Client}
use Rattle.machine_implicit.specs.declared.place.Place.{Place}
use Rattle.machine_implicit.specs.Scripted.{calls_of}
use Rattle.machine_implicit.specs.Places.{first_place}
use Rattle.machine_implicit.specs.Runs.{Situation, first_places}
use Rattle.machine_events.specs.declared.plan.Note.{Note}
use Rattle.machine_events.specs.declared.event.Stage.{Stage}
use Rattle.machine_events.specs.Configurations.{System, Standing, StandsAt, put}
use Rattle.machine_events.specs.declared.event.Stage.TheVariants.{Waiting, Woken, Inside, Notifying}
use Rattle.machine_events.specs.Events.{waking, wake_all}
use Rattle.emit_code.specs.Code.{Op}
use Rattle.emit_code.specs.Code.Op.{Lock, WaitUntil, ElseRefuse, Run, Notify, Unlock, Release}
use Rattle.emit_code.specs.Executions.{Position, Frame, Thread, Moment, IsThread, goes, woken_position, woken_thread, new_thread}
use Rattle.emit_code.specs.Executions.Position.{Outside, At, Asleep, Notified}
use Rattle.emit_code.specs.Orders.{notes_to_come}
use Rattle.emit_code.proofs.Lists.{option_some, set_self}

-- ---- the place of a thread: at the block that its code runs next, or, where it runs none, past the call

abbrev pub next_block : List Op → Option ℕ
next_block [] = None
next_block (Lock ∷ rest) = next_block rest
next_block (WaitUntil block condition ∷ rest) = Some block
next_block (ElseRefuse block ∷ rest) = Some block
next_block (Run block otherwise ∷ rest) = Some block
next_block (Notify note ∷ rest) = next_block rest
next_block (Unlock ∷ rest) = next_block rest
next_block (Release notes ∷ rest) = next_block rest

-- the number of a block within the method of a call
abbrev pub number_at : System → ℕ → ℕ → ℕ → ℕ
number_at system thread past block =
    option_map_or (λ call. block - first_in (slice_get system.monitor.methods call.method)) (slice_get (calls_of system.clients thread) past) 0

abbrev pub place_by : System → ℕ → Frame → Option ℕ → Place
place_by system thread frame None = first_place system.monitor system.clients thread (frame.past + 1)
place_by system thread frame (Some block) = record { past = frame.past; block = number_at system thread frame.past block; locals = frame.locals }

abbrev pub place_at : System → ℕ → Frame → Position → Place
place_at system thread frame Outside = first_place system.monitor system.clients thread frame.past
place_at system thread frame (At rest) = place_by system thread frame (next_block rest)
place_at system thread frame (Asleep block condition rest) = place_by system thread frame (Some block)
place_at system thread frame (Notified block condition rest) = place_by system thread frame (Some block)

-- ---- the stage: with notes to make it notifies, with the mutex or without; one that is between two blocks has none to make

abbrev pub stage_at : Position → Stage (List Note)
stage_at Outside = Notifying []
stage_at (At []) = Notifying []
stage_at (At (Lock ∷ rest)) = Notifying []
stage_at (At (WaitUntil block condition ∷ rest)) = Inside
stage_at (At (ElseRefuse block ∷ rest)) = Inside
stage_at (At (Run block otherwise ∷ rest)) = Inside
stage_at (At (Notify note ∷ rest)) = Notifying (note ∷ notes_to_come rest)
stage_at (At (Unlock ∷ rest)) = Notifying (notes_to_come rest)
stage_at (At (Release notes ∷ rest)) = Notifying (notes ++ notes_to_come rest)
stage_at (Asleep block condition rest) = Waiting condition
stage_at (Notified block condition rest) = Woken condition

abbrev pub stand : Place → Stage (List Note) → Standing
stand place stage = record { place = place; stage = stage }

abbrev pub standing_of : System → ℕ → Thread → Standing
standing_of system thread one = stand (place_at system thread one.frame one.position) (stage_at one.position)

-- of all threads, the first of them with this number
abbrev pub standings_from : System → ℕ → List Thread → List Standing
standings_from system number [] = []
standings_from system number (first ∷ more) = standing_of system number first ∷ standings_from system (number + 1) more

abbrev pub standings : System → List Thread → List Standing
standings system threads = standings_from system 0 threads

abbrev pub place_of : Standing → Place
place_of standing = standing.place

abbrev pub stage_of : Standing → Stage (List Note)
stage_of standing = standing.stage

-- the situation of the implicit monitor
abbrev pub situation_at : System → Moment → Situation
situation_at system now = record { state = now.state; places = map place_of (standings system now.threads) }

-- ---- one thread

shifted : (number k : ℕ) → (number + 1) + k ≡ number + suc k
shifted number k = omega arith

views_get : (system : System) (number : ℕ) (threads : List Thread) (k : ℕ) → slice_get (standings_from system number threads) k ≡ option_map (standing_of system (number + k)) (slice_get threads k)
views_get system number [] k = refl
views_get system number (first ∷ more) zero =
    let same : number ≡ number + zero = omega arith in
    ap (λ (who : ℕ). Some (standing_of system who first)) same
views_get system number (first ∷ more) (suc k) =
    views_get system (number + 1) more k ∙ ap (λ (who : ℕ). option_map (standing_of system who) (slice_get more k)) (shifted number k)

views_set : (system : System) (number : ℕ) (threads : List Thread) (k : ℕ) (one : Thread)
    → standings_from system number (slice_set threads k one) ≡ slice_set (standings_from system number threads) k (standing_of system (number + k) one)
views_set system number [] k one = refl
views_set system number (first ∷ more) zero one =
    let same : number ≡ number + zero = omega arith in
    ap (λ (who : ℕ). standing_of system who one ∷ standings_from system (number + 1) more) same
views_set system number (first ∷ more) (suc k) one =
    ap (λ (rest : List Standing). standing_of system number first ∷ rest)
    (views_set system (number + 1) more k one ∙ ap (λ (who : ℕ). slice_set (standings_from system (number + 1) more) k (standing_of system who one)) (shifted number k))

from_zero : (k : ℕ) → 0 + k ≡ k
from_zero k = omega arith

seen_get : (system : System) (threads : List Thread) (k : ℕ) → slice_get (standings system threads) k ≡ option_map (standing_of system k) (slice_get threads k)
seen_get system threads k = views_get system 0 threads k ∙ ap (λ (who : ℕ). option_map (standing_of system who) (slice_get threads k)) (from_zero k)

pub stands : (system : System) (threads : List Thread) (thread : ℕ) (frame : Frame) (position : Position) → IsThread threads thread frame position
    → StandsAt (standings system threads) thread (place_at system thread frame position) (stage_at position)
stands system threads thread frame position at = seen_get system threads thread ∙ ap (option_map (standing_of system thread)) at

pub stands_from : (system : System) (threads : List Thread) (thread : ℕ) (place : Place) (stage : Stage (List Note)) → StandsAt (standings system threads) thread place stage
    → (one : Thread) × (slice_get threads thread ≡ Some one) × (standing_of system thread one ≡ stand place stage)
stands_from system threads thread place stage at = option_some (standing_of system thread) (slice_get threads thread) (stand place stage) (sym (seen_get system threads thread) ∙ at)

pub goes_seen : (system : System) (threads : List Thread) (thread : ℕ) (frame : Frame) (position : Position)
    → standings system (goes threads thread frame position) ≡ put (standings system threads) thread (place_at system thread frame position) (stage_at position)
goes_seen system threads thread frame position =
    let one : Thread = record { frame = frame; position = position } in
    views_set system 0 threads thread one ∙ ap (λ (who : ℕ). slice_set (standings system threads) thread (standing_of system who one)) (from_zero thread)

-- it goes to a position at the same place
pub goes_here : (system : System) (threads : List Thread) (thread : ℕ) (frame : Frame) (position : Position) (place : Place) (stage : Stage (List Note))
    → place_at system thread frame position ≡ place → stage_at position ≡ stage
    → standings system (goes threads thread frame position) ≡ put (standings system threads) thread place stage
goes_here system threads thread frame position place stage place_is stage_is =
    goes_seen system threads thread frame position ∙ (λ i. put (standings system threads) thread (place_is i) (stage_is i))

-- nothing is seen of it
pub goes_unseen : (system : System) (threads : List Thread) (thread : ℕ) (frame new_frame : Frame) (position new_position : Position) → IsThread threads thread frame position
    → place_at system thread new_frame new_position ≡ place_at system thread frame position → stage_at new_position ≡ stage_at position
    → standings system (goes threads thread new_frame new_position) ≡ standings system threads
goes_unseen system threads thread frame new_frame position new_position at place_is stage_is =
    goes_here system threads thread new_frame new_position (place_at system thread frame position) (stage_at position) place_is stage_is
    ∙ set_self (standings system threads) thread (stand (place_at system thread frame position) (stage_at position)) (stands system threads thread frame position at)

-- the places stay
pub same_places : (system : System) (threads : List Thread) (thread : ℕ) (frame new_frame : Frame) (position new_position : Position) → IsThread threads thread frame position
    → place_at system thread new_frame new_position ≡ place_at system thread frame position
    → map place_of (standings system (goes threads thread new_frame new_position)) ≡ map place_of (standings system threads)
same_places system threads thread frame new_frame position new_position at place_is =
    let old = place_at system thread frame position in
    ap (map place_of) (goes_here system threads thread new_frame new_position old (stage_at new_position) place_is refl)
    ∙ map-set place_of (standings system threads) thread (stand old (stage_at new_position))
    ∙ set_self (map place_of (standings system threads)) thread old
    (slice_get-map place_of (standings system threads) thread ∙ ap (option_map place_of) (stands system threads thread frame position at))

pub place_there : (system : System) (threads : List Thread) (thread : ℕ) (frame : Frame) (position : Position) → IsThread threads thread frame position
    → slice_get (map place_of (standings system threads)) thread ≡ Some (place_at system thread frame position)
place_there system threads thread frame position at =
    slice_get-map place_of (standings system threads) thread ∙ ap (option_map place_of) (stands system threads thread frame position at)

pub places_go : (system : System) (threads : List Thread) (thread : ℕ) (frame : Frame) (position : Position) (place : Place) → place_at system thread frame position ≡ place
    → map place_of (standings system (goes threads thread frame position)) ≡ slice_set (map place_of (standings system threads)) thread place
places_go system threads thread frame position place is =
    ap (map place_of) (goes_here system threads thread frame position place (stage_at position) is refl) ∙ map-set place_of (standings system threads) thread (stand place (stage_at position))

-- ---- all that sleep on a condition are woken

by_test : (system : System) (thread condition other block : ℕ) (frame : Frame) (rest : List Op) (test : Bool)
    → standing_of system thread (record { frame = frame; position = cond test (Notified block condition rest) (Asleep block other rest) })
    ≡ cond test (stand (place_by system thread frame (Some block)) (Woken condition)) (stand (place_by system thread frame (Some block)) (Waiting other))
by_test system thread condition other block frame rest true = refl
by_test system thread condition other block frame rest false = refl

one_woken : (system : System) (thread condition : ℕ) (frame : Frame) (position : Position)
    → standing_of system thread (record { frame = frame; position = woken_position condition position }) ≡ waking condition (stand (place_at system thread frame position) (stage_at position))
one_woken system thread condition frame Outside = refl
one_woken system thread condition frame (At []) = refl
one_woken system thread condition frame (At (Lock ∷ rest)) = refl
one_woken system thread condition frame (At (WaitUntil block on ∷ rest)) = refl
one_woken system thread condition frame (At (ElseRefuse block ∷ rest)) = refl
one_woken system thread condition frame (At (Run block otherwise ∷ rest)) = refl
one_woken system thread condition frame (At (Notify note ∷ rest)) = refl
one_woken system thread condition frame (At (Unlock ∷ rest)) = refl
one_woken system thread condition frame (At (Release notes ∷ rest)) = refl
one_woken system thread condition frame (Asleep block other rest) = by_test system thread condition other block frame rest (other == condition)
one_woken system thread condition frame (Notified block other rest) = refl

woken_from : (system : System) (number condition : ℕ) (threads : List Thread) → standings_from system number (map (woken_thread condition) threads) ≡ map (waking condition) (standings_from system number threads)
woken_from system number condition [] = refl
woken_from system number condition (first ∷ more) = λ i. one_woken system number condition first.frame first.position i ∷ woken_from system (number + 1) condition more i

pub all_woken : (system : System) (condition : ℕ) (threads : List Thread) → standings system (map (woken_thread condition) threads) ≡ wake_all condition (standings system threads)
all_woken system condition threads = woken_from system 0 condition threads

woken_place : (condition : ℕ) (standing : Standing) (test : Bool) → place_of (cond test (stand standing.place (Woken condition)) standing) ≡ standing.place
woken_place condition standing true = refl
woken_place condition standing false = refl

woken_places : (condition : ℕ) (some : List Standing) → map place_of (wake_all condition some) ≡ map place_of some
woken_places condition [] = refl
woken_places condition (first ∷ more) = λ i. first_same i ∷ woken_places condition more i
  where
    first_same : place_of (waking condition first) ≡ first.place
    first_same = woken_place condition first _

pub all_woken_places : (system : System) (condition : ℕ) (threads : List Thread) → map place_of (standings system (map (woken_thread condition) threads)) ≡ map place_of (standings system threads)
all_woken_places system condition threads = ap (map place_of) (all_woken system condition threads) ∙ woken_places condition (standings system threads)

-- who is somewhere after all are woken was there before, or slept on the condition and is notified
woken_by : (condition other block : ℕ) (rest : List Op) (position : Position) (test : Bool) → other == condition ≡ test → cond test (Notified block condition rest) (Asleep block other rest) ≡ position
    → (Asleep block other rest ≡ position) ⊎ ((Asleep block other rest ≡ Asleep block condition rest) × (position ≡ Notified block condition rest))
woken_by condition other block rest position true is same = inr (ap (λ (one : ℕ). Asleep block one rest) (eqb-true other condition is), sym same)
woken_by condition other block rest position false is same = inl same

position_before : (condition : ℕ) (before position : Position) → woken_position condition before ≡ position
    → (before ≡ position) ⊎ ((block : ℕ) × (rest : List Op) × (before ≡ Asleep block condition rest) × (position ≡ Notified block condition rest))
position_before condition Outside position is = inl is
position_before condition (At rest) position is = inl is
position_before condition (Asleep block other rest) position is = elim (woken_by condition other block rest position (other == condition) refl is) [
  | inl same ↦ inl same
  | inr woken ↦ inr (block, rest, woken.0, woken.1)
]
position_before condition (Notified block other rest) position is = inl is

pub thread_before : (condition : ℕ) (threads : List Thread) (thread : ℕ) (frame : Frame) (position : Position) → IsThread (map (woken_thread condition) threads) thread frame position
    → IsThread threads thread frame position ⊎ ((block : ℕ) × (rest : List Op) × IsThread threads thread frame (Asleep block condition rest) × (position ≡ Notified block condition rest))
thread_before condition threads thread frame position at =
    let found = option_some (woken_thread condition) (slice_get threads thread) (record { frame = frame; position = position }) (sym (slice_get-map (woken_thread condition) threads thread) ∙ at) in
    let same_frame : found.0.frame ≡ frame = ap (λ (one : Thread). one.frame) found.2 in
    elim (position_before condition found.0.position position (ap (λ (one : Thread). one.position) found.2)) [
      | inl same ↦ inl (found.1 ∙ ap Some (λ i. record { frame = same_frame i; position = same i }))
      | inr woken ↦ inr (woken.0, woken.1, found.1 ∙ ap Some (λ i. record { frame = same_frame i; position = woken.2 i }), woken.3)
    ]

-- ---- who waits in the machine sleeps in the code

asleep_position : (position : Position) (condition : ℕ) → stage_at position ≡ Waiting condition → (block : ℕ) × (rest : List Op) × (position ≡ Asleep block condition rest)
asleep_position Outside condition is = absurd (cc is)
asleep_position (At []) condition is = absurd (cc is)
asleep_position (At (Lock ∷ rest)) condition is = absurd (cc is)
asleep_position (At (WaitUntil block on ∷ rest)) condition is = absurd (cc is)
asleep_position (At (ElseRefuse block ∷ rest)) condition is = absurd (cc is)
asleep_position (At (Run block otherwise ∷ rest)) condition is = absurd (cc is)
asleep_position (At (Notify note ∷ rest)) condition is = absurd (cc is)
asleep_position (At (Unlock ∷ rest)) condition is = absurd (cc is)
asleep_position (At (Release notes ∷ rest)) condition is = absurd (cc is)
asleep_position (Asleep block on rest) condition is = (block, rest, ap (λ (one : ℕ). Asleep block one rest) (cc is))
asleep_position (Notified block on rest) condition is = absurd (cc is)

-- a thread that sleeps
pub record Sleeps (system : System) (threads : List Thread) (thread : ℕ) (place : Place) (condition : ℕ) : Type 0 where
  pub frame : Frame
  pub block : ℕ
  pub rest : List Op
  pub at : IsThread threads thread frame (Asleep block condition rest)
  pub place_is : place_by system thread frame (Some block) ≡ place

pub sleeps_from : (system : System) (threads : List Thread) (thread : ℕ) (place : Place) (condition : ℕ) → StandsAt (standings system threads) thread place (Waiting condition) → Sleeps system threads thread place condition
sleeps_from system threads thread place condition at =
    let found = stands_from system threads thread place (Waiting condition) at in
    let position = asleep_position found.0.position condition (ap stage_of found.2) in
    record {
      frame = found.0.frame;
      block = position.0;
      rest = position.1;
      at = found.1 ∙ ap Some (λ i. record { frame = found.0.frame; position = position.2 i });
      place_is = ap (place_at system thread found.0.frame) (sym position.2) ∙ ap place_of found.2;
    }

-- ---- the start

pub start_places : (system : System) (number : ℕ) (clients : List Client)
    → map place_of (standings_from system number (map (λ client. new_thread) clients)) ≡ first_places system.monitor system.clients number clients
start_places system number [] = refl
start_places system number (first ∷ more) = ap (λ (rest : List Place). first_place system.monitor system.clients number 0 ∷ rest) (start_places system (number + 1) more)
