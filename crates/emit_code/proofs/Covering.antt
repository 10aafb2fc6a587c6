-- Under a lawful plan each move keeps the invariant, and that wake-ups are pending; so who sleeps
-- with a true guard is seen to.
use Rattle.std.proofs.Common.{◌≡◌, ◌==◌, ℕ, suc, ◌+◌, ◌-◌, ◌<◌, ◌≤◌, Bool, true, false, cond, not, ◌&&◌, ◌⊎◌, List, [], ◌∷◌, ◌++◌, length, Option, Some, None, refl, sym, ap, subst, ◌∙◌, arith, inl, inr}
use Rattle.std.specs.Prelude.{All, slice_get}
use Rattle.std.proofs.lemmas.Option.{none-some, same_Some, slice_get_within}
use Rattle.std.proofs.lemmas.List.Elements.{All-nil, All-cons, All-head, All-tail}
use Rattle.std.proofs.lemmas.Bool.{eqb-true, eq-eqb, ne_eqb, or_cases, or_left, or_right, and_from, and_parts, not_from_false}
use Rattle.lang_base.specs.declared.value.Value.{Value}
use Rattle.logic_linear.specs.Truth.{truth_of}
use Rattle.lang_monitor.specs.declared.monitor.Condition.{Condition}
use Rattle.lang_monitor.specs.Inputs.{reads_inputs}
use Rattle.lang_monitor.specs.MonitorParts.{locals_in}
use Rattle.lang_monitor.specs.Bodies.{Memory, after, valuation}
use Rattle.lang_monitor.specs.Candidates.{AllHold}
use Rattle.machine_implicit.specs.declared.commit.Commit.{Commit}
use Rattle.machine_implicit.specs.declared.commit.Reply.{Reply}
use Rattle.machine_implicit.specs.declared.commit.Reply.TheVariants as replies
use Rattle.machine_implicit.specs.declared.script.Call.{Call}
use Rattle.machine_implicit.specs.declared.place.Place.{Place}
use Rattle.machine_implicit.specs.Steps.{given, condition_truth, start_of}
use Rattle.machine_implicit.specs.Scripted.{calls_of}
use Rattle.machine_implicit.specs.Places.{block_at, inputs_at, first_place, FitsPlace}
use Rattle.machine_implicit.proofs.Fitting.{at_index, run_fits}
use Rattle.machine_events.specs.declared.plan.CondKind.{CondKind}
use Rattle.machine_events.specs.declared.plan.CondKind.TheVariants as kinds
use Rattle.machine_events.specs.declared.plan.Note.{Note}
use Rattle.machine_events.specs.Plans.{condition_kind, has_note, has_broadcast, IsCondition}
use Rattle.machine_events.specs.Laws.{HasCountingPlan}
use Rattle.machine_events.specs.declared.event.Stage.{Stage}
use Rattle.machine_events.specs.Configurations.{System, Standing, StandsAt, put, guard_of, block_condition, waited_condition}
use Rattle.machine_events.specs.declared.event.Stage.TheVariants.{Idle, Entering, Waiting, Woken, Inside, Notifying}
use Rattle.machine_events.specs.Events.{NoneWaits}
use Rattle.machine_events.specs.Pending.{IsSystem, IsPending, announces, sees_to}
use Rattle.machine_events.proofs.Facing.{guard_is, condition_is, own_guard}
use Rattle.machine_events.proofs.Counting.{measure_of, someone_sees}
use Rattle.machine_events.proofs.Covered.{MayStep, kept_next, condition_truth_is, signal_guard, leaves_pending, returns_pending, wakes_pending}
use Rattle.emit_code.specs.Code.{Op, is_waited_on, signal_on, overflow_notes, telling_code}
use Rattle.emit_code.specs.Code.Op.{Lock, WaitUntil, ElseRefuse, Run, Notify, Unlock, Release}
use Rattle.emit_code.specs.Executions.{Position, Frame, Thread, Moment, IsThread, goes, program_with, is_open, continues, recovers, is_made, NoneSleeps, AreNotified, is_called_for, untested, called_for, start, RunsBody, IsMove, Executes}
use Rattle.emit_code.specs.Executions.Position.{Outside, At, Asleep, Notified}
use Rattle.emit_code.specs.Executions.IsMove.{calls, takes, passes, falls_asleep, wakes, retakes, refuses, abandons, runs_body, panics, notifies, unlocks, releases, returns}
use Rattle.emit_code.specs.Executions.Executes.{none_yet, one_more}
use Rattle.emit_code.specs.Sleepers.{SleepersAreCounted}
use Rattle.emit_code.specs.Orders.{notes_to_come, IsTestable, HasAllNotes, IsTold}
use Rattle.emit_code.specs.Laws.{Leads, NobodyIsOwed, SomeoneSees, SleepersAreSeenTo}
use Rattle.emit_code.proofs.Views.{next_block, place_by, place_at, stage_at, stage_of, stand, standings, stands, stands_from, goes_here, goes_unseen, goes_seen, all_woken, sleeps_from}
use Rattle.emit_code.proofs.Parts.{refuses_in, IsAt, waited_numbered, call_code, told_code, block_is, condition_at, open_is_guard, some_block, inside_locked, never, follows_locked, called_next, called_any, telling_notes, again_next, again_notes, tells_stage}
use Rattle.emit_code.proofs.Placed.{Loops, ArePlaced, IsSoundly, fits_there, faced_there, moment, code_is, passed_at, continues_tells, panic_tells, after_note, after_unlock, after_release, all_first, shape_of, start_position}
use Rattle.emit_code.proofs.Counting.{asleep_counts, counted_late}
use Rattle.emit_code.proofs.Running.{begins_here, continues_so, BodyAt, body_at, sound_late}
use Rattle.emit_code.proofs.Pending.{WaitWell, enters_late, stays_late, refused_late, run_late, passes_late, releases_late, made_where_true, broadcasts_late, signals_late}

-- what each move keeps under a lawful plan
pub record AreCovered (system : System) (state : List Value) (threads : List Thread) : Type 0 where
  pub invariant : AllHold state system.plan.kept
  pub pending : IsPending system state (standings system threads)

abbrev pub IsCoveredLate : System → Moment → Type 0
IsCoveredLate system now = AreCovered system now.state now.threads

covered_as : (system : System) (state : List Value) (holder : Option ℕ) (ran : List Commit) (threads : List Thread) (some : List Standing) → standings system threads ≡ some → AllHold state system.plan.kept
    → IsPending system state some → IsCoveredLate system (moment state holder ran threads)
covered_as system state holder ran threads some is invariant pending = record { invariant = invariant; pending = subst (IsPending system state) (sym is) pending }

-- ---- those that sleep

-- who is in the loop of a block waits on a condition
loop_numbered : (system : System) (told : ℕ → List Op) (timed : ℕ → ℕ → Bool) (thread past block condition : ℕ) (rest : List Op) → Loops system told timed thread past block condition rest → 1 ≤ condition
loop_numbered system told timed thread past block condition rest loops =
    waited_numbered system.monitor condition (ap (is_waited_on system.monitor) loops.condition_is ∙ loops.waited_on)

pub well : (system : System) (told : ℕ → List Op) (timed : ℕ → ℕ → Bool) (now : Moment) → IsSystem system → IsSoundly system told timed now → WaitWell system (standings system now.threads)
well system told timed now is sound = record {
  fits = λ client place condition at.
      let sleeps = sleeps_from system now.threads client place condition at in
      subst (FitsPlace system.monitor system.clients client) sleeps.place_is (fits_there system told timed now is sound client sleeps.frame (Asleep sleeps.block condition sleeps.rest) sleeps.at);
  busy = λ client place condition at.
      let sleeps = sleeps_from system now.threads client place condition at in
      let loops = sound.placed client sleeps.frame (Asleep sleeps.block condition sleeps.rest) sleeps.at in
      subst (λ (one : Place). one.past < length (calls_of system.clients client)) sleeps.place_is (slice_get_within (calls_of system.clients client) sleeps.frame.past loops.call loops.at.call_is);
  waits = λ client place condition at.
      let sleeps = sleeps_from system now.threads client place condition at in
      let loops = sound.placed client sleeps.frame (Asleep sleeps.block condition sleeps.rest) sleeps.at in
      loops.condition_is ∙ sym (condition_at system client sleeps.frame loops.call sleeps.block (suc loops.left) loops.at) ∙ ap (waited_condition system client) sleeps.place_is;
  numbered = λ client place condition at.
      let sleeps = sleeps_from system now.threads client place condition at in
      loop_numbered system told timed client sleeps.frame.past sleeps.block condition sleeps.rest (sound.placed client sleeps.frame (Asleep sleeps.block condition sleeps.rest) sleeps.at);
}

-- where one sleeps on the condition of a thread's block, an overflow of that signals it
own_told : (system : System) (told : ℕ → List Op) (timed : ℕ → ℕ → Bool) (now : Moment) → ArePlaced system told timed now → (thread : ℕ) (frame : Frame) (call : Call) (block left : ℕ) → IsAt system thread frame.past call block left
    → (who : ℕ) (others_place : Place) → StandsAt (standings system now.threads) who others_place (Waiting (waited_condition system thread (place_by system thread frame (Some block))))
    → has_note (overflow_notes system.monitor block) (waited_condition system thread (place_by system thread frame (Some block))) ≡ true
own_told system told timed now placed thread frame call block left at who others_place waits =
    let condition = waited_condition system thread (place_by system thread frame (Some block)) in
    let sleeps = sleeps_from system now.threads who others_place condition waits in
    let loops = placed who sleeps.frame (Asleep sleeps.block condition sleeps.rest) sleeps.at in
    let own : condition ≡ block_condition system.monitor block = condition_at system thread frame call block left at in
    let waited : is_waited_on system.monitor (block_condition system.monitor block) ≡ true = ap (is_waited_on system.monitor) (sym own ∙ loops.condition_is) ∙ loops.waited_on in
    let is : overflow_notes system.monitor block ≡ signal_on (block_condition system.monitor block) ∷ [] =
    ap (λ (test : Bool). cond test (signal_on (block_condition system.monitor block) ∷ []) []) waited in
    ap (λ (some : List Note). has_note some condition) is
    ∙ or_left (block_condition system.monitor block == condition) false (eq-eqb (block_condition system.monitor block) condition (sym own))

-- ---- a body

-- it ran whole
whole_covered : (system : System) (told : ℕ → List Op) (timed : ℕ → ℕ → Bool) → HasCountingPlan system → IsTold system told → (now : Moment) → IsSoundly system told timed now → IsCoveredLate system now
    → (thread : ℕ) (frame : Frame) (number : ℕ) (otherwise : List Note) (rest : List Op) (reply : Reply) (state locals : List Value) (ran : List Commit)
    → IsThread now.threads thread frame (At (Run number otherwise ∷ rest)) → (body : BodyAt system told timed now thread frame number otherwise rest reply state locals)
    → state ≡ (after (given body.call.inputs frame.locals) body.here.block.body now.state).state → continues reply otherwise rest ≡ told_code system told number body.left
    → stage_at (At (continues reply otherwise rest)) ≡ Notifying (notes_to_come (continues reply otherwise rest))
    → IsCoveredLate system (moment state now.holder ran (goes now.threads thread (record { past = frame.past; locals = locals; answer = reply }) (At (continues reply otherwise rest))))
whole_covered system told timed set order now sound covered thread frame number otherwise rest reply state locals ran at body state_is ops_are stage_is =
    let place = place_by system thread frame (Some number) in
    let ops = continues reply otherwise rest in
    let faced = body.here.faced in
    let new_frame : Frame = record { past = frame.past; locals = locals; answer = reply } in
    let steps : MayStep system thread place body.call body.here.block now.state = record {
      faced = faced;
      run = record {
        rule = set.is.rule;
        candidates = set.is.plan.kept;
        is = faced.block_is;
        fits = (run_fits system.monitor system.clients now.ran _ set.is.rule set.is.scripts sound.run).state;
        inputs_fit = faced.fits_inputs;
        guard = sym (guard_is system now.state thread place body.call body.here.block faced) ∙ body.open_is;
        kept_hold = covered.invariant;
      };
    } in
    let follows = follows_locked system told (number + 1) body.left (told number) (order.shape number) in
    let told_notes : notes_to_come ops ≡ notes_to_come (told number) = ap notes_to_come ops_are ∙ follows.notes in
    let all : HasAllNotes system (block_at system.monitor body.call place) (notes_to_come ops) =
    subst (λ (one : ℕ). HasAllNotes system one (notes_to_come ops)) (sym (block_is system thread frame body.call number (suc body.left) body.at))
    (subst (HasAllNotes system number) (sym told_notes) (order.notes number)) in
    covered_as system state now.holder ran (goes now.threads thread new_frame (At ops)) (put (standings system now.threads) thread (place_at system thread new_frame (At ops)) (Notifying (notes_to_come ops)))
    (goes_here system now.threads thread new_frame (At ops) (place_at system thread new_frame (At ops)) (Notifying (notes_to_come ops)) refl stage_is)
    (subst (λ (one : List Value). AllHold one system.plan.kept) (sym state_is) (kept_next system set thread place body.call body.here.block now.state steps))
    (run_late system set now.state state (standings system now.threads) thread place (place_at system thread new_frame (At ops)) body.call body.here.block (notes_to_come ops) steps
    (stands system now.threads thread frame (At (Run number otherwise ∷ rest)) at) covered.pending (well system told timed now set.is sound) all state_is)

-- it overflowed
overflow_covered : (system : System) (told : ℕ → List Op) (timed : ℕ → ℕ → Bool) → (now : Moment) → IsSoundly system told timed now → IsCoveredLate system now
    → (thread : ℕ) (frame : Frame) (number : ℕ) (otherwise : List Note) (rest : List Op) (reply : Reply) (state locals : List Value) (ran : List Commit)
    → IsThread now.threads thread frame (At (Run number otherwise ∷ rest)) → (body : BodyAt system told timed now thread frame number otherwise rest reply state locals)
    → state ≡ now.state → continues reply otherwise rest ≡ telling_code otherwise
    → stage_at (At (continues reply otherwise rest)) ≡ Notifying (notes_to_come (continues reply otherwise rest))
    → IsCoveredLate system (moment state now.holder ran (goes now.threads thread (record { past = frame.past; locals = locals; answer = reply }) (At (continues reply otherwise rest))))
overflow_covered system told timed now sound covered thread frame number otherwise rest reply state locals ran at body state_is ops_are stage_is =
    let place = place_by system thread frame (Some number) in
    let ops = continues reply otherwise rest in
    let new_frame : Frame = record { past = frame.past; locals = locals; answer = reply } in
    let noted : notes_to_come ops ≡ overflow_notes system.monitor number = ap notes_to_come ops_are ∙ telling_notes otherwise ∙ body.otherwise_is in
    let goes_to = place_at system thread new_frame (At ops) in
    covered_as system state now.holder ran (goes now.threads thread new_frame (At ops)) (put (standings system now.threads) thread goes_to (Notifying (notes_to_come ops)))
    (goes_here system now.threads thread new_frame (At ops) goes_to (Notifying (notes_to_come ops)) refl stage_is)
    (subst (λ (one : List Value). AllHold one system.plan.kept) (sym state_is) covered.invariant)
    (subst (λ (one : List Value). IsPending system one (put (standings system now.threads) thread goes_to (Notifying (notes_to_come ops)))) (sym state_is)
    (stays_late system now.state (standings system now.threads) thread place goes_to (notes_to_come ops) (stands system now.threads thread frame (At (Run number otherwise ∷ rest)) at) covered.pending
    (λ who others_place waits kind holds.
    ap (λ (some : List Note). has_note some (waited_condition system thread place)) noted
    ∙ own_told system told timed now sound.placed thread frame body.call number (suc body.left) body.at who others_place waits)))

body_covered : (system : System) (told : ℕ → List Op) (timed : ℕ → ℕ → Bool) → HasCountingPlan system → IsTold system told → (thread : ℕ) (frame : Frame) (before next : Moment) → IsSoundly system told timed before
    → IsCoveredLate system before → RunsBody (program_with system told timed) thread frame before next → IsCoveredLate system next
body_covered system told timed set order thread frame before next sound covered move =
    let body = body_at system told timed set.is thread frame before next sound move in
    let tells = continues_tells system told timed order before.holder thread frame.past body.call move.block body.left body.at body.held_by move.reply move.otherwise move.rest body.otherwise_is body.rest_is in
    let stage = tells_stage (continues move.reply move.otherwise move.rest) (shape_of tells) in
    subst (IsCoveredLate system) (sym move.becomes) (elim body.steps [
      | inl all ↦ whole_covered system told timed set order before sound covered thread frame move.block move.otherwise move.rest move.reply move.state move.locals before.ran move.at body
          (ap (λ (memory : Memory). memory.state) all.2)
          (ap (λ (one : Reply). continues one move.otherwise move.rest) all.1 ∙ continues_so _ move.otherwise move.rest ∙ body.rest_is) stage
      | inr over ↦ overflow_covered system told timed before sound covered thread frame move.block move.otherwise move.rest move.reply move.state move.locals before.ran move.at body
          (ap (λ (memory : Memory). memory.state) over.2) (ap (λ (one : Reply). continues one move.otherwise move.rest) over.1) stage
    ])

-- ---- a note

none_waits_late : (system : System) (threads : List Thread) (condition : ℕ) → NoneSleeps threads condition → NoneWaits (standings system threads) condition
none_waits_late system threads condition none client place at =
    let sleeps = sleeps_from system threads client place condition at in
    none client sleeps.frame sleeps.block sleeps.rest sleeps.at

noted_pending : (system : System) (told : ℕ → List Op) (timed : ℕ → ℕ → Bool) (now : Moment) (note : Note) (more : List Note) (woken : List Thread) (thread : ℕ) (place : Place) → IsSystem system → IsSoundly system told timed now
    → IsTestable system.monitor note → StandsAt (standings system now.threads) thread place (Notifying (note ∷ more)) → AreNotified (program_with system told timed) now note woken
    → IsPending system now.state (standings system now.threads) → IsPending system now.state (put (standings system woken) thread place (Notifying more))
noted_pending system told timed now note more woken thread place is sound plain at (inl first) pending =
    subst (λ (some : List Standing). IsPending system now.state (put some thread place (Notifying more)))
    (sym (ap (standings system) first.becomes ∙ goes_seen system now.threads first.target first.target_frame (Notified first.block note.condition first.rest)))
    (signals_late system now.state (standings system now.threads) thread place note more first.target (place_by system first.target first.target_frame (Some first.block)) at first.one
    (stands system now.threads first.target first.target_frame (Asleep first.block note.condition first.rest) first.sleeps) pending)
noted_pending system told timed now note more woken thread place is sound plain at (inr (inl each)) pending =
    subst (λ (some : List Standing). IsPending system now.state (put some thread place (Notifying more))) (sym (ap (standings system) each.becomes ∙ all_woken system note.condition now.threads))
    (broadcasts_late system now.state (standings system now.threads) thread place note more at pending)
noted_pending system told timed now note more woken thread place is sound plain at (inr (inr nobody)) pending =
    subst (λ (some : List Standing). IsPending system now.state (put some thread place (Notifying more))) (sym (ap (standings system) nobody.becomes))
    (passes_late system is now.state (standings system now.threads) (well system told timed now is sound) thread place note more plain at (elim nobody.nobody [
      | inl still ↦ inl still
      | inr asleep ↦ inr (asleep.0, none_waits_late system now.threads note.condition asleep.1)
    ]) pending)

-- ---- the mutex is given back

-- a note on a condition on which someone waits with a true guard is called for
called_one : (system : System) (told : ℕ → List Op) (timed : ℕ → ℕ → Bool) (now : Moment) → IsSystem system → IsSoundly system told timed now → SleepersAreCounted now → (who : ℕ) (others_place : Place) (condition : ℕ)
    → StandsAt (standings system now.threads) who others_place (Waiting condition) → (guard_of system now.state who others_place ≡ true) ⊎ (condition_truth system.monitor now.state condition ≡ true)
    → (note : Note) → IsTestable system.monitor note → note.condition ≡ condition → is_called_for (program_with system told timed) now note ≡ true
called_one system told timed now is sound counted who others_place condition waits holds note plain own =
    let sleeps = sleeps_from system now.threads who others_place condition waits in
    let some = asleep_counts now.threads who sleeps.frame sleeps.block condition sleeps.rest sleeps.at in
    let kept = counted condition in
    let not_none : now.asleep note.condition ≡ 0 → ⊥ = λ none.
    let zero_there : now.asleep condition ≡ 0 = ap now.asleep (sym own) ∙ none in
    omega (arith, some, kept, zero_there) in
    and_from (not (now.asleep note.condition == 0)) (is_made (program_with system told timed) now.state note)
    (not_from_false (now.asleep note.condition == 0) (ne_eqb (now.asleep note.condition) 0 not_none))
    (made_where_true system is now.state (standings system now.threads) (well system told timed now is sound) note plain who others_place
    (subst (λ (one : ℕ). StandsAt (standings system now.threads) who others_place (Waiting one)) (sym own) waits)
    (subst (λ (one : ℕ). (guard_of system now.state who others_place ≡ true) ⊎ (condition_truth system.monitor now.state one ≡ true)) (sym own) holds))

called_each : (system : System) (told : ℕ → List Op) (timed : ℕ → ℕ → Bool) (now : Moment) (condition : ℕ) (t : Note → Bool)
    → ((note : Note) → IsTestable system.monitor note → t note ≡ true → (is_called_for (program_with system told timed) now note ≡ true) × (t (untested note) ≡ true))
    → (notes : List Note) → All (IsTestable system.monitor) notes
    → All (λ note. t note ≡ true → (is_called_for (program_with system told timed) now note ≡ true) × (t (untested note) ≡ true)) notes
called_each system told timed now condition t one [] plain = All-nil (λ (note : Note). t note ≡ true → (is_called_for (program_with system told timed) now note ≡ true) × (t (untested note) ≡ true))
called_each system told timed now condition t one (note ∷ notes) plain =
    All-cons (λ (note : Note). t note ≡ true → (is_called_for (program_with system told timed) now note ≡ true) × (t (untested note) ≡ true)) note notes
    (one note (All-head (IsTestable system.monitor) note notes plain)) (called_each system told timed now condition t one notes (All-tail (IsTestable system.monitor) note notes plain))

released_pending : (system : System) (told : ℕ → List Op) (timed : ℕ → ℕ → Bool) (now : Moment) (notes : List Note) (rest : List Op) (thread : ℕ) (place : Place) → IsSystem system → IsSoundly system told timed now → SleepersAreCounted now
    → All (IsTestable system.monitor) notes → StandsAt (standings system now.threads) thread place (Notifying (notes ++ notes_to_come rest))
    → IsPending system now.state (standings system now.threads)
    → IsPending system now.state (put (standings system now.threads) thread place (Notifying (notes_to_come (called_for (program_with system told timed) now notes rest))))
released_pending system told timed now notes rest thread place is sound counted plain at pending =
    releases_late system now.state (standings system now.threads) thread place (notes ++ notes_to_come rest) (notes_to_come (called_for (program_with system told timed) now notes rest)) at
    (λ who others_place condition waits holds. (
      called_any (λ note. note.condition == condition) (program_with system told timed) now notes rest
          (called_each system told timed now condition (λ note. note.condition == condition)
          (λ note testable own. (called_one system told timed now is sound counted who others_place condition waits holds note testable (eqb-true note.condition condition own), own)) notes plain),
      called_any (λ note. note.condition == condition && note.all) (program_with system told timed) now notes rest
          (called_each system told timed now condition (λ note. note.condition == condition && note.all)
          (λ note testable own.
          (called_one system told timed now is sound counted who others_place condition waits holds note testable (eqb-true note.condition condition (and_parts (note.condition == condition) note.all own).0), own))
          notes plain),
    )) pending

-- ---- a refusal

-- It makes no note: its guard is false.
refused_covered : (system : System) (told : ℕ → List Op) (timed : ℕ → ℕ → Bool) → HasCountingPlan system → (now : Moment) → IsSoundly system told timed now → IsCoveredLate system now
    → (thread : ℕ) (frame : Frame) (op : Op) (rest : List Op) (call : Call) (block left : ℕ) (ran : List Commit) → IsAt system thread frame.past call block left
    → is_open (program_with system told timed) now.state thread frame block ≡ false → IsThread now.threads thread frame (At (op ∷ rest))
    → next_block (op ∷ rest) ≡ Some block → stage_at (At (op ∷ rest)) ≡ Inside
    → IsCoveredLate system (moment now.state now.holder ran (goes now.threads thread (record { past = frame.past; locals = frame.locals; answer = replies.Refused }) (At (Unlock ∷ []))))
refused_covered system told timed set now sound covered thread frame op rest call block left ran at closed_is there next_is inside_is =
    let place = place_by system thread frame (Some block) in
    let goes_to = first_place system.monitor system.clients thread (frame.past + 1) in
    let refused : Frame = record { past = frame.past; locals = frame.locals; answer = replies.Refused } in
    let place_is : place_at system thread frame (At (op ∷ rest)) ≡ place = ap (place_by system thread frame) next_is in
    let here = faced_there system told timed now set.is sound thread frame (At (op ∷ rest)) there call block left place_is at in
    let closed : guard_of system now.state thread place ≡ false = sym (open_is_guard system told timed now.state thread frame call block left at) ∙ closed_is in
    let stood : StandsAt (standings system now.threads) thread place Inside =
    stands system now.threads thread frame (At (op ∷ rest)) there ∙ (λ i. Some (stand (place_is i) (inside_is i))) in
    covered_as system now.state now.holder ran (goes now.threads thread refused (At (Unlock ∷ []))) (put (standings system now.threads) thread goes_to (Notifying []))
    (goes_seen system now.threads thread refused (At (Unlock ∷ []))) covered.invariant
    (refused_late system set now.state (standings system now.threads) thread place goes_to call here.block here.faced closed stood covered.pending (well system told timed now set.is sound))

-- ---- each move

move_covered : (system : System) (told : ℕ → List Op) (timed : ℕ → ℕ → Bool) → HasCountingPlan system → IsTold system told → (before next : Moment) → IsSoundly system told timed before → SleepersAreCounted before → IsCoveredLate system before
    → IsMove (program_with system told timed) before next → IsCoveredLate system next
move_covered system told timed set order before next sound counted covered (calls thread frame move) =
    let some = some_block system thread frame.past move.call set.is move.call_is in
    let code = call_code system told timed thread frame.past move.call in
    let begun : Frame = record { past = frame.past; locals = locals_in (slice_get system.monitor.methods move.call.method); answer = replies.Unit } in
    subst (IsCoveredLate system) (sym move.becomes)
    (covered_as system before.state before.holder before.ran (goes before.threads thread begun (At code)) (standings system before.threads)
    (goes_unseen system before.threads thread frame begun Outside (At code) move.outside (begins_here system told timed thread frame move.call set.is move.call_is replies.Unit)
    (ap (λ (ops : List Op). stage_at (At ops)) (code_is system told timed thread frame.past move.call some.0 some.1)))
    covered.invariant covered.pending)
move_covered system told timed set order before next sound counted covered (takes thread frame move) =
    let enters = sound.placed thread frame (At (Lock ∷ move.rest)) move.at in
    let place = place_at system thread frame (At (Lock ∷ move.rest)) in
    subst (IsCoveredLate system) (sym move.becomes)
    (covered_as system before.state (Some thread) before.ran (goes before.threads thread frame (At move.rest)) (put (standings system before.threads) thread place Inside)
    (goes_here system before.threads thread frame (At move.rest) place Inside refl
    (ap (λ (ops : List Op). stage_at (At ops)) enters.rest_is ∙ inside_locked system told (refuses_in system timed thread frame.past enters.call enters.block) enters.block enters.left))
    covered.invariant (enters_late system before.state (standings system before.threads) thread place (stands system before.threads thread frame (At (Lock ∷ move.rest)) move.at) covered.pending))
move_covered system told timed set order before next sound counted covered (passes thread frame move) =
    let passed = passed_at system told timed before sound.placed thread frame move.op move.block move.rest move.at move.tests in
    subst (IsCoveredLate system) (sym move.becomes)
    (covered_as system before.state before.holder before.ran (goes before.threads thread frame (At move.rest)) (standings system before.threads)
    (goes_unseen system before.threads thread frame frame (At (move.op ∷ move.rest)) (At move.rest) move.at
    (ap (λ (ops : List Op). place_by system thread frame (next_block ops)) passed.rest_is ∙ sym (ap (place_by system thread frame) passed.next_is))
    (ap (λ (ops : List Op). stage_at (At ops)) passed.rest_is ∙ sym passed.inside_is))
    covered.invariant covered.pending)
move_covered system told timed set order before next sound counted covered (falls_asleep thread frame move) =
    let loops = (sound.placed thread frame (At (WaitUntil move.block move.condition ∷ move.rest)) move.at).1 in
    let place = place_by system thread frame (Some move.block) in
    let here = faced_there system told timed before set.is sound thread frame (At (WaitUntil move.block move.condition ∷ move.rest)) move.at loops.call move.block (suc loops.left) refl loops.at in
    let waited : move.condition ≡ waited_condition system thread place = loops.condition_is ∙ sym (condition_at system thread frame loops.call move.block (suc loops.left) loops.at) in
    let closed : guard_of system before.state thread place ≡ false = sym (open_is_guard system told timed before.state thread frame loops.call move.block (suc loops.left) loops.at) ∙ move.closed_is in
    subst (IsCoveredLate system) (sym move.becomes)
    (covered_as system before.state None before.ran (goes before.threads thread frame (Asleep move.block move.condition move.rest)) (put (standings system before.threads) thread place (Waiting (waited_condition system thread place)))
    (goes_here system before.threads thread frame (Asleep move.block move.condition move.rest) place (Waiting (waited_condition system thread place)) refl (ap Waiting waited))
    covered.invariant
    (leaves_pending system set before.state (standings system before.threads) thread place loops.call here.block here.faced
    (subst (λ (one : ℕ). 1 ≤ one) (waited ∙ condition_is system thread place loops.call here.block here.faced) (loop_numbered system told timed thread frame.past move.block move.condition move.rest loops))
    (stands system before.threads thread frame (At (WaitUntil move.block move.condition ∷ move.rest)) move.at) closed covered.pending))
move_covered system told timed set order before next sound counted covered (wakes thread frame move) =
    let place = place_by system thread frame (Some move.block) in
    subst (IsCoveredLate system) (sym move.becomes)
    (covered_as system before.state before.holder before.ran (goes before.threads thread frame (Notified move.block move.condition move.rest)) (put (standings system before.threads) thread place (Woken move.condition))
    (goes_seen system before.threads thread frame (Notified move.block move.condition move.rest)) covered.invariant
    (wakes_pending system before.state (standings system before.threads) thread place move.condition (stands system before.threads thread frame (Asleep move.block move.condition move.rest) move.at) covered.pending))
move_covered system told timed set order before next sound counted covered (retakes thread frame move) =
    let loops = sound.placed thread frame (Notified move.block move.condition move.rest) move.at in
    let place = place_by system thread frame (Some move.block) in
    subst (IsCoveredLate system) (sym move.becomes)
    (covered_as system before.state (Some thread) before.ran (goes before.threads thread frame (At (WaitUntil move.block move.condition ∷ move.rest))) (put (standings system before.threads) thread place Inside)
    (goes_seen system before.threads thread frame (At (WaitUntil move.block move.condition ∷ move.rest))) covered.invariant
    (returns_pending system before.state (standings system before.threads) thread place move.condition (stands system before.threads thread frame (Notified move.block move.condition move.rest) move.at)
    (loops.condition_is ∙ sym (condition_at system thread frame loops.call move.block (suc loops.left) loops.at)) covered.pending))
move_covered system told timed set order before next sound counted covered (refuses thread frame move) =
    let trying = (sound.placed thread frame (At (ElseRefuse move.block ∷ move.rest)) move.at).1 in
    subst (IsCoveredLate system) (sym move.becomes)
    (refused_covered system told timed set before sound covered thread frame (ElseRefuse move.block) move.rest trying.call move.block (suc trying.left) before.ran trying.at move.closed_is move.at refl refl)
move_covered system told timed set order before next sound counted covered (abandons thread frame move) =
    let loops = (sound.placed thread frame (At (WaitUntil move.block move.condition ∷ move.rest)) move.at).1 in
    subst (IsCoveredLate system) (sym move.becomes)
    (refused_covered system told timed set before sound covered thread frame (WaitUntil move.block move.condition) move.rest loops.call move.block (suc loops.left) before.ran loops.at move.closed_is move.at refl refl)
move_covered system told timed set order before next sound counted covered (runs_body thread frame move) = body_covered system told timed set order thread frame before next sound covered move
move_covered system told timed set order before next sound counted covered (panics thread frame move) =
    let ready = sound.placed thread frame (At (Run move.block move.otherwise ∷ move.rest)) move.at in
    let place = place_by system thread frame (Some move.block) in
    let ops = recovers (program_with system told timed) thread frame move.block move.otherwise move.rest in
    let noted : notes_to_come ops ≡ overflow_notes system.monitor move.block = again_notes (program_with system told timed) thread frame move.block move.otherwise move.rest ∙ ready.1.otherwise_is in
    let tells = panic_tells system told timed before thread frame move.block move.otherwise move.rest ready in
    subst (IsCoveredLate system) (sym move.becomes)
    (covered_as system before.state before.holder before.ran (goes before.threads thread frame (At ops)) (put (standings system before.threads) thread place (Notifying (notes_to_come ops)))
    (goes_here system before.threads thread frame (At ops) place (Notifying (notes_to_come ops))
    (ap (place_by system thread frame) (again_next (program_with system told timed) thread frame move.block move.otherwise move.rest)) (tells_stage ops (shape_of tells))) covered.invariant
    (stays_late system before.state (standings system before.threads) thread place place (notes_to_come ops) (stands system before.threads thread frame (At (Run move.block move.otherwise ∷ move.rest)) move.at) covered.pending
    (λ who others_place waits kind holds.
    ap (λ (some : List Note). has_note some (waited_condition system thread place)) noted
    ∙ own_told system told timed before sound.placed thread frame ready.1.call move.block (suc ready.1.left) ready.1.at who others_place waits)))
move_covered system told timed set order before next sound counted covered (notifies thread frame move) =
    let tells = sound.placed thread frame (At (Notify move.note ∷ move.rest)) move.at in
    let later = after_note system told timed before.holder thread frame.past move.note move.rest tells in
    let place = place_by system thread frame (next_block move.rest) in
    subst (IsCoveredLate system) (sym move.becomes)
    (covered_as system before.state before.holder before.ran (goes move.woken thread frame (At move.rest)) (put (standings system move.woken) thread place (Notifying (notes_to_come move.rest)))
    (goes_here system move.woken thread frame (At move.rest) place (Notifying (notes_to_come move.rest)) refl (tells_stage move.rest (shape_of later))) covered.invariant
    (noted_pending system told timed before move.note (notes_to_come move.rest) move.woken thread place set.is sound
    (All-head (IsTestable system.monitor) move.note (notes_to_come move.rest) tells.plain)
    (stands system before.threads thread frame (At (Notify move.note ∷ move.rest)) move.at) move.notified covered.pending))
move_covered system told timed set order before next sound counted covered (unlocks thread frame move) =
    let ends = after_unlock system told timed before.holder thread frame.past move.rest (sound.placed thread frame (At (Unlock ∷ move.rest)) move.at) in
    subst (IsCoveredLate system) (sym move.becomes)
    (covered_as system before.state None before.ran (goes before.threads thread frame (At move.rest)) (standings system before.threads)
    (goes_unseen system before.threads thread frame frame (At (Unlock ∷ move.rest)) (At move.rest) move.at refl (tells_stage move.rest (shape_of ends.1))) covered.invariant covered.pending)
move_covered system told timed set order before next sound counted covered (releases thread frame move) =
    let tells = sound.placed thread frame (At (Release move.notes ∷ move.rest)) move.at in
    let ends = after_release system told timed before before.holder thread frame.past move.notes move.rest tells in
    let ops = called_for (program_with system told timed) before move.notes move.rest in
    let place = place_by system thread frame (next_block move.rest) in
    subst (IsCoveredLate system) (sym move.becomes)
    (covered_as system before.state None before.ran (goes before.threads thread frame (At ops)) (put (standings system before.threads) thread place (Notifying (notes_to_come ops)))
    (goes_here system before.threads thread frame (At ops) place (Notifying (notes_to_come ops)) (ap (place_by system thread frame) (called_next (program_with system told timed) before move.notes move.rest))
    (tells_stage ops (shape_of ends.1))) covered.invariant
    (released_pending system told timed before move.notes move.rest thread place set.is sound counted (all_first (IsTestable system.monitor) move.notes (notes_to_come move.rest) tells.plain)
    (stands system before.threads thread frame (At (Release move.notes ∷ move.rest)) move.at) covered.pending))
move_covered system told timed set order before next sound counted covered (returns thread frame move) =
    let returned : Frame = record { past = frame.past + 1; locals = frame.locals; answer = frame.answer } in
    subst (IsCoveredLate system) (sym move.becomes)
    (covered_as system before.state before.holder before.ran (goes before.threads thread returned Outside) (standings system before.threads)
    (goes_unseen system before.threads thread frame returned (At []) Outside move.at refl refl) covered.invariant covered.pending)

-- ---- executions

asleep_never : (block condition : ℕ) (rest : List Op) → Asleep block condition rest ≡ Outside → ⊥
asleep_never block condition rest is = cc is

start_covered : (system : System) (told : ℕ → List Op) (timed : ℕ → ℕ → Bool) → HasCountingPlan system → IsCoveredLate system (start (program_with system told timed))
start_covered system told timed set = record {
  invariant = set.lawful.inductive.starts (start_of system.monitor) set.is.rule.opens;
  pending = record {
    broadcasts = λ client place condition at kind holds. absurd (none_sleeps client place condition at);
    signals = λ client place condition at kind measure counts. absurd (none_sleeps client place condition at);
  };
}
  where
    none_sleeps : (client : ℕ) (place : Place) (condition : ℕ) → StandsAt (standings system (start (program_with system told timed)).threads) client place (Waiting condition) → ⊥
    none_sleeps client place condition at =
        let sleeps = sleeps_from system (start (program_with system told timed)).threads client place condition at in
        asleep_never sleeps.block condition sleeps.rest (start_position system.clients client sleeps.frame (Asleep sleeps.block condition sleeps.rest) sleeps.at).1

pub covered_late : (system : System) (told : ℕ → List Op) (timed : ℕ → ℕ → Bool) → HasCountingPlan system → IsTold system told → (last : Moment) → Executes (program_with system told timed) (start (program_with system told timed)) last
    → IsCoveredLate system last
covered_late system told timed set order last none_yet = start_covered system told timed set
covered_late system told timed set order last (one_more middle end so_far move) =
    move_covered system told timed set order middle end (sound_late system told timed set.is order middle so_far) (counted_late system told timed middle so_far) (covered_late system told timed set order middle so_far) move

-- ---- who sees to a condition

sees_by_broadcast : (notes : List Note) (condition : ℕ) → has_broadcast notes condition ≡ true → has_note notes condition ≡ true
sees_by_broadcast [] condition is = is
sees_by_broadcast (note ∷ notes) condition is = elim (or_cases (note.condition == condition && note.all) (has_broadcast notes condition) is) [
  | inl here ↦ or_left (note.condition == condition) (has_note notes condition) (and_parts (note.condition == condition) note.all here).0
  | inr later ↦ or_right (note.condition == condition) (has_note notes condition) (sees_by_broadcast notes condition later)
]

announcing_sees : (system : System) (client : ℕ) (place : Place) (stage : Stage (List Note)) (condition : ℕ) → announces stage condition ≡ true → sees_to system client place stage condition ≡ true
announcing_sees system client place Idle condition is = never is
announcing_sees system client place Entering condition is = never is
announcing_sees system client place (Waiting on) condition is = never is
announcing_sees system client place (Woken on) condition is = never is
announcing_sees system client place Inside condition is = never is
announcing_sees system client place (Notifying notes) condition is = sees_by_broadcast notes condition is

someone_at : (system : System) (told : ℕ → List Op) (timed : ℕ → ℕ → Bool) (now : Moment) → ArePlaced system told timed now → now.holder ≡ None → (other : ℕ) (frame : Frame) (position : Position) (condition : ℕ) (place : Place)
    → IsThread now.threads other frame position → sees_to system other place (stage_at position) condition ≡ true → SomeoneSees now condition
someone_at system told timed now placed free other frame Outside condition place at is = never is
someone_at system told timed now placed free other frame (At []) condition place at is = never is
someone_at system told timed now placed free other frame (At (Lock ∷ rest)) condition place at is = never is
someone_at system told timed now placed free other frame (At (WaitUntil block on ∷ rest)) condition place at is = absurd (none-some other (sym free ∙ (placed other frame (At (WaitUntil block on ∷ rest)) at).0))
someone_at system told timed now placed free other frame (At (ElseRefuse block ∷ rest)) condition place at is = absurd (none-some other (sym free ∙ (placed other frame (At (ElseRefuse block ∷ rest)) at).0))
someone_at system told timed now placed free other frame (At (Run block otherwise ∷ rest)) condition place at is = absurd (none-some other (sym free ∙ (placed other frame (At (Run block otherwise ∷ rest)) at).0))
someone_at system told timed now placed free other frame (At (Notify note ∷ rest)) condition place at is = inr (other, frame, Notify note ∷ rest, at, is)
someone_at system told timed now placed free other frame (At (Unlock ∷ rest)) condition place at is = inr (other, frame, Unlock ∷ rest, at, is)
someone_at system told timed now placed free other frame (At (Release notes ∷ rest)) condition place at is = inr (other, frame, Release notes ∷ rest, at, is)
someone_at system told timed now placed free other frame (Asleep block on rest) condition place at is = never is
someone_at system told timed now placed free other frame (Notified block on rest) condition place at is =
    inl (other, frame, block, rest, subst (λ (one : ℕ). IsThread now.threads other frame (Notified block one rest)) (eqb-true on condition is) at)

someone : (system : System) (told : ℕ → List Op) (timed : ℕ → ℕ → Bool) (now : Moment) → ArePlaced system told timed now → now.holder ≡ None → (condition other : ℕ) (place : Place) (stage : Stage (List Note))
    → StandsAt (standings system now.threads) other place stage → sees_to system other place stage condition ≡ true → SomeoneSees now condition
someone system told timed now placed free condition other place stage at is =
    let found = stands_from system now.threads other place stage at in
    someone_at system told timed now placed free other found.0.frame found.0.position condition place found.1
    (subst (λ (one : Stage (List Note)). sees_to system other place one condition ≡ true) (sym (ap stage_of found.2)) is)

by_kind : (system : System) (told : ℕ → List Op) (timed : ℕ → ℕ → Bool) → HasCountingPlan system → (now : Moment) → IsSoundly system told timed now → IsCoveredLate system now → now.holder ≡ None
    → (thread : ℕ) (frame : Frame) (block condition : ℕ) (rest : List Op) → IsThread now.threads thread frame (Asleep block condition rest)
    → is_open (program_with system told timed) now.state thread frame block ≡ true → (kind : CondKind) → condition_kind system.plan condition ≡ Some kind → SomeoneSees now condition
by_kind system told timed set now sound covered free thread frame block condition rest at holds kinds.Broadcast kind =
    let loops = sound.placed thread frame (Asleep block condition rest) at in
    let place = place_by system thread frame (Some block) in
    let open_is : guard_of system now.state thread place ≡ true = sym (open_is_guard system told timed now.state thread frame loops.call block (suc loops.left) loops.at) ∙ holds in
    let some = covered.pending.broadcasts thread place condition (stands system now.threads thread frame (Asleep block condition rest) at) kind open_is in
    someone system told timed now sound.placed free condition some.0 some.1 some.2 some.3 (announcing_sees system some.0 some.1 some.2 condition some.4)
by_kind system told timed set now sound covered free thread frame block condition rest at holds kinds.Signal kind =
    let loops = sound.placed thread frame (Asleep block condition rest) at in
    let place = place_by system thread frame (Some block) in
    let here = faced_there system told timed now set.is sound thread frame (Asleep block condition rest) at loops.call block (suc loops.left) refl loops.at in
    let open_is : guard_of system now.state thread place ≡ true = sym (open_is_guard system told timed now.state thread frame loops.call block (suc loops.left) loops.at) ∙ holds in
    let same : condition ≡ here.block.condition =
    loops.condition_is ∙ sym (condition_at system thread frame loops.call block (suc loops.left) loops.at) ∙ condition_is system thread place loops.call here.block here.faced in
    let numbered = subst (λ (one : ℕ). 1 ≤ one) same (loop_numbered system told timed thread frame.past block condition rest loops) in
    let own = own_guard system.monitor block here.block set.is.rule here.there numbered in
    let truth = ap (condition_truth system.monitor now.state) same
    ∙ signal_guard system set now.state thread place loops.call here.block here.faced numbered (subst (λ (one : ℕ). condition_kind system.plan one ≡ Some kinds.Signal) same kind) ∙ open_is in
    let counted = measure_of system set condition own.0 (subst (λ (one : ℕ). IsCondition system.monitor one own.0) (sym same) own.1.is) kind in
    elim (covered.pending.signals thread place condition (stands system now.threads thread frame (Asleep block condition rest) at) kind counted.0 counted.1) [
      | inl some ↦ someone system told timed now sound.placed free condition some.0 some.1 some.2 some.3 (announcing_sees system some.0 some.1 some.2 condition some.4)
      | inr enough ↦
          let some = someone_sees system now.state (standings system now.threads) condition counted.0 enough truth in
          someone system told timed now sound.placed free condition some.0 some.1 some.2 some.3 some.4
    ]

pub late_seen_to : (system : System) (told : ℕ → List Op) (timed : ℕ → ℕ → Bool) (last : Moment) → HasCountingPlan system → IsTold system told → Leads (program_with system told timed) last → SleepersAreSeenTo (program_with system told timed) last
late_seen_to system told timed last set order run free thread frame block condition rest at holds =
    let sound = sound_late system told timed set.is order last run in
    let loops = sound.placed thread frame (Asleep block condition rest) at in
    let place = place_by system thread frame (Some block) in
    let here = faced_there system told timed last set.is sound thread frame (Asleep block condition rest) at loops.call block (suc loops.left) refl loops.at in
    let same : condition ≡ here.block.condition =
    loops.condition_is ∙ sym (condition_at system thread frame loops.call block (suc loops.left) loops.at) ∙ condition_is system thread place loops.call here.block here.faced in
    let own = own_guard system.monitor block here.block set.is.rule here.there (subst (λ (one : ℕ). 1 ≤ one) same (loop_numbered system told timed thread frame.past block condition rest loops)) in
    let within = slice_get_within system.monitor.conditions (here.block.condition - 1) own.0 own.1.is.there in
    let kind = at_index system.plan.kinds (condition - 1) (omega (arith, set.is.plan.kinds, within, same)) in
    by_kind system told timed set last sound (covered_late system told timed set order last run) free thread frame block condition rest at holds kind.0 kind.1

-- ---- who gives up

-- where the guard of a condition reads no inputs, a block's guard is the condition's
own_truth : (system : System) (told : ℕ → List Op) (timed : ℕ → ℕ → Bool) → IsSystem system → (now : Moment) → IsSoundly system told timed now
    → (thread : ℕ) (frame : Frame) (position : Position) (block condition : ℕ) (rest : List Op) → IsThread now.threads thread frame position
    → place_at system thread frame position ≡ place_by system thread frame (Some block) → Loops system told timed thread frame.past block condition rest
    → (which : Condition) → IsCondition system.monitor condition which → reads_inputs which.guard ≡ false
    → condition_truth system.monitor now.state condition ≡ is_open (program_with system told timed) now.state thread frame block
own_truth system told timed is now sound thread frame position block condition rest at place_is loops which which_is none =
    let place = place_by system thread frame (Some block) in
    let here = faced_there system told timed now is sound thread frame position at loops.call block (suc loops.left) place_is loops.at in
    let inputs = inputs_at loops.call place in
    let same : condition ≡ here.block.condition =
    loops.condition_is ∙ sym (condition_at system thread frame loops.call block (suc loops.left) loops.at) ∙ condition_is system thread place loops.call here.block here.faced in
    let own = own_guard system.monitor block here.block is.rule here.there (subst (λ (one : ℕ). 1 ≤ one) same (loop_numbered system told timed thread frame.past block condition rest loops)) in
    let alike : which ≡ own.0 =
    same_Some which own.0 (sym which_is.there ∙ subst (λ (one : ℕ). slice_get system.monitor.conditions (one - 1) ≡ Some own.0) (sym same) own.1.is.there) in
    condition_truth_is system now.state inputs condition which which_is none
    ∙ ap (λ (one : Condition). truth_of (valuation now.state inputs) one.guard) alike
    ∙ ap (truth_of (valuation now.state inputs)) own.1.guard
    ∙ sym (guard_is system now.state thread place loops.call here.block here.faced)
    ∙ sym (open_is_guard system told timed now.state thread frame loops.call block (suc loops.left) loops.at)

pub nobody_owed : (system : System) (told : ℕ → List Op) (timed : ℕ → ℕ → Bool) (last : Moment) → IsSystem system → IsTold system told
    → Leads (program_with system told timed) last → NobodyIsOwed (program_with system told timed) last
nobody_owed system told timed last is order run thread frame next move which which_is none other others_frame block rest at =
    let sound = sound_late system told timed is order last run in
    let own = sound.placed thread frame (At (WaitUntil move.block move.condition ∷ move.rest)) move.at in
    let others = sound.placed other others_frame (Asleep block move.condition rest) at in
    sym (own_truth system told timed is last sound other others_frame (Asleep block move.condition rest) block move.condition rest at refl others which which_is none)
    ∙ own_truth system told timed is last sound thread frame (At (WaitUntil move.block move.condition ∷ move.rest)) move.block move.condition move.rest move.at refl own.1 which which_is none
    ∙ move.closed_is
