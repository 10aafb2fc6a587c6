-- What ran is a run of the implicit monitor, whatever the plan.
use Rattle.std.proofs.Common.{◌≡◌, ◌==◌, ℕ, zero, suc, ◌+◌, ◌-◌, Bool, true, false, cond, not, ◌||◌, List, [], ◌∷◌, ◌++◌, map, Option, Some, None, IsSomeAnd, refl, sym, ap, subst, ◌∙◌, arith, inl, inr}
use Rattle.std.specs.Prelude.{slice_get, option_map}
use Rattle.std.specs.Option.{option_map_or}
use Rattle.std.proofs.lemmas.Option.{same_Some, slice_get-map}
use Rattle.std.proofs.lemmas.Bool.{and_parts, eqb-true, le-leb, lt-leb}
use Rattle.lang_base.specs.declared.value.Value.{Value}
use Rattle.lang_base.specs.declared.value.Value.TheVariants as values
use Rattle.lang_monitor.specs.declared.monitor.Block.{Block}
use Rattle.lang_monitor.specs.MonitorParts.{locals_in}
use Rattle.lang_monitor.specs.Bodies.{memory_of, block_result}
use Rattle.machine_implicit.specs.declared.commit.Reply.{Reply}
use Rattle.machine_implicit.specs.declared.commit.Reply.TheVariants as replies
use Rattle.machine_implicit.specs.declared.script.Call.{Call}
use Rattle.machine_implicit.specs.declared.place.Place.{Place}
use Rattle.machine_implicit.specs.Steps.{BlockSteps, IsBlockStep, given}
use Rattle.machine_implicit.specs.Steps.{held, guard_truth, reply_of}
use Rattle.machine_implicit.specs.Scripted.{calls_of}
use Rattle.machine_implicit.specs.Places.{block_at, inputs_at, gives_up, is_last, first_place, next_place, IsStep}
use Rattle.machine_implicit.specs.Runs.{IsRun, IsNextCommit}
use Rattle.machine_implicit.specs.Runs.IsRunBy.{begun, stepped}
use Rattle.machine_events.specs.declared.plan.Note.{Note}
use Rattle.machine_events.specs.Configurations.{System, guard_of}
use Rattle.machine_events.specs.Pending.{IsSystem}
use Rattle.emit_code.specs.Code.{Op, overflow_notes, telling_code}
use Rattle.emit_code.specs.Code.Op.{Lock, WaitUntil, ElseRefuse, Run, Notify, Unlock, Release}
use Rattle.emit_code.specs.Executions.{Position, Frame, Thread, Moment, IsThread, goes, program_with, is_open, commit_of, continues, tries_there, recovers, woken_thread, AreNotified, called_for, start}
use Rattle.emit_code.specs.Executions.{RunsBody, IsMove, Executes}
use Rattle.emit_code.specs.Executions.Position.{Outside, At, Asleep, Notified}
use Rattle.emit_code.specs.Executions.IsMove.{calls, takes, passes, falls_asleep, wakes, retakes, refuses, abandons, runs_body, panics, notifies, unlocks, releases, returns}
use Rattle.emit_code.specs.Executions.Executes.{none_yet, one_more}
use Rattle.emit_code.specs.Orders.{IsTold}
use Rattle.emit_code.specs.Laws.{Leads, Ran}
use Rattle.emit_code.proofs.Lists.{set_other}
use Rattle.emit_code.proofs.Views.{next_block, number_at, place_by, place_at, place_of, place_there, places_go, same_places, standings, situation_at, all_woken_places, start_places}
use Rattle.emit_code.proofs.Parts.{first_of, count_of, tries_in, refuses_in, IsAt, call_code, later_code, told_code, Faced, number_is, block_is, tries_is, open_is_guard, some_block, next_locked, follows_locked, called_next, telling_next, again_next}
use Rattle.emit_code.proofs.Placed.{IsSoundly, faced_there, moment, code_is, passed_at, move_placed, start_placed}

-- ---- places that stay

quiet_run : (system : System) (now : Moment) (holder : Option ℕ) (threads : List Thread) → map place_of (standings system threads) ≡ map place_of (standings system now.threads)
    → IsRun system.monitor system.clients now.ran (situation_at system now) → IsRun system.monitor system.clients now.ran (situation_at system (moment now.state holder now.ran threads))
quiet_run system now holder threads same run = subst (λ (places : List Place). IsRun system.monitor system.clients now.ran (record { state = now.state; places = places })) (sym same) run

-- one thread goes, and is at the same place
pub goes_run : (system : System) (now : Moment) (holder : Option ℕ) (thread : ℕ) (frame new_frame : Frame) (position new_position : Position) → IsThread now.threads thread frame position
    → place_at system thread new_frame new_position ≡ place_at system thread frame position
    → IsRun system.monitor system.clients now.ran (situation_at system now) → IsRun system.monitor system.clients now.ran (situation_at system (moment now.state holder now.ran (goes now.threads thread new_frame new_position)))
goes_run system now holder thread frame new_frame position new_position at same run =
    quiet_run system now holder (goes now.threads thread new_frame new_position) (same_places system now.threads thread frame new_frame position new_position at same) run

-- a call begins at its first place
pub begins_here : (system : System) (told : ℕ → List Op) (timed : ℕ → ℕ → Bool) (thread : ℕ) (frame : Frame) (call : Call) → IsSystem system → slice_get (calls_of system.clients thread) frame.past ≡ Some call
    → (answer : Reply) → place_at system thread (record { past = frame.past; locals = locals_in (slice_get system.monitor.methods call.method); answer = answer }) (At (call_code system told timed thread frame.past call))
    ≡ place_at system thread frame Outside
begins_here system told timed thread frame call is call_is answer =
    let some = some_block system thread frame.past call is call_is in
    let first = first_of system call in
    let begun_frame : Frame = record { past = frame.past; locals = locals_in (slice_get system.monitor.methods call.method); answer = answer } in
    let at : IsAt system thread frame.past call first (suc some.0) = record { call_is = call_is; begins = omega arith; ends = ap (λ (count : ℕ). first + count) (sym some.1) } in
    let none : first - first ≡ 0 = omega arith in
    let number : number_at system thread frame.past first ≡ 0 = number_is system thread frame.past call first (suc some.0) at ∙ none in
    let locals : locals_in (slice_get system.monitor.methods call.method) ≡ (first_place system.monitor system.clients thread frame.past).locals =
    sym (ap (λ (one : Option Call). option_map_or (λ call. locals_in (slice_get system.monitor.methods call.method)) one []) call_is) in
    let next : next_block (call_code system told timed thread frame.past call) ≡ Some first =
    ap next_block (code_is system told timed thread frame.past call some.0 some.1) ∙ next_locked system told (refuses_in system timed thread frame.past call first) first some.0 in
    ap (place_by system thread begun_frame) next ∙ (λ i. record { past = frame.past; block = number i; locals = locals i })

-- who makes a note is where it was
pub noter_stays : (system : System) (told : ℕ → List Op) (timed : ℕ → ℕ → Bool) (now : Moment) (note : Note) (woken : List Thread) → AreNotified (program_with system told timed) now note woken
    → (thread : ℕ) (frame : Frame) (ops : List Op) → IsThread now.threads thread frame (At ops) → IsThread woken thread frame (At ops)
noter_stays system told timed now note woken (inl first) thread frame ops at =
    ap (λ (threads : List Thread). slice_get threads thread) first.becomes
    ∙ set_other now.threads first.target (record { frame = first.target_frame; position = Notified first.block note.condition first.rest }) thread differs ∙ at
  where
    differs : thread ≡ first.target → ⊥
    differs same =
        let slept : IsThread now.threads thread first.target_frame (Asleep first.block note.condition first.rest) =
        subst (λ (one : ℕ). IsThread now.threads one first.target_frame (Asleep first.block note.condition first.rest)) (sym same) first.sleeps in
        let two : Asleep first.block note.condition first.rest ≡ At ops =
        ap (λ (one : Thread). one.position) (same_Some (record { frame = first.target_frame; position = Asleep first.block note.condition first.rest }) (record { frame = frame; position = At ops }) (sym slept ∙ at)) in
        cc two
noter_stays system told timed now note woken (inr (inl each)) thread frame ops at =
    ap (λ (threads : List Thread). slice_get threads thread) each.becomes ∙ slice_get-map (woken_thread note.condition) now.threads thread ∙ ap (option_map (woken_thread note.condition)) at
noter_stays system told timed now note woken (inr (inr nobody)) thread frame ops at = ap (λ (threads : List Thread). slice_get threads thread) nobody.becomes ∙ at

notified_places : (system : System) (told : ℕ → List Op) (timed : ℕ → ℕ → Bool) (now : Moment) (note : Note) (woken : List Thread) → AreNotified (program_with system told timed) now note woken
    → map place_of (standings system woken) ≡ map place_of (standings system now.threads)
notified_places system told timed now note woken (inl first) =
    ap (λ (threads : List Thread). map place_of (standings system threads)) first.becomes
    ∙ same_places system now.threads first.target first.target_frame first.target_frame (Asleep first.block note.condition first.rest) (Notified first.block note.condition first.rest) first.sleeps refl
notified_places system told timed now note woken (inr (inl each)) =
    ap (λ (threads : List Thread). map place_of (standings system threads)) each.becomes ∙ all_woken_places system note.condition now.threads
notified_places system told timed now note woken (inr (inr nobody)) = ap (λ (threads : List Thread). map place_of (standings system threads)) nobody.becomes

-- ---- a body runs

pub goes_on : (answer : Option Value) → gives_up (reply_of answer) ≡ false
goes_on None = refl
goes_on (Some (values.Int number)) = refl
goes_on (Some (values.Bool truth)) = refl

pub continues_so : (answer : Option Value) (otherwise : List Note) (rest : List Op) → continues (reply_of answer) otherwise rest ≡ rest
continues_so None otherwise rest = refl
continues_so (Some (values.Int number)) otherwise rest = refl
continues_so (Some (values.Bool truth)) otherwise rest = refl

-- the place after a whole body
ran_goes : (system : System) (told : ℕ → List Op) (timed : ℕ → ℕ → Bool) → IsTold system told → (thread : ℕ) (frame : Frame) (call : Call) (block left : ℕ) → IsAt system thread frame.past call block (suc left)
    → (reply : Reply) (locals : List Value) → gives_up reply ≡ false
    → place_at system thread (record { past = frame.past; locals = locals; answer = reply }) (At (told_code system told block left))
    ≡ next_place system.monitor system.clients thread call (place_by system thread frame (Some block)) reply locals
ran_goes system told timed order thread frame call block left at reply locals goes_so =
    let follows = follows_locked system told (block + 1) left (told block) (order.shape block) in
    ap (place_by system thread (record { past = frame.past; locals = locals; answer = reply })) follows.next ∙ by left at
  where
    number : (left : ℕ) → IsAt system thread frame.past call block (suc left) → number_at system thread frame.past block ≡ block - first_of system call
    number left at = number_is system thread frame.past call block (suc left) at

    chosen : (last : Bool) → is_last system.monitor call (number_at system thread frame.past block) ≡ last
        → next_place system.monitor system.clients thread call (place_by system thread frame (Some block)) reply locals
        ≡ cond last (first_place system.monitor system.clients thread (frame.past + 1)) (record { past = frame.past; block = number_at system thread frame.past block + 1; locals = locals })
    chosen last is = λ i. cond (goes_so i || is i) (first_place system.monitor system.clients thread (frame.past + 1)) (record { past = frame.past; block = number_at system thread frame.past block + 1; locals = locals })

    by : (left : ℕ) → IsAt system thread frame.past call block (suc left)
        → place_by system thread (record { past = frame.past; locals = locals; answer = reply }) (next_block (later_code system told (block + 1) left))
        ≡ next_place system.monitor system.clients thread call (place_by system thread frame (Some block)) reply locals
    by zero at =
        let own = number zero at in
        sym (chosen true (le-leb (count_of system call) (number_at system thread frame.past block + 1) (omega (arith, own, at.begins, at.ends))))
    by (suc left) at =
        let own = number (suc left) at in
        let next = number_is system thread frame.past call (block + 1) (suc left) (record { call_is = at.call_is; begins = omega (arith, at.begins); ends = omega (arith, at.ends) }) in
        let numbers : number_at system thread frame.past (block + 1) ≡ number_at system thread frame.past block + 1 = omega (arith, own, next, at.begins) in
        ap (place_by system thread (record { past = frame.past; locals = locals; answer = reply })) (next_locked system told false (block + 1) left)
        ∙ (λ i. record { past = frame.past; block = numbers i; locals = locals })
        ∙ sym (chosen false (lt-leb (count_of system call) (number_at system thread frame.past block + 1) (omega (arith, own, at.begins, at.ends))))

-- what is known where a body runs
pub record BodyAt (system : System) (told : ℕ → List Op) (timed : ℕ → ℕ → Bool) (now : Moment) (thread : ℕ) (frame : Frame) (number : ℕ) (otherwise : List Note) (rest : List Op) (reply : Reply) (state locals : List Value) : Type 0 where
  pub held_by : now.holder ≡ Some thread
  pub call : Call
  pub left : ℕ
  pub at : IsAt system thread frame.past call number (suc left)
  pub here : Faced system thread frame call number
  pub open_is : guard_of system now.state thread (place_by system thread frame (Some number)) ≡ true
  pub guard : guard_truth system.monitor now.state (block_at system.monitor call (place_by system thread frame (Some number))) (given call.inputs frame.locals) ≡ true
  pub otherwise_is : otherwise ≡ overflow_notes system.monitor number
  pub rest_is : rest ≡ told_code system told number left
  pub steps : BlockSteps here.block (given call.inputs frame.locals) now.state reply (held state locals)
  pub step : IsBlockStep system.monitor (block_at system.monitor call (place_by system thread frame (Some number))) (given call.inputs frame.locals) now.state reply (held state locals)

pub body_at : (system : System) (told : ℕ → List Op) (timed : ℕ → ℕ → Bool) → IsSystem system → (thread : ℕ) (frame : Frame) (before next : Moment) → IsSoundly system told timed before
    → (move : RunsBody (program_with system told timed) thread frame before next)
    → BodyAt system told timed before thread frame move.block move.otherwise move.rest move.reply move.state move.locals
body_at system told timed is thread frame before next sound move =
    let ready = sound.placed thread frame (At (Run move.block move.otherwise ∷ move.rest)) move.at in
    let call = ready.1.call in
    let at = ready.1.at in
    let place = place_by system thread frame (Some move.block) in
    let here = faced_there system told timed before is sound thread frame (At (Run move.block move.otherwise ∷ move.rest)) move.at call move.block (suc ready.1.left) refl at in
    let open_is : guard_of system before.state thread place ≡ true = sym (open_is_guard system told timed before.state thread frame call move.block (suc ready.1.left) at) ∙ ready.1.open_is in
    let guard : guard_truth system.monitor before.state (block_at system.monitor call place) (given call.inputs frame.locals) ≡ true =
    sym (ap (λ (one : Option Call). option_map_or (λ call. guard_truth system.monitor before.state (block_at system.monitor call place) (inputs_at call place)) one false) at.call_is) ∙ open_is in
    let steps_in : IsSomeAnd (slice_get system.monitor.blocks move.block) (λ which. BlockSteps which (given call.inputs frame.locals) before.state move.reply (held move.state move.locals)) =
    subst (λ (one : Option Call). IsSomeAnd one (λ call. IsSomeAnd (slice_get system.monitor.blocks move.block) (λ which. BlockSteps which (given call.inputs frame.locals) before.state move.reply (held move.state move.locals))))
    at.call_is move.steps in
    record {
      held_by = ready.0;
      call = call;
      left = ready.1.left;
      at = at;
      here = here;
      open_is = open_is;
      guard = guard;
      otherwise_is = ready.1.otherwise_is;
      rest_is = ready.1.rest_is;
      steps = subst (λ (one : Option Block). IsSomeAnd one (λ which. BlockSteps which (given call.inputs frame.locals) before.state move.reply (held move.state move.locals))) here.there steps_in;
      step = record {
        guard = guard;
        runs = subst (λ (one : ℕ). IsSomeAnd (slice_get system.monitor.blocks one) (λ which. BlockSteps which (given call.inputs frame.locals) before.state move.reply (held move.state move.locals)))
            (sym (block_is system thread frame call move.block (suc ready.1.left) at)) steps_in;
      };
    }

-- where the thread goes is the next place
pub body_goes : (system : System) (told : ℕ → List Op) (timed : ℕ → ℕ → Bool) → IsTold system told → (now : Moment) (thread : ℕ) (frame : Frame) (number : ℕ) (otherwise : List Note) (rest : List Op) (reply : Reply) (state locals : List Value)
    → (body : BodyAt system told timed now thread frame number otherwise rest reply state locals)
    → place_at system thread (record { past = frame.past; locals = locals; answer = reply }) (At (continues reply otherwise rest))
    ≡ next_place system.monitor system.clients thread body.call (place_by system thread frame (Some number)) reply locals
body_goes system told timed order now thread frame number otherwise rest reply state locals body = elim body.steps [
  | inl all ↦
      let answer = block_result (given body.call.inputs frame.locals) body.here.block now.state in
      let ops : continues reply otherwise rest ≡ told_code system told number body.left = ap (λ (one : Reply). continues one otherwise rest) all.1 ∙ continues_so answer otherwise rest ∙ body.rest_is in
      ap (λ (ops : List Op). place_at system thread (record { past = frame.past; locals = locals; answer = reply }) (At ops)) ops
      ∙ ran_goes system told timed order thread frame body.call number body.left body.at reply locals (ap gives_up all.1 ∙ goes_on answer)
  | inr over ↦
      let ops : continues reply otherwise rest ≡ telling_code otherwise = ap (λ (one : Reply). continues one otherwise rest) over.1 in
      ap (λ (ops : List Op). place_at system thread (record { past = frame.past; locals = locals; answer = reply }) (At ops)) ops
      ∙ ap (place_by system thread (record { past = frame.past; locals = locals; answer = reply })) (telling_next otherwise)
      ∙ sym (ap (λ (one : Reply). next_place system.monitor system.clients thread body.call (place_by system thread frame (Some number)) one locals) over.1)
]

-- ---- a step is noted

-- a thread makes a step of its client from its place
step_run : (system : System) (told : ℕ → List Op) (timed : ℕ → ℕ → Bool) (now : Moment) (thread : ℕ) (frame new_frame : Frame) (position new_position : Position) (number : ℕ) (reply : Reply) (state : List Value) (goes_to : Place)
    → IsThread now.threads thread frame position → place_at system thread frame position ≡ place_by system thread frame (Some number)
    → IsStep system.monitor system.clients thread (place_by system thread frame (Some number)) now.state reply state goes_to
    → place_at system thread new_frame new_position ≡ goes_to
    → IsRun system.monitor system.clients now.ran (situation_at system now)
    → IsRun system.monitor system.clients (now.ran ++ commit_of (program_with system told timed) thread frame number reply ∷ [])
    (situation_at system (moment state now.holder (now.ran ++ commit_of (program_with system told timed) thread frame number reply ∷ []) (goes now.threads thread new_frame new_position)))
step_run system told timed now thread frame new_frame position new_position number reply state goes_to at place_is step goes_is run =
    let commit = commit_of (program_with system told timed) thread frame number reply in
    let follows : IsNextCommit system.monitor system.clients (situation_at system now) commit
    (situation_at system (moment state now.holder (now.ran ++ commit ∷ []) (goes now.threads thread new_frame new_position))) = record {
      place = place_by system thread frame (Some number);
      at = place_there system now.threads thread frame position at ∙ ap Some place_is;
      call = refl;
      block = refl;
      state = state;
      goes = goes_to;
      step = step;
      becomes = ap (λ (places : List Place). record { state = state; places = places }) (places_go system now.threads thread new_frame new_position goes_to goes_is);
    } in
    stepped now.ran (situation_at system now) commit _ run tt follows

-- a call that tries is refused
refused_run : (system : System) (told : ℕ → List Op) (timed : ℕ → ℕ → Bool) (now : Moment) (thread : ℕ) (frame : Frame) (op : Op) (rest : List Op) (call : Call) (block left : ℕ)
    → IsAt system thread frame.past call block left → tries_in system call block ≡ true → is_open (program_with system told timed) now.state thread frame block ≡ false
    → IsThread now.threads thread frame (At (op ∷ rest)) → next_block (op ∷ rest) ≡ Some block
    → IsRun system.monitor system.clients now.ran (situation_at system now)
    → IsRun system.monitor system.clients (now.ran ++ commit_of (program_with system told timed) thread frame block replies.Refused ∷ [])
    (situation_at system (moment now.state now.holder (now.ran ++ commit_of (program_with system told timed) thread frame block replies.Refused ∷ [])
    (goes now.threads thread (record { past = frame.past; locals = frame.locals; answer = replies.Refused }) (At (Unlock ∷ [])))))
refused_run system told timed now thread frame op rest call block left at tries closed_is there next_is run =
    let place = place_by system thread frame (Some block) in
    let both = and_parts call.tries ((block - first_of system call) == 0) tries in
    let closed : guard_truth system.monitor now.state (block_at system.monitor call place) (inputs_at call place) ≡ false =
    sym (ap (λ (one : Option Call). option_map_or (λ call. guard_truth system.monitor now.state (block_at system.monitor call place) (inputs_at call place)) one false) at.call_is)
    ∙ sym (open_is_guard system told timed now.state thread frame call block left at) ∙ closed_is in
    let step : IsStep system.monitor system.clients thread place now.state replies.Refused now.state (first_place system.monitor system.clients thread (frame.past + 1)) = record {
      call = call;
      memory = memory_of now.state (inputs_at call place);
      at = at.call_is;
      step = inr (record {
        tries = both.0;
        first = number_is system thread frame.past call block left at ∙ eqb-true (block - first_of system call) 0 both.1;
        guard = closed;
        reply_is = refl;
        stays = refl;
      });
      state_is = refl;
      place_is = refl;
    } in
    step_run system told timed now thread frame (record { past = frame.past; locals = frame.locals; answer = replies.Refused }) (At (op ∷ rest)) (At (Unlock ∷ [])) block replies.Refused now.state
    (first_place system.monitor system.clients thread (frame.past + 1)) there (ap (place_by system thread frame) next_is) step refl run

-- ---- each move

move_run : (system : System) (told : ℕ → List Op) (timed : ℕ → ℕ → Bool) → IsSystem system → IsTold system told → (before next : Moment) → IsSoundly system told timed before → IsMove (program_with system told timed) before next
    → IsRun system.monitor system.clients next.ran (situation_at system next)
move_run system told timed is order before next sound (calls thread frame move) =
    subst (λ (one : Moment). IsRun system.monitor system.clients one.ran (situation_at system one)) (sym move.becomes)
    (goes_run system before before.holder thread frame (record { past = frame.past; locals = locals_in (slice_get system.monitor.methods move.call.method); answer = replies.Unit }) Outside
    (At (call_code system told timed thread frame.past move.call)) move.outside (begins_here system told timed thread frame move.call is move.call_is replies.Unit) sound.run)
move_run system told timed is order before next sound (takes thread frame move) =
    subst (λ (one : Moment). IsRun system.monitor system.clients one.ran (situation_at system one)) (sym move.becomes)
    (goes_run system before (Some thread) thread frame frame (At (Lock ∷ move.rest)) (At move.rest) move.at refl sound.run)
move_run system told timed is order before next sound (passes thread frame move) =
    let passed = passed_at system told timed before sound.placed thread frame move.op move.block move.rest move.at move.tests in
    subst (λ (one : Moment). IsRun system.monitor system.clients one.ran (situation_at system one)) (sym move.becomes)
    (goes_run system before before.holder thread frame frame (At (move.op ∷ move.rest)) (At move.rest) move.at
    (ap (λ (ops : List Op). place_by system thread frame (next_block ops)) passed.rest_is ∙ sym (ap (place_by system thread frame) passed.next_is)) sound.run)
move_run system told timed is order before next sound (falls_asleep thread frame move) =
    subst (λ (one : Moment). IsRun system.monitor system.clients one.ran (situation_at system one)) (sym move.becomes)
    (goes_run system before None thread frame frame (At (WaitUntil move.block move.condition ∷ move.rest)) (Asleep move.block move.condition move.rest) move.at refl sound.run)
move_run system told timed is order before next sound (wakes thread frame move) =
    subst (λ (one : Moment). IsRun system.monitor system.clients one.ran (situation_at system one)) (sym move.becomes)
    (goes_run system before before.holder thread frame frame (Asleep move.block move.condition move.rest) (Notified move.block move.condition move.rest) move.at refl sound.run)
move_run system told timed is order before next sound (retakes thread frame move) =
    subst (λ (one : Moment). IsRun system.monitor system.clients one.ran (situation_at system one)) (sym move.becomes)
    (goes_run system before (Some thread) thread frame frame (Notified move.block move.condition move.rest) (At (WaitUntil move.block move.condition ∷ move.rest)) move.at refl sound.run)
move_run system told timed is order before next sound (refuses thread frame move) =
    let trying = sound.placed thread frame (At (ElseRefuse move.block ∷ move.rest)) move.at in
    subst (λ (one : Moment). IsRun system.monitor system.clients one.ran (situation_at system one)) (sym move.becomes)
    (refused_run system told timed before thread frame (ElseRefuse move.block) move.rest trying.1.call move.block (suc trying.1.left) trying.1.at
    trying.1.tries move.closed_is move.at refl sound.run)
move_run system told timed is order before next sound (abandons thread frame move) =
    let loops = sound.placed thread frame (At (WaitUntil move.block move.condition ∷ move.rest)) move.at in
    let tries : tries_in system loops.1.call move.block ≡ true =
    sym (tries_is system thread frame loops.1.call move.block (suc loops.1.left) loops.1.at)
    ∙ (and_parts (timed thread frame.past) (tries_there (program_with system told timed) thread frame move.block) move.timed).1 in
    subst (λ (one : Moment). IsRun system.monitor system.clients one.ran (situation_at system one)) (sym move.becomes)
    (refused_run system told timed before thread frame (WaitUntil move.block move.condition) move.rest loops.1.call move.block (suc loops.1.left) loops.1.at tries move.closed_is move.at refl sound.run)
move_run system told timed is order before next sound (runs_body thread frame move) =
    let body = body_at system told timed is thread frame before next sound move in
    let place = place_by system thread frame (Some move.block) in
    let goes_to = next_place system.monitor system.clients thread body.call place move.reply move.locals in
    let step : IsStep system.monitor system.clients thread place before.state move.reply move.state goes_to = record {
      call = body.call;
      memory = held move.state move.locals;
      at = body.at.call_is;
      step = inl body.step;
      state_is = refl;
      place_is = refl;
    } in
    subst (λ (one : Moment). IsRun system.monitor system.clients one.ran (situation_at system one)) (sym move.becomes)
    (step_run system told timed before thread frame (record { past = frame.past; locals = move.locals; answer = move.reply }) (At (Run move.block move.otherwise ∷ move.rest))
    (At (continues move.reply move.otherwise move.rest)) move.block move.reply move.state goes_to move.at refl step
    (body_goes system told timed order before thread frame move.block move.otherwise move.rest move.reply move.state move.locals body) sound.run)
move_run system told timed is order before next sound (panics thread frame move) =
    let ops = recovers (program_with system told timed) thread frame move.block move.otherwise move.rest in
    subst (λ (one : Moment). IsRun system.monitor system.clients one.ran (situation_at system one)) (sym move.becomes)
    (goes_run system before before.holder thread frame frame (At (Run move.block move.otherwise ∷ move.rest)) (At ops) move.at
    (ap (place_by system thread frame) (again_next (program_with system told timed) thread frame move.block move.otherwise move.rest)) sound.run)
move_run system told timed is order before next sound (notifies thread frame move) =
    let middle = moment before.state before.holder before.ran move.woken in
    let woken_run = quiet_run system before before.holder move.woken (notified_places system told timed before move.note move.woken move.notified) sound.run in
    subst (λ (one : Moment). IsRun system.monitor system.clients one.ran (situation_at system one)) (sym move.becomes)
    (goes_run system middle before.holder thread frame frame (At (Notify move.note ∷ move.rest)) (At move.rest)
    (noter_stays system told timed before move.note move.woken move.notified thread frame (Notify move.note ∷ move.rest) move.at) refl woken_run)
move_run system told timed is order before next sound (unlocks thread frame move) =
    subst (λ (one : Moment). IsRun system.monitor system.clients one.ran (situation_at system one)) (sym move.becomes)
    (goes_run system before None thread frame frame (At (Unlock ∷ move.rest)) (At move.rest) move.at refl sound.run)
move_run system told timed is order before next sound (releases thread frame move) =
    let ops = called_for (program_with system told timed) before move.notes move.rest in
    subst (λ (one : Moment). IsRun system.monitor system.clients one.ran (situation_at system one)) (sym move.becomes)
    (goes_run system before None thread frame frame (At (Release move.notes ∷ move.rest)) (At ops) move.at
    (ap (place_by system thread frame) (called_next (program_with system told timed) before move.notes move.rest)) sound.run)
move_run system told timed is order before next sound (returns thread frame move) =
    subst (λ (one : Moment). IsRun system.monitor system.clients one.ran (situation_at system one)) (sym move.becomes)
    (goes_run system before before.holder thread frame (record { past = frame.past + 1; locals = frame.locals; answer = frame.answer }) (At []) Outside move.at refl sound.run)

-- ---- executions

start_run : (system : System) (told : ℕ → List Op) (timed : ℕ → ℕ → Bool) → IsRun system.monitor system.clients [] (situation_at system (start (program_with system told timed)))
start_run system told timed =
    subst (λ (places : List Place). IsRun system.monitor system.clients [] (record { state = (start (program_with system told timed)).state; places = places })) (sym (start_places system 0 system.clients)) begun

pub sound_late : (system : System) (told : ℕ → List Op) (timed : ℕ → ℕ → Bool) → IsSystem system → IsTold system told → (last : Moment) → Executes (program_with system told timed) (start (program_with system told timed)) last → IsSoundly system told timed last
sound_late system told timed is order last none_yet = record { placed = start_placed system told timed; run = start_run system told timed }
sound_late system told timed is order last (one_more middle end so_far move) =
    let sound = sound_late system told timed is order middle so_far in
    record { placed = move_placed system told timed is order middle end sound move; run = move_run system told timed is order middle end sound move }

pub late_runs : (system : System) (told : ℕ → List Op) (timed : ℕ → ℕ → Bool) (last : Moment) → IsSystem system → IsTold system told → Leads (program_with system told timed) last → Ran (program_with system told timed) last
late_runs system told timed last is order run = record { now = situation_at system last; run = (sound_late system told timed is order last run).run; state_is = refl }
