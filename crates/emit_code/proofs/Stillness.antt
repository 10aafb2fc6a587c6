-- Where no thread can move but by chance, each has no call left, or sleeps and its guard is false; and
-- so where some have stopped.
use Rattle.std.proofs.Common.{◌≡◌, ℕ, suc, Bool, true, false, not, ◌&&◌, ◌==◌, List, [], ◌∷◌, map, Option, Some, None, IsSomeAnd, refl, sym, ap, subst, ◌∙◌, inl, inr}
use Rattle.std.specs.Prelude.{slice_get}
use Rattle.std.specs.Option.{option_map_or}
use Rattle.std.proofs.lemmas.Option.{slice_get-map}
use Rattle.std.proofs.lemmas.Bool.{true≢false, cases_Bool, or_cases}
use Rattle.lang_base.specs.declared.value.Value.{Value}
use Rattle.lang_monitor.specs.declared.monitor.Block.{Block}
use Rattle.lang_monitor.specs.Bodies.{Inputs, after, overflows_in, block_result}
use Rattle.machine_implicit.specs.declared.commit.Reply.{Reply}
use Rattle.machine_implicit.specs.declared.commit.Reply.TheVariants as replies
use Rattle.machine_implicit.specs.declared.script.Call.{Call}
use Rattle.machine_implicit.specs.Steps.{BlockSteps, given, held, reply_of, guard_truth}
use Rattle.machine_implicit.specs.Places.{block_at, inputs_at, guard_at, tries_at, may_step}
use Rattle.machine_implicit.specs.Runs.{Ends}
use Rattle.machine_implicit.proofs.OneSituation.{one_situation}
use Rattle.machine_implicit.proofs.Fitting.{is_some_and}
use Rattle.machine_events.specs.declared.plan.Note.{Note}
use Rattle.machine_events.specs.Plans.{has_note}
use Rattle.machine_events.specs.Laws.{HasCountingPlan}
use Rattle.machine_events.specs.Configurations.{System}
use Rattle.machine_events.specs.Pending.{IsSystem}
use Rattle.machine_events.proofs.Covered.{not_both}
use Rattle.machine_events.proofs.Ending.{some_waits}
use Rattle.emit_code.specs.Code.{Op}
use Rattle.emit_code.specs.Code.Op.{Lock, WaitUntil, ElseRefuse, Run, Notify, Unlock, Release}
use Rattle.emit_code.specs.Executions.{Program, Position, Frame, Thread, Moment, IsThread, goes, program_with, call_of, is_open, tries_there, is_made, woken_thread, AreNotified, IsMove, is_by_chance, is_optional, IsStill, IsQuiet}
use Rattle.emit_code.specs.Executions.Position.{Outside, At, Asleep, Notified}
use Rattle.emit_code.specs.Executions.IsMove.{calls, takes, passes, falls_asleep, wakes, retakes, refuses, abandons, runs_body, panics, notifies, unlocks, releases, returns}
use Rattle.emit_code.specs.Orders.{notes_to_come, IsTold}
use Rattle.emit_code.specs.Laws.{Leads, IsAtEnd, IsAtRest, QuietIsAtRest, StillIsTheEnd, StillEndsTheRun}
use Rattle.emit_code.proofs.Lists.{option_some}
use Rattle.emit_code.proofs.Views.{place_by, place_at, place_of, standings, situation_at, stands, stands_from, sleeps_from}
use Rattle.emit_code.proofs.Parts.{tries_in, never, tries_is, open_is_guard}
use Rattle.emit_code.proofs.Placed.{IsSoundly, faced_there}
use Rattle.emit_code.proofs.Running.{sound_late}
use Rattle.emit_code.proofs.Covering.{late_seen_to}
use Rattle.emit_code.proofs.Holding.{is_holding, holder_late}

-- ---- what can move

moves_on : (program : Program) (now : Moment) → IsQuiet program now → (next : Moment) (move : IsMove program now next) → is_optional program now next move ≡ false → ⊥
moves_on program now still next move other = not_both (is_optional program now next move) (still next move) other

some_body : (block : Block) (inputs : Inputs) (state : List Value) → (reply : Reply) × (next : List Value) × (locals : List Value) × BlockSteps block inputs state reply (held next locals)
some_body block inputs state = elim (cases_Bool (overflows_in inputs block state)) [
  | inl over ↦ (replies.Overflow, state, inputs.locals, inr (over, refl, refl))
  | inr fits ↦ (
    reply_of (block_result inputs block state),
    (after inputs block.body state).state,
    (after inputs block.body state).locals,
    inl ((λ over. not_both _ over fits), refl, refl),
  )
]

some_notified : (system : System) (told : ℕ → List Op) (timed : ℕ → ℕ → Bool) (now : Moment) (note : Note) → (woken : List Thread) × AreNotified (program_with system told timed) now note woken
some_notified system told timed now note = elim (cases_Bool (is_made (program_with system told timed) now.state note)) [
  | inr still ↦ (now.threads, inr (inr (record { nobody = inl still; becomes = refl })))
  | inl made ↦ elim (cases_Bool note.all) [
    | inl each ↦ (map (woken_thread note.condition) now.threads, inr (inl (record { made = made; each = each; becomes = refl })))
    | inr first ↦ elim (some_waits (standings system now.threads) note.condition) [
      | inl waiter ↦
          let sleeps = sleeps_from system now.threads waiter.0 waiter.1 note.condition waiter.2 in (
            goes now.threads waiter.0 sleeps.frame (Notified sleeps.block note.condition sleeps.rest),
            inl (record {
              made = made;
              one = first;
              target = waiter.0;
              target_frame = sleeps.frame;
              block = sleeps.block;
              rest = sleeps.rest;
              sleeps = sleeps.at;
              becomes = refl;
            }),
          )
      | inr none ↦ (
        now.threads,
        inr (inr (record {
          nobody = inr (first, (λ thread frame block rest at. none thread (place_by system thread frame (Some block)) (stands system now.threads thread frame (Asleep block note.condition rest) at)));
          becomes = refl;
        })),
      )
    ]
  ]
]

loop_moves : (program : Program) (now : Moment) → IsQuiet program now → (thread : ℕ) (frame : Frame) (block condition : ℕ) (rest : List Op) → IsThread now.threads thread frame (At (WaitUntil block condition ∷ rest)) → ⊥
loop_moves program now still thread frame block condition rest at = elim (cases_Bool (is_open program now.state thread frame block)) [
  | inl open_so ↦
      moves_on program now still _ (passes thread frame (record { op = WaitUntil block condition; block = block; rest = rest; at = at; tests = refl; open_is = open_so; becomes = refl })) refl
  | inr closed_so ↦ moves_on program now still _ (falls_asleep thread frame (record { block = block; condition = condition; rest = rest; at = at; closed_is = closed_so; becomes = refl })) refl
]

test_moves : (program : Program) (now : Moment) → IsQuiet program now → (thread : ℕ) (frame : Frame) (block : ℕ) (rest : List Op) → IsThread now.threads thread frame (At (ElseRefuse block ∷ rest)) → ⊥
test_moves program now still thread frame block rest at = elim (cases_Bool (is_open program now.state thread frame block)) [
  | inl open_so ↦ moves_on program now still _ (passes thread frame (record { op = ElseRefuse block; block = block; rest = rest; at = at; tests = refl; open_is = open_so; becomes = refl })) refl
  | inr closed_so ↦ moves_on program now still _ (refuses thread frame (record { block = block; rest = rest; at = at; closed_is = closed_so; becomes = refl })) refl
]

body_moves : (system : System) (told : ℕ → List Op) (timed : ℕ → ℕ → Bool) (now : Moment) → IsSystem system → IsSoundly system told timed now → IsQuiet (program_with system told timed) now
    → (thread : ℕ) (frame : Frame) (block : ℕ) (otherwise : List Note) (rest : List Op) → IsThread now.threads thread frame (At (Run block otherwise ∷ rest)) → ⊥
body_moves system told timed now is sound still thread frame block otherwise rest at =
    let ready = (sound.placed thread frame (At (Run block otherwise ∷ rest)) at).1 in
    let here = faced_there system told timed now is sound thread frame (At (Run block otherwise ∷ rest)) at ready.call block (suc ready.left) refl ready.at in
    let inputs = given ready.call.inputs frame.locals in
    let body = some_body here.block inputs now.state in
    let inner : IsSomeAnd (slice_get system.monitor.blocks block) (λ which. BlockSteps which inputs now.state body.0 (held body.1 body.2)) =
    subst (λ (one : Option Block). IsSomeAnd one (λ which. BlockSteps which inputs now.state body.0 (held body.1 body.2))) (sym here.there) body.3 in
    let steps : IsSomeAnd (call_of (program_with system told timed) thread frame)
    (λ call. IsSomeAnd (slice_get system.monitor.blocks block) (λ which. BlockSteps which (given call.inputs frame.locals) now.state body.0 (held body.1 body.2))) =
    subst (λ (one : Option Call). IsSomeAnd one (λ call. IsSomeAnd (slice_get system.monitor.blocks block) (λ which. BlockSteps which (given call.inputs frame.locals) now.state body.0 (held body.1 body.2))))
    (sym ready.at.call_is) inner in
    moves_on (program_with system told timed) now still _
    (runs_body thread frame (record { block = block; otherwise = otherwise; rest = rest; at = at; reply = body.0; state = body.1; locals = body.2; steps = steps; becomes = refl })) refl

note_moves : (system : System) (told : ℕ → List Op) (timed : ℕ → ℕ → Bool) (now : Moment) → IsQuiet (program_with system told timed) now → (thread : ℕ) (frame : Frame) (note : Note) (rest : List Op)
    → IsThread now.threads thread frame (At (Notify note ∷ rest)) → ⊥
note_moves system told timed now still thread frame note rest at =
    let some = some_notified system told timed now note in
    moves_on (program_with system told timed) now still _ (notifies thread frame (record { note = note; rest = rest; woken = some.0; at = at; notified = some.1; becomes = refl })) refl

unlock_moves : (program : Program) (now : Moment) → IsQuiet program now → (thread : ℕ) (frame : Frame) (rest : List Op) → IsThread now.threads thread frame (At (Unlock ∷ rest)) → ⊥
unlock_moves program now still thread frame rest at = moves_on program now still _ (unlocks thread frame (record { rest = rest; at = at; becomes = refl })) refl

release_moves : (program : Program) (now : Moment) → IsQuiet program now → (thread : ℕ) (frame : Frame) (notes : List Note) (rest : List Op) → IsThread now.threads thread frame (At (Release notes ∷ rest)) → ⊥
release_moves program now still thread frame notes rest at = moves_on program now still _ (releases thread frame (record { notes = notes; rest = rest; at = at; becomes = refl })) refl

-- ---- nobody holds the mutex

holding_moves : (system : System) (told : ℕ → List Op) (timed : ℕ → ℕ → Bool) (now : Moment) → IsSystem system → IsSoundly system told timed now → IsQuiet (program_with system told timed) now
    → (thread : ℕ) (frame : Frame) (position : Position) → IsThread now.threads thread frame position → is_holding position ≡ true → ⊥
holding_moves system told timed now is sound still thread frame Outside at holding = never holding
holding_moves system told timed now is sound still thread frame (At []) at holding = never holding
holding_moves system told timed now is sound still thread frame (At (Lock ∷ rest)) at holding = never holding
holding_moves system told timed now is sound still thread frame (At (WaitUntil block condition ∷ rest)) at holding = loop_moves (program_with system told timed) now still thread frame block condition rest at
holding_moves system told timed now is sound still thread frame (At (ElseRefuse block ∷ rest)) at holding = test_moves (program_with system told timed) now still thread frame block rest at
holding_moves system told timed now is sound still thread frame (At (Run block otherwise ∷ rest)) at holding = body_moves system told timed now is sound still thread frame block otherwise rest at
holding_moves system told timed now is sound still thread frame (At (Notify note ∷ rest)) at holding = note_moves system told timed now still thread frame note rest at
holding_moves system told timed now is sound still thread frame (At (Unlock ∷ rest)) at holding = unlock_moves (program_with system told timed) now still thread frame rest at
holding_moves system told timed now is sound still thread frame (At (Release notes ∷ rest)) at holding = release_moves (program_with system told timed) now still thread frame notes rest at
holding_moves system told timed now is sound still thread frame (Asleep block condition rest) at holding = never holding
holding_moves system told timed now is sound still thread frame (Notified block condition rest) at holding = never holding

free_now : (holder : Option ℕ) → ((thread : ℕ) → holder ≡ Some thread → ⊥) → holder ≡ None
free_now None none = refl
free_now (Some thread) none = absurd (none thread refl)

nobody_holds : (system : System) (told : ℕ → List Op) (timed : ℕ → ℕ → Bool) (last : Moment) → IsSystem system → IsTold system told → Leads (program_with system told timed) last → IsQuiet (program_with system told timed) last → last.holder ≡ None
nobody_holds system told timed last is order run still =
    let has = holder_late system told timed is order last run in
    free_now last.holder (λ thread held_by.
    let found = has thread held_by in
    holding_moves system told timed last is (sound_late system told timed is order last run) still thread found.0 found.1 found.2 found.3)

notified_moves : (program : Program) (now : Moment) → IsQuiet program now → now.holder ≡ None → (thread : ℕ) (frame : Frame) (block condition : ℕ) (rest : List Op)
    → IsThread now.threads thread frame (Notified block condition rest) → ⊥
notified_moves program now still free thread frame block condition rest at =
    moves_on program now still _ (retakes thread frame (record { block = block; condition = condition; rest = rest; at = at; free = free; becomes = refl })) refl

-- a thread in a call is before a lock
quiet_at : (system : System) (told : ℕ → List Op) (timed : ℕ → ℕ → Bool) (now : Moment) → IsSystem system → IsSoundly system told timed now → IsQuiet (program_with system told timed) now
    → (thread : ℕ) (frame : Frame) (ops : List Op) → IsThread now.threads thread frame (At ops) → IsAtRest (program_with system told timed) now thread frame (At ops)
quiet_at system told timed now is sound still thread frame [] at = moves_on (program_with system told timed) now still _ (returns thread frame (record { at = at; becomes = refl })) refl
quiet_at system told timed now is sound still thread frame (Lock ∷ rest) at = tt
quiet_at system told timed now is sound still thread frame (WaitUntil block condition ∷ rest) at = loop_moves (program_with system told timed) now still thread frame block condition rest at
quiet_at system told timed now is sound still thread frame (ElseRefuse block ∷ rest) at = test_moves (program_with system told timed) now still thread frame block rest at
quiet_at system told timed now is sound still thread frame (Run block otherwise ∷ rest) at = body_moves system told timed now is sound still thread frame block otherwise rest at
quiet_at system told timed now is sound still thread frame (Notify note ∷ rest) at = note_moves system told timed now still thread frame note rest at
quiet_at system told timed now is sound still thread frame (Unlock ∷ rest) at = unlock_moves (program_with system told timed) now still thread frame rest at
quiet_at system told timed now is sound still thread frame (Release notes ∷ rest) at = release_moves (program_with system told timed) now still thread frame notes rest at

-- and has no note to make
quiet_tells : (program : Program) (now : Moment) (thread : ℕ) (frame : Frame) (ops : List Op) (condition : ℕ) → IsAtRest program now thread frame (At ops) → has_note (notes_to_come ops) condition ≡ true → ⊥
quiet_tells program now thread frame [] condition rests tells = rests
quiet_tells program now thread frame (Lock ∷ rest) condition rests tells = never tells
quiet_tells program now thread frame (WaitUntil block on ∷ rest) condition rests tells = rests
quiet_tells program now thread frame (ElseRefuse block ∷ rest) condition rests tells = rests
quiet_tells program now thread frame (Run block otherwise ∷ rest) condition rests tells = rests
quiet_tells program now thread frame (Notify note ∷ rest) condition rests tells = rests
quiet_tells program now thread frame (Unlock ∷ rest) condition rests tells = rests
quiet_tells program now thread frame (Release notes ∷ rest) condition rests tells = rests

-- ---- where threads may have stopped

pub quiet_late : (system : System) (told : ℕ → List Op) (timed : ℕ → ℕ → Bool) (last : Moment) → HasCountingPlan system → IsTold system told → Leads (program_with system told timed) last → QuietIsAtRest (program_with system told timed) last
quiet_late system told timed last set order run still thread frame Outside at = tt
quiet_late system told timed last set order run still thread frame (At ops) at = quiet_at system told timed last set.is (sound_late system told timed set.is order last run) still thread frame ops at
quiet_late system told timed last set order run still thread frame (Asleep block condition rest) at = elim (cases_Bool (is_open (program_with system told timed) last.state thread frame block)) [
  | inr closed_so ↦ closed_so
  | inl open_so ↦
      let free = nobody_holds system told timed last set.is order run still in
      absurd (elim (late_seen_to system told timed last set order run free thread frame block condition rest at open_so) [
        | inl woken ↦ notified_moves (program_with system told timed) last still free woken.0 woken.1 woken.2 condition woken.3 woken.4
        | inr telling ↦
            quiet_tells (program_with system told timed) last telling.0 telling.1 telling.2 condition
            (quiet_at system told timed last set.is (sound_late system told timed set.is order last run) still telling.0 telling.1 telling.2 telling.3) telling.4
      ])
]
quiet_late system told timed last set order run still thread frame (Notified block condition rest) at =
    notified_moves (program_with system told timed) last still (nobody_holds system told timed last set.is order run still) thread frame block condition rest at

-- ---- each thread is at its end

-- nobody can move, so nobody but by choice
still_quiet : (program : Program) (now next : Moment) (move : IsMove program now next) → is_by_chance program now next move ≡ true → is_optional program now next move ≡ true
still_quiet program now next (calls thread frame move) is = refl
still_quiet program now next (takes thread frame move) is = refl
still_quiet program now next (passes thread frame move) is = is
still_quiet program now next (falls_asleep thread frame move) is = is
still_quiet program now next (wakes thread frame move) is = refl
still_quiet program now next (retakes thread frame move) is = is
still_quiet program now next (refuses thread frame move) is = is
still_quiet program now next (abandons thread frame move) is = is
still_quiet program now next (runs_body thread frame move) is = is
still_quiet program now next (panics thread frame move) is = is
still_quiet program now next (notifies thread frame move) is = is
still_quiet program now next (unlocks thread frame move) is = is
still_quiet program now next (releases thread frame move) is = is
still_quiet program now next (returns thread frame move) is = is

quiet : (program : Program) (now : Moment) → IsStill program now → IsQuiet program now
quiet program now still next move = still_quiet program now next move (still next move)

still_moves : (program : Program) (now : Moment) → IsStill program now → (next : Moment) (move : IsMove program now next) → is_by_chance program now next move ≡ false → ⊥
still_moves program now still next move other = not_both (is_by_chance program now next move) (still next move) other

no_call : (program : Program) (now : Moment) → IsStill program now → (thread : ℕ) (frame : Frame) → IsThread now.threads thread frame Outside → (found : Option Call) → call_of program thread frame ≡ found
    → call_of program thread frame ≡ None
no_call program now still thread frame at None is = is
no_call program now still thread frame at (Some call) is =
    absurd (still_moves program now still _ (calls thread frame (record { outside = at; call = call; call_is = is; becomes = refl })) refl)

-- nobody is before a lock
no_lock : (program : Program) (now : Moment) → IsStill program now → now.holder ≡ None → (thread : ℕ) (frame : Frame) (ops : List Op) → IsThread now.threads thread frame (At ops)
    → IsAtRest program now thread frame (At ops) → ⊥
no_lock program now still free thread frame [] at rests = rests
no_lock program now still free thread frame (Lock ∷ rest) at rests = still_moves program now still _ (takes thread frame (record { rest = rest; at = at; free = free; becomes = refl })) refl
no_lock program now still free thread frame (WaitUntil block condition ∷ rest) at rests = rests
no_lock program now still free thread frame (ElseRefuse block ∷ rest) at rests = rests
no_lock program now still free thread frame (Run block otherwise ∷ rest) at rests = rests
no_lock program now still free thread frame (Notify note ∷ rest) at rests = rests
no_lock program now still free thread frame (Unlock ∷ rest) at rests = rests
no_lock program now still free thread frame (Release notes ∷ rest) at rests = rests

pub still_late : (system : System) (told : ℕ → List Op) (timed : ℕ → ℕ → Bool) (last : Moment) → HasCountingPlan system → IsTold system told → Leads (program_with system told timed) last → StillIsTheEnd (program_with system told timed) last
still_late system told timed last set order run still thread frame Outside at = no_call (program_with system told timed) last still thread frame at (call_of (program_with system told timed) thread frame) refl
still_late system told timed last set order run still thread frame (At ops) at =
    let stopped = quiet (program_with system told timed) last still in
    no_lock (program_with system told timed) last still (nobody_holds system told timed last set.is order run stopped) thread frame ops at (quiet_late system told timed last set order run stopped thread frame (At ops) at)
still_late system told timed last set order run still thread frame (Asleep block condition rest) at =
    quiet_late system told timed last set order run (quiet (program_with system told timed) last still) thread frame (Asleep block condition rest) at
still_late system told timed last set order run still thread frame (Notified block condition rest) at =
    quiet_late system told timed last set order run (quiet (program_with system told timed) last still) thread frame (Notified block condition rest) at

-- ---- the run is at its end

-- nobody sleeps who tries: its time would end
no_time : (timed trying there : Bool) → trying ≡ true → there ≡ true → not timed && trying ≡ false → not (timed && there) ≡ true → ⊥
no_time true trying there tries is patient untimed = true≢false (sym untimed ∙ ap not is)
no_time false trying there tries is patient untimed = true≢false (sym tries ∙ patient)

cannot_step : (system : System) (told : ℕ → List Op) (timed : ℕ → ℕ → Bool) (last : Moment) → IsSoundly system told timed last → IsStill (program_with system told timed) last → (thread : ℕ) (frame : Frame) (position : Position) → IsThread last.threads thread frame position
    → IsAtEnd (program_with system told timed) last thread frame position → may_step system.monitor system.clients last.state thread (place_at system thread frame position) ≡ true → ⊥
cannot_step system told timed last sound still thread frame Outside at ends may =
    let place = place_at system thread frame Outside in
    let closed : guard_at system.monitor system.clients last.state thread place ≡ false =
    ap (λ (one : Option Call). option_map_or (λ call. guard_truth system.monitor last.state (block_at system.monitor call place) (inputs_at call place)) one false) ends in
    let patient : tries_at system.clients thread place ≡ false =
    ap (λ (one : Option Call). option_map_or (λ call. call.tries && place.block == 0) one false) ends in
    elim (or_cases (guard_at system.monitor system.clients last.state thread place) (tries_at system.clients thread place) may) [
      | inl open_so ↦ true≢false (sym open_so ∙ closed)
      | inr tries ↦ true≢false (sym tries ∙ patient)
    ]
cannot_step system told timed last sound still thread frame (At ops) at ends may = ends
cannot_step system told timed last sound still thread frame (Asleep block condition rest) at ends may =
    let loops = sound.placed thread frame (Asleep block condition rest) at in
    let place = place_by system thread frame (Some block) in
    elim (or_cases (guard_at system.monitor system.clients last.state thread place) (tries_at system.clients thread place) may) [
      | inl open_so ↦ true≢false (sym open_so ∙ sym (open_is_guard system told timed last.state thread frame loops.call block (suc loops.left) loops.at) ∙ ends)
      | inr tries ↦
          let trying : tries_in system loops.call block ≡ true = sym (tries_is system thread frame loops.call block (suc loops.left) loops.at) ∙ tries in
          let untimed : not (timed thread frame.past && tries_there (program_with system told timed) thread frame block) ≡ true =
          still _ (wakes thread frame (record { block = block; condition = condition; rest = rest; at = at; becomes = refl })) in
          no_time (timed thread frame.past) (tries_in system loops.call block) (tries_there (program_with system told timed) thread frame block) trying tries loops.patient untimed
    ]
cannot_step system told timed last sound still thread frame (Notified block condition rest) at ends may = ends

pub still_ends : (system : System) (told : ℕ → List Op) (timed : ℕ → ℕ → Bool) (last : Moment) → HasCountingPlan system → IsTold system told → Leads (program_with system told timed) last → StillEndsTheRun (program_with system told timed) last
still_ends system told timed last set order run still now ran =
    let sound = sound_late system told timed set.is order last run in
    let same : situation_at system last ≡ now = one_situation system.monitor system.clients last.ran (situation_at system last) now sound.run ran in
    subst (Ends system.monitor system.clients) same (λ thread can.
    let found = is_some_and (slice_get (map place_of (standings system last.threads)) thread) (λ place. may_step system.monitor system.clients last.state thread place ≡ true) can in
    let standing = option_some place_of (slice_get (standings system last.threads) thread) found.0 (sym (slice_get-map place_of (standings system last.threads) thread) ∙ found.1) in
    let there = stands_from system last.threads thread standing.0.place standing.0.stage standing.1 in
    let place_is : place_at system thread there.0.frame there.0.position ≡ found.0 = ap place_of there.2 ∙ standing.2 in
    cannot_step system told timed last sound still thread there.0.frame there.0.position there.1
    (still_late system told timed last set order run still thread there.0.frame there.0.position there.1)
    (ap (may_step system.monitor system.clients last.state thread) place_is ∙ found.2))
