-- Where the code of a system has its threads, and that each move keeps it.
use Rattle.std.proofs.Common.{◌≡◌, ◌==◌, ℕ, zero, suc, ◌+◌, ◌⊎◌, Bool, true, false, cond, not, ◌&&◌, ◌||◌, List, [], ◌∷◌, ◌++◌, map, Option, Some, None, refl, sym, ap, subst, ◌∙◌, arith, inl, inr}
use Rattle.std.specs.Prelude.{All, slice_get}
use Rattle.std.proofs.lemmas.Option.{none-some, same_Some}
use Rattle.std.proofs.lemmas.Bool.{true≢false, and_parts, and_right, or_cases, or_parts, eqb-true}
use Rattle.std.proofs.lemmas.List.Elements.{All-nil, All-cons, All-head, All-tail}
use Rattle.lang_base.specs.declared.value.Value.{Value}
use Rattle.machine_implicit.specs.declared.commit.Commit.{Commit}
use Rattle.machine_implicit.specs.declared.commit.Reply.{Reply}
use Rattle.machine_implicit.specs.declared.commit.Reply.TheVariants as replies
use Rattle.machine_implicit.specs.declared.script.Call.{Call}
use Rattle.machine_implicit.specs.declared.script.Client.{Client}
use Rattle.machine_implicit.specs.Scripted.{calls_of}
use Rattle.machine_implicit.specs.Places.{FitsPlace}
use Rattle.machine_implicit.specs.Runs.{IsRun}
use Rattle.machine_implicit.proofs.Fitting.{run_fits}
use Rattle.machine_events.specs.declared.plan.Note.{Note}
use Rattle.machine_events.specs.Configurations.{System, block_condition}
use Rattle.machine_events.specs.declared.event.Stage.TheVariants.{Inside}
use Rattle.machine_events.specs.Pending.{IsSystem}
use Rattle.emit_code.specs.Code.{Op, is_waited_on, is_guarded, signal_on, overflow_notes, telling_code, test_code, blocks_code}
use Rattle.emit_code.specs.Code.Op.{Lock, WaitUntil, ElseRefuse, Run, Notify, Unlock, Release}
use Rattle.emit_code.specs.Executions.{Position, Frame, Thread, Moment, IsThread, goes, program_with, is_open, commit_of, continues, tries_there, at_once, recovers, tested_block, AreNotified, called_for, new_thread, start}
use Rattle.emit_code.specs.Executions.{IsMove}
use Rattle.emit_code.specs.Executions.Position.{Outside, At, Asleep, Notified}
use Rattle.emit_code.specs.Executions.IsMove.{calls, takes, passes, falls_asleep, wakes, retakes, refuses, abandons, runs_body, panics, notifies, unlocks, releases, returns}
use Rattle.emit_code.specs.Orders.{notes_to_come, IsTestable, IsTold}
use Rattle.emit_code.proofs.Lists.{came}
use Rattle.emit_code.proofs.Views.{next_block, place_by, place_at, stage_at, place_there, situation_at, thread_before}
use Rattle.emit_code.proofs.Parts.{first_of, count_of, tries_in, refuses_in, IsAt, call_code, later_code, locked_code, passed_code, told_code, Faced, faced_at, numbered_is, open_untested, tested_waited, some_block, tries_first, tries_later, tries_is, next_at, end_at, next_locked}
use Rattle.emit_code.proofs.Parts.{now_free, now_locked, from_lock, never, locked_later, follows_locked, called_lock, called_free, called_all, telling_locked, telling_notes, telling_lock, then_lock, again_locked, again_notes}

-- ---- where threads are

-- about to lock the mutex, for a block
pub record Enters (system : System) (told : ℕ → List Op) (timed : ℕ → ℕ → Bool) (thread past : ℕ) (rest : List Op) : Type 0 where
  pub call : Call
  pub block : ℕ
  pub left : ℕ
  pub at : IsAt system thread past call block (suc left)
  pub rest_is : rest ≡ locked_code system told (refuses_in system timed thread past call block) block left

-- in the loop of a block
pub record Loops (system : System) (told : ℕ → List Op) (timed : ℕ → ℕ → Bool) (thread past block condition : ℕ) (rest : List Op) : Type 0 where
  pub call : Call
  pub left : ℕ
  pub at : IsAt system thread past call block (suc left)
  pub patient : refuses_in system timed thread past call block ≡ false
  pub waited_on : is_waited_on system.monitor (block_condition system.monitor block) ≡ true
  pub condition_is : condition ≡ block_condition system.monitor block
  pub rest_is : rest ≡ passed_code system told block left

-- at the test of a call that tries
pub record Tries (system : System) (told : ℕ → List Op) (timed : ℕ → ℕ → Bool) (thread past block : ℕ) (rest : List Op) : Type 0 where
  pub call : Call
  pub left : ℕ
  pub at : IsAt system thread past call block (suc left)
  pub tries : tries_in system call block ≡ true
  pub rest_is : rest ≡ passed_code system told block left

-- at a body, whose guard is true
pub record IsReady (system : System) (told : ℕ → List Op) (timed : ℕ → ℕ → Bool) (state : List Value) (thread : ℕ) (frame : Frame) (block : ℕ) (otherwise : List Note) (rest : List Op) : Type 0 where
  pub call : Call
  pub left : ℕ
  pub at : IsAt system thread frame.past call block (suc left)
  pub open_is : is_open (program_with system told timed) state thread frame block ≡ true
  pub otherwise_is : otherwise ≡ overflow_notes system.monitor block
  pub rest_is : rest ≡ told_code system told block left

-- with notes to make, or the mutex to give back; then the other blocks
pub record Tells (system : System) (told : ℕ → List Op) (timed : ℕ → ℕ → Bool) (holder : Option ℕ) (thread past : ℕ) (ops : List Op) : Type 0 where
  pub call : Call
  pub block : ℕ
  pub left : ℕ
  pub at : IsAt system thread past call block left
  pub later_is : from_lock ops ≡ blocks_code system.monitor told (refuses_in system timed thread past call block) block left
  pub held : ((now_locked ops ≡ true) × (holder ≡ Some thread)) ⊎ (now_free ops ≡ true)
  pub plain : All (IsTestable system.monitor) (notes_to_come ops)

abbrev pub IsPlaced : System → (ℕ → List Op) → (ℕ → ℕ → Bool) → List Value → Option ℕ → ℕ → Frame → Position → Type 0
IsPlaced system told timed state holder thread frame Outside = Unit {0}
IsPlaced system told timed state holder thread frame (At []) = Unit {0}
IsPlaced system told timed state holder thread frame (At (Lock ∷ rest)) = Enters system told timed thread frame.past rest
IsPlaced system told timed state holder thread frame (At (WaitUntil block condition ∷ rest)) = (holder ≡ Some thread) × Loops system told timed thread frame.past block condition rest
IsPlaced system told timed state holder thread frame (At (ElseRefuse block ∷ rest)) = (holder ≡ Some thread) × Tries system told timed thread frame.past block rest
IsPlaced system told timed state holder thread frame (At (Run block otherwise ∷ rest)) = (holder ≡ Some thread) × IsReady system told timed state thread frame block otherwise rest
IsPlaced system told timed state holder thread frame (At (Notify note ∷ rest)) = Tells system told timed holder thread frame.past (Notify note ∷ rest)
IsPlaced system told timed state holder thread frame (At (Unlock ∷ rest)) = Tells system told timed holder thread frame.past (Unlock ∷ rest)
IsPlaced system told timed state holder thread frame (At (Release notes ∷ rest)) = Tells system told timed holder thread frame.past (Release notes ∷ rest)
IsPlaced system told timed state holder thread frame (Asleep block condition rest) = Loops system told timed thread frame.past block condition rest
IsPlaced system told timed state holder thread frame (Notified block condition rest) = Loops system told timed thread frame.past block condition rest

abbrev pub ArePlaced : System → (ℕ → List Op) → (ℕ → ℕ → Bool) → Moment → Type 0
ArePlaced system told timed now =
    (thread : ℕ) (frame : Frame) (position : Position) → IsThread now.threads thread frame position → IsPlaced system told timed now.state now.holder thread frame position

-- what each move keeps, whatever the plan
pub record IsSoundly (system : System) (told : ℕ → List Op) (timed : ℕ → ℕ → Bool) (now : Moment) : Type 0 where
  pub placed : ArePlaced system told timed now
  pub run : IsRun system.monitor system.clients now.ran (situation_at system now)

pub fits_there : (system : System) (told : ℕ → List Op) (timed : ℕ → ℕ → Bool) (now : Moment) → IsSystem system → IsSoundly system told timed now → (thread : ℕ) (frame : Frame) (position : Position)
    → IsThread now.threads thread frame position → FitsPlace system.monitor system.clients thread (place_at system thread frame position)
fits_there system told timed now is sound thread frame position at =
    (run_fits system.monitor system.clients now.ran (situation_at system now) is.rule is.scripts sound.run).places thread (place_at system thread frame position)
    (place_there system now.threads thread frame position at)

-- the block of a thread whose code runs it next
pub faced_there : (system : System) (told : ℕ → List Op) (timed : ℕ → ℕ → Bool) (now : Moment) → IsSystem system → IsSoundly system told timed now → (thread : ℕ) (frame : Frame) (position : Position)
    → IsThread now.threads thread frame position → (call : Call) (block left : ℕ) → place_at system thread frame position ≡ place_by system thread frame (Some block)
    → IsAt system thread frame.past call block left → Faced system thread frame call block
faced_there system told timed now is sound thread frame position there call block left place at =
    faced_at system thread frame call block left is at (subst (FitsPlace system.monitor system.clients thread) place (fits_there system told timed now is sound thread frame position there))

-- ---- one thread goes

abbrev pub moment : List Value → Option ℕ → List Commit → List Thread → Moment
moment state holder ran threads = record { state = state; asleep = λ condition. 0; holder = holder; ran = ran; threads = threads }

unheld_tells : (system : System) (told : ℕ → List Op) (timed : ℕ → ℕ → Bool) (holder new_holder : Option ℕ) (thread past : ℕ) (ops : List Op) → (holder ≡ Some thread → ⊥)
    → Tells system told timed holder thread past ops → Tells system told timed new_holder thread past ops
unheld_tells system told timed holder new_holder thread past ops none tells = record {
  call = tells.call;
  block = tells.block;
  left = tells.left;
  at = tells.at;
  later_is = tells.later_is;
  held = elim tells.held [
    | inl held ↦ absurd (none held.1)
    | inr free ↦ inr free
  ];
  plain = tells.plain;
}

unheld : (system : System) (told : ℕ → List Op) (timed : ℕ → ℕ → Bool) (state new_state : List Value) (holder new_holder : Option ℕ) (thread : ℕ) (frame : Frame) (position : Position) → (holder ≡ Some thread → ⊥)
    → IsPlaced system told timed state holder thread frame position → IsPlaced system told timed new_state new_holder thread frame position
unheld system told timed state new_state holder new_holder thread frame Outside none is = is
unheld system told timed state new_state holder new_holder thread frame (At []) none is = is
unheld system told timed state new_state holder new_holder thread frame (At (Lock ∷ rest)) none is = is
unheld system told timed state new_state holder new_holder thread frame (At (WaitUntil block condition ∷ rest)) none is = absurd (none is.0)
unheld system told timed state new_state holder new_holder thread frame (At (ElseRefuse block ∷ rest)) none is = absurd (none is.0)
unheld system told timed state new_state holder new_holder thread frame (At (Run block otherwise ∷ rest)) none is = absurd (none is.0)
unheld system told timed state new_state holder new_holder thread frame (At (Notify note ∷ rest)) none is = unheld_tells system told timed holder new_holder thread frame.past (Notify note ∷ rest) none is
unheld system told timed state new_state holder new_holder thread frame (At (Unlock ∷ rest)) none is = unheld_tells system told timed holder new_holder thread frame.past (Unlock ∷ rest) none is
unheld system told timed state new_state holder new_holder thread frame (At (Release notes ∷ rest)) none is = unheld_tells system told timed holder new_holder thread frame.past (Release notes ∷ rest) none is
unheld system told timed state new_state holder new_holder thread frame (Asleep block condition rest) none is = is
unheld system told timed state new_state holder new_holder thread frame (Notified block condition rest) none is = is

-- another thread doesn't hold the mutex, or nothing changes
abbrev pub Stays : Moment → List Value → Option ℕ → ℕ → Type 0
Stays now state holder other = (now.holder ≡ Some other → ⊥) ⊎ ((now.state ≡ state) × (now.holder ≡ holder))

stays_placed : (system : System) (told : ℕ → List Op) (timed : ℕ → ℕ → Bool) (now : Moment) (state : List Value) (holder : Option ℕ) (other : ℕ) (frame : Frame) (position : Position) → Stays now state holder other
    → IsPlaced system told timed now.state now.holder other frame position → IsPlaced system told timed state holder other frame position
stays_placed system told timed now state holder other frame position (inl none) is = unheld system told timed now.state state now.holder holder other frame position none is
stays_placed system told timed now state holder other frame position (inr same) is =
    subst (λ (one : Option ℕ). IsPlaced system told timed state one other frame position) same.1 (subst (λ (one : List Value). IsPlaced system told timed one now.holder other frame position) same.0 is)

goes_placed : (system : System) (told : ℕ → List Op) (timed : ℕ → ℕ → Bool) (now : Moment) (state : List Value) (holder : Option ℕ) (ran : List Commit) (thread : ℕ) (frame : Frame) (position : Position) → ArePlaced system told timed now
    → IsPlaced system told timed state holder thread frame position → ((other : ℕ) → (other ≡ thread → ⊥) → Stays now state holder other)
    → ArePlaced system told timed (moment state holder ran (goes now.threads thread frame position))
goes_placed system told timed now state holder ran thread frame position placed new others other others_frame others_position at =
    elim (came now.threads thread (record { frame = frame; position = position }) other (record { frame = others_frame; position = others_position }) at) [
      | inl here ↦
          subst (λ (one : ℕ). IsPlaced system told timed state holder one others_frame others_position) (sym here.0)
          (subst (λ (one : Thread). IsPlaced system told timed state holder thread one.frame one.position) (sym here.1) new)
      | inr there ↦ stays_placed system told timed now state holder other others_frame others_position (others other there.0) (placed other others_frame others_position there.1)
    ]

held_apart : (now : Moment) (state : List Value) (holder : Option ℕ) (thread : ℕ) → now.holder ≡ Some thread → (other : ℕ) → (other ≡ thread → ⊥) → Stays now state holder other
held_apart now state holder thread held other differs = inl (λ is. differs (sym (same_Some thread other (sym held ∙ is))))

free_apart : (now : Moment) (state : List Value) (holder : Option ℕ) (thread : ℕ) → now.holder ≡ None → (other : ℕ) → (other ≡ thread → ⊥) → Stays now state holder other
free_apart now state holder thread free other differs = inl (λ is. none-some other (sym free ∙ is))

nothing_changes : (now : Moment) (thread : ℕ) (other : ℕ) → (other ≡ thread → ⊥) → Stays now now.state now.holder other
nothing_changes now thread other differs = inr (refl, refl)

-- ---- the parts of the code

-- blocks begin with a lock
entered : (system : System) (told : ℕ → List Op) (timed : ℕ → ℕ → Bool) (thread past : ℕ) (call : Call) (block left : ℕ) (rest : List Op) → IsAt system thread past call block left
    → Lock ∷ rest ≡ blocks_code system.monitor told (refuses_in system timed thread past call block) block left → Enters system told timed thread past rest
entered system told timed thread past call block zero rest at is = absurd (cc is)
entered system told timed thread past call block (suc left) rest at is =
    let tail : rest ≡ locked_code system told (refuses_in system timed thread past call block) block left = cc is in
    record { call = call; block = block; left = left; at = at; rest_is = tail }

-- a later block does not try
later_tries : (system : System) (told : ℕ → List Op) (timed : ℕ → ℕ → Bool) (thread past : ℕ) (call : Call) (block left : ℕ) → tries_in system call block ≡ false
    → later_code system told block left ≡ blocks_code system.monitor told (refuses_in system timed thread past call block) block left
later_tries system told timed thread past call block left patient =
    ap (λ (tries : Bool). blocks_code system.monitor told tries block left) (sym (and_right (not (timed thread past)) (tries_in system call block) patient))

pub tells_placed : (system : System) (told : ℕ → List Op) (timed : ℕ → ℕ → Bool) (state : List Value) (holder : Option ℕ) (thread : ℕ) (frame : Frame) (ops : List Op) → Tells system told timed holder thread frame.past ops
    → IsPlaced system told timed state holder thread frame (At ops)
tells_placed system told timed state holder thread frame [] tells = tt
tells_placed system told timed state holder thread frame (Lock ∷ rest) tells = entered system told timed thread frame.past tells.call tells.block tells.left rest tells.at tells.later_is
tells_placed system told timed state holder thread frame (WaitUntil block condition ∷ rest) tells = elim tells.held [
  | inl held ↦ never held.0
  | inr free ↦ never free
]
tells_placed system told timed state holder thread frame (ElseRefuse block ∷ rest) tells = elim tells.held [
  | inl held ↦ never held.0
  | inr free ↦ never free
]
tells_placed system told timed state holder thread frame (Run block otherwise ∷ rest) tells = elim tells.held [
  | inl held ↦ never held.0
  | inr free ↦ never free
]
tells_placed system told timed state holder thread frame (Notify note ∷ rest) tells = tells
tells_placed system told timed state holder thread frame (Unlock ∷ rest) tells = tells
tells_placed system told timed state holder thread frame (Release notes ∷ rest) tells = tells

-- the first block of a call
pub code_is : (system : System) (told : ℕ → List Op) (timed : ℕ → ℕ → Bool) (thread past : ℕ) (call : Call) (left : ℕ) → count_of system call ≡ suc left
    → call_code system told timed thread past call ≡ Lock ∷ locked_code system told (refuses_in system timed thread past call (first_of system call)) (first_of system call) left
code_is system told timed thread past call left counted =
    ap (λ (count : ℕ). blocks_code system.monitor told (not (timed thread past) && call.tries) (first_of system call) count) counted
    ∙ ap (λ (tries : Bool). Lock ∷ locked_code system told (not (timed thread past) && tries) (first_of system call) left) (tries_first system call)

begins_placed : (system : System) (told : ℕ → List Op) (timed : ℕ → ℕ → Bool) (state : List Value) (holder : Option ℕ) (thread : ℕ) (frame : Frame) (call : Call) → IsSystem system
    → slice_get (calls_of system.clients thread) frame.past ≡ Some call → IsPlaced system told timed state holder thread frame (At (call_code system told timed thread frame.past call))
begins_placed system told timed state holder thread frame call is call_is =
    let some = some_block system thread frame.past call is call_is in
    subst (λ (ops : List Op). IsPlaced system told timed state holder thread frame (At ops)) (sym (code_is system told timed thread frame.past call some.0 some.1)) (record {
      call = call;
      block = first_of system call;
      left = some.0;
      at = record { call_is = call_is; begins = omega arith; ends = ap (λ (count : ℕ). first_of system call + count) (sym some.1) };
      rest_is = refl;
    })

-- it tries where it is refused, since it has no time, or its method asserts
refused_tries : (system : System) (timed : ℕ → ℕ → Bool) (thread : ℕ) (frame : Frame) (call : Call) (block : ℕ) → Faced system thread frame call block
    → (refuses_in system timed thread frame.past call block || block_condition system.monitor block == 0) ≡ true → tries_in system call block ≡ true
refused_tries system timed thread frame call block here refused = elim (or_cases (refuses_in system timed thread frame.past call block) (block_condition system.monitor block == 0) refused) [
  | inl untimed ↦ (and_parts (not (timed thread frame.past)) (tries_in system call block) untimed).1
  | inr none ↦ here.asserted (sym (numbered_is system thread frame call block here) ∙ eqb-true (block_condition system.monitor block) 0 none)
]

-- with the mutex, at the test or at the body
locked_placed : (system : System) (told : ℕ → List Op) (timed : ℕ → ℕ → Bool) (state : List Value) (thread : ℕ) (frame : Frame) (call : Call) (block left : ℕ) → IsSystem system → IsAt system thread frame.past call block (suc left)
    → Faced system thread frame call block
    → (tries : Bool) → refuses_in system timed thread frame.past call block || block_condition system.monitor block == 0 ≡ tries → (tested : Bool) → is_guarded system.monitor block ≡ tested
    → IsPlaced system told timed state (Some thread) thread frame
    (At (cond tested (cond tries (ElseRefuse block ∷ passed_code system told block left) (WaitUntil block (block_condition system.monitor block) ∷ passed_code system told block left))
    (passed_code system told block left)))
locked_placed system told timed state thread frame call block left is at here true trying true tested =
    (refl, record { call = call; left = left; at = at; tries = refused_tries system timed thread frame call block here trying; rest_is = refl })
locked_placed system told timed state thread frame call block left is at here false trying true tested =
    let neither = or_parts (refuses_in system timed thread frame.past call block) (block_condition system.monitor block == 0) trying in
    (refl, record { call = call; left = left; at = at; patient = neither.0; waited_on = tested_waited system thread frame call block is here tested neither.1; condition_is = refl; rest_is = refl })
locked_placed system told timed state thread frame call block left is at here true trying false tested =
    (refl, record { call = call; left = left; at = at; open_is = open_untested system told timed state thread frame call block (suc left) at here tested; otherwise_is = refl; rest_is = refl })
locked_placed system told timed state thread frame call block left is at here false trying false tested =
    (refl, record { call = call; left = left; at = at; open_is = open_untested system told timed state thread frame call block (suc left) at here tested; otherwise_is = refl; rest_is = refl })

-- the test was passed
passed_placed : (system : System) (told : ℕ → List Op) (timed : ℕ → ℕ → Bool) (state : List Value) (holder : Option ℕ) (thread : ℕ) (frame : Frame) (call : Call) (block left : ℕ) (rest : List Op)
    → holder ≡ Some thread → IsAt system thread frame.past call block (suc left) → is_open (program_with system told timed) state thread frame block ≡ true → rest ≡ passed_code system told block left
    → IsPlaced system told timed state holder thread frame (At rest)
passed_placed system told timed state holder thread frame call block left rest held at open_is rest_is =
    subst (λ (ops : List Op). IsPlaced system told timed state holder thread frame (At ops)) (sym rest_is)
    (held, record { call = call; left = left; at = at; open_is = open_is; otherwise_is = refl; rest_is = refl })

-- what is known of one that passes a test
pub record Passed (system : System) (told : ℕ → List Op) (timed : ℕ → ℕ → Bool) (now : Moment) (thread : ℕ) (frame : Frame) (op : Op) (block : ℕ) (rest : List Op) : Type 0 where
  pub held : now.holder ≡ Some thread
  pub call : Call
  pub left : ℕ
  pub at : IsAt system thread frame.past call block (suc left)
  pub rest_is : rest ≡ passed_code system told block left
  pub next_is : next_block (op ∷ rest) ≡ Some block
  pub inside_is : stage_at (At (op ∷ rest)) ≡ Inside

pub passed_at : (system : System) (told : ℕ → List Op) (timed : ℕ → ℕ → Bool) (now : Moment) → ArePlaced system told timed now → (thread : ℕ) (frame : Frame) (op : Op) (block : ℕ) (rest : List Op)
    → IsThread now.threads thread frame (At (op ∷ rest)) → tested_block op ≡ Some block → Passed system told timed now thread frame op block rest
passed_at system told timed now placed thread frame (WaitUntil block condition) number rest at tests =
    let loops = placed thread frame (At (WaitUntil block condition ∷ rest)) at in
    let same : block ≡ number = same_Some block number tests in
    record {
      held = loops.0;
      call = loops.1.call;
      left = loops.1.left;
      at = subst (λ (one : ℕ). IsAt system thread frame.past loops.1.call one (suc loops.1.left)) same loops.1.at;
      rest_is = loops.1.rest_is ∙ ap (λ (one : ℕ). passed_code system told one loops.1.left) same;
      next_is = tests;
      inside_is = refl;
    }
passed_at system told timed now placed thread frame (ElseRefuse block) number rest at tests =
    let trying = placed thread frame (At (ElseRefuse block ∷ rest)) at in
    let same : block ≡ number = same_Some block number tests in
    record {
      held = trying.0;
      call = trying.1.call;
      left = trying.1.left;
      at = subst (λ (one : ℕ). IsAt system thread frame.past trying.1.call one (suc trying.1.left)) same trying.1.at;
      rest_is = trying.1.rest_is ∙ ap (λ (one : ℕ). passed_code system told one trying.1.left) same;
      next_is = tests;
      inside_is = refl;
    }
passed_at system told timed now placed thread frame Lock number rest at tests = absurd (none-some number tests)
passed_at system told timed now placed thread frame (Run block otherwise) number rest at tests = absurd (none-some number tests)
passed_at system told timed now placed thread frame (Notify note) number rest at tests = absurd (none-some number tests)
passed_at system told timed now placed thread frame Unlock number rest at tests = absurd (none-some number tests)
passed_at system told timed now placed thread frame (Release notes) number rest at tests = absurd (none-some number tests)

-- ---- after a body, or a refusal

signal_plain : (system : System) (condition : ℕ) (test : Bool) → All (IsTestable system.monitor) (cond test (signal_on condition ∷ []) [])
signal_plain system condition true =
    All-cons (IsTestable system.monitor) (signal_on condition) [] (λ tested which is. absurd (true≢false (sym tested))) (All-nil (IsTestable system.monitor))
signal_plain system condition false = All-nil (IsTestable system.monitor)

-- at the end of the call, with these notes to make
end_tells : (system : System) (told : ℕ → List Op) (timed : ℕ → ℕ → Bool) (holder : Option ℕ) (thread past : ℕ) (call : Call) (block left : ℕ) (notes_left : List Note) → IsAt system thread past call block (suc left)
    → holder ≡ Some thread → All (IsTestable system.monitor) notes_left → Tells system told timed holder thread past (telling_code notes_left)
end_tells system told timed holder thread past call block left notes_left at held plain = record {
  call = call;
  block = first_of system call + count_of system call;
  left = zero;
  at = end_at system thread past call block left at;
  later_is = telling_lock notes_left;
  held = inl (telling_locked notes_left, held);
  plain = subst (All (IsTestable system.monitor)) (sym (telling_notes notes_left)) plain;
}

pub body_tells : (system : System) (told : ℕ → List Op) (timed : ℕ → ℕ → Bool) → IsTold system told → (holder : Option ℕ) (thread past : ℕ) (call : Call) (block left : ℕ) → IsAt system thread past call block (suc left)
    → holder ≡ Some thread → Tells system told timed holder thread past (told_code system told block left)
body_tells system told timed order holder thread past call block left at held =
    let later = follows_locked system told (block + 1) left (told block) (order.shape block) in
    record {
      call = call;
      block = block + 1;
      left = left;
      at = next_at system thread past call block left at;
      later_is = later.lock ∙ later_tries system told timed thread past call (block + 1) left (tries_later system call (block + 1) (omega (arith, at.begins)));
      held = inl (locked_later system told (block + 1) left (told block) (order.shape block), held);
      plain = subst (All (IsTestable system.monitor)) (sym later.notes) (order.testable block);
    }

pub overflow_tells : (system : System) (told : ℕ → List Op) (timed : ℕ → ℕ → Bool) (holder : Option ℕ) (thread past : ℕ) (call : Call) (block left : ℕ) → IsAt system thread past call block (suc left)
    → holder ≡ Some thread → Tells system told timed holder thread past (telling_code (overflow_notes system.monitor block))
overflow_tells system told timed holder thread past call block left at held =
    end_tells system told timed holder thread past call block left (overflow_notes system.monitor block) at held
    (signal_plain system (block_condition system.monitor block) (is_waited_on system.monitor (block_condition system.monitor block)))

pub refusal_tells : (system : System) (told : ℕ → List Op) (timed : ℕ → ℕ → Bool) (holder : Option ℕ) (thread past : ℕ) (call : Call) (block left : ℕ) → IsAt system thread past call block (suc left)
    → holder ≡ Some thread → Tells system told timed holder thread past (Unlock ∷ [])
refusal_tells system told timed holder thread past call block left at held = end_tells system told timed holder thread past call block left [] at held (All-nil (IsTestable system.monitor))

pub continues_tells : (system : System) (told : ℕ → List Op) (timed : ℕ → ℕ → Bool) → IsTold system told → (holder : Option ℕ) (thread past : ℕ) (call : Call) (block left : ℕ) → IsAt system thread past call block (suc left)
    → holder ≡ Some thread → (reply : Reply) (otherwise : List Note) (rest : List Op) → otherwise ≡ overflow_notes system.monitor block → rest ≡ told_code system told block left
    → Tells system told timed holder thread past (continues reply otherwise rest)
continues_tells system told timed order holder thread past call block left at held replies.Overflow otherwise rest otherwise_is rest_is =
    subst (λ (some : List Note). Tells system told timed holder thread past (telling_code some)) (sym otherwise_is) (overflow_tells system told timed holder thread past call block left at held)
continues_tells system told timed order holder thread past call block left at held replies.Unit otherwise rest otherwise_is rest_is =
    subst (Tells system told timed holder thread past) (sym rest_is) (body_tells system told timed order holder thread past call block left at held)
continues_tells system told timed order holder thread past call block left at held (replies.Int number) otherwise rest otherwise_is rest_is =
    subst (Tells system told timed holder thread past) (sym rest_is) (body_tells system told timed order holder thread past call block left at held)
continues_tells system told timed order holder thread past call block left at held (replies.Bool truth) otherwise rest otherwise_is rest_is =
    subst (Tells system told timed holder thread past) (sym rest_is) (body_tells system told timed order holder thread past call block left at held)
continues_tells system told timed order holder thread past call block left at held replies.Refused otherwise rest otherwise_is rest_is =
    subst (Tells system told timed holder thread past) (sym rest_is) (body_tells system told timed order holder thread past call block left at held)

-- after a panic
pub panic_tells : (system : System) (told : ℕ → List Op) (timed : ℕ → ℕ → Bool) (now : Moment) (thread : ℕ) (frame : Frame) (block : ℕ) (otherwise : List Note) (rest : List Op)
    → (now.holder ≡ Some thread) × IsReady system told timed now.state thread frame block otherwise rest
    → Tells system told timed now.holder thread frame.past (recovers (program_with system told timed) thread frame block otherwise rest)
panic_tells system told timed now thread frame block otherwise rest ready =
    let at = ready.1.at in
    let call = ready.1.call in
    let trying = at_once (program_with system told timed) thread frame (tries_there (program_with system told timed) thread frame block) in
    let tries : trying ≡ refuses_in system timed thread frame.past call block =
    ap (λ (test : Bool). not (timed thread frame.past) && test) (tries_is system thread frame call block (suc ready.1.left) at) in
    let again = Lock ∷ test_code system.monitor trying block (Run block otherwise ∷ rest) in
    let passed : Run block otherwise ∷ rest ≡ passed_code system told block ready.1.left = λ i. Run block (ready.1.otherwise_is i) ∷ ready.1.rest_is i in
    record {
      call = call;
      block = block;
      left = suc ready.1.left;
      at = at;
      later_is = then_lock otherwise again ∙ (λ i. Lock ∷ test_code system.monitor (tries i) block (passed i));
      held = inl (again_locked (program_with system told timed) thread frame block otherwise rest, ready.0);
      plain = subst (All (IsTestable system.monitor)) (sym (again_notes (program_with system told timed) thread frame block otherwise rest ∙ ready.1.otherwise_is))
          (signal_plain system (block_condition system.monitor block) (is_waited_on system.monitor (block_condition system.monitor block)));
    }

-- ---- the notes

pub after_note : (system : System) (told : ℕ → List Op) (timed : ℕ → ℕ → Bool) (holder : Option ℕ) (thread past : ℕ) (note : Note) (rest : List Op) → Tells system told timed holder thread past (Notify note ∷ rest)
    → Tells system told timed holder thread past rest
after_note system told timed holder thread past note rest tells = record {
  call = tells.call;
  block = tells.block;
  left = tells.left;
  at = tells.at;
  later_is = tells.later_is;
  held = elim tells.held [
    | inl held ↦ inl held
    | inr free ↦ inr (and_parts (not note.tested) (now_free rest) free).1
  ];
  plain = All-tail (IsTestable system.monitor) note (notes_to_come rest) tells.plain;
}

-- the mutex is given back
pub after_unlock : (system : System) (told : ℕ → List Op) (timed : ℕ → ℕ → Bool) (holder : Option ℕ) (thread past : ℕ) (rest : List Op) → Tells system told timed holder thread past (Unlock ∷ rest)
    → (holder ≡ Some thread) × Tells system told timed None thread past rest
after_unlock system told timed holder thread past rest tells = elim tells.held [
  | inr free ↦ never free
  | inl held ↦ (
    held.1,
    record {
      call = tells.call;
      block = tells.block;
      left = tells.left;
      at = tells.at;
      later_is = tells.later_is;
      held = inr held.0;
      plain = tells.plain;
    },
  )
]

pub all_first : (P : Note → Type 0) (notes more : List Note) → All P (notes ++ more) → All P notes
all_first P [] more all = All-nil P
all_first P (note ∷ notes) more all = All-cons P note notes (All-head P note (notes ++ more) all) (all_first P notes more (All-tail P note (notes ++ more) all))

all_after : (P : Note → Type 0) (notes more : List Note) → All P (notes ++ more) → All P more
all_after P [] more all = all
all_after P (note ∷ notes) more all = all_after P notes more (All-tail P note (notes ++ more) all)

-- with the notes that are called for to come
pub after_release : (system : System) (told : ℕ → List Op) (timed : ℕ → ℕ → Bool) (now : Moment) (holder : Option ℕ) (thread past : ℕ) (notes : List Note) (rest : List Op) → Tells system told timed holder thread past (Release notes ∷ rest)
    → (holder ≡ Some thread) × Tells system told timed None thread past (called_for (program_with system told timed) now notes rest)
after_release system told timed now holder thread past notes rest tells = elim tells.held [
  | inr free ↦ never free
  | inl held ↦ (
    held.1,
    record {
      call = tells.call;
      block = tells.block;
      left = tells.left;
      at = tells.at;
      later_is = called_lock (program_with system told timed) now notes rest ∙ tells.later_is;
      held = inr (called_free (program_with system told timed) now notes rest held.0);
      plain = called_all (IsTestable system.monitor) (λ note tested which is. absurd (true≢false (sym tested))) (program_with system told timed) now notes rest
          (all_after (IsTestable system.monitor) notes (notes_to_come rest) tells.plain);
    },
  )
]

pub shape_of : {system : System} {told : ℕ → List Op} {timed : ℕ → ℕ → Bool} {holder : Option ℕ} {thread past : ℕ} {ops : List Op} → Tells system told timed holder thread past ops → (now_locked ops ≡ true) ⊎ (now_free ops ≡ true)
shape_of tells = elim tells.held [
  | inl held ↦ inl held.0
  | inr free ↦ inr free
]

pub notified_placed : (system : System) (told : ℕ → List Op) (timed : ℕ → ℕ → Bool) (now : Moment) (note : Note) (woken : List Thread) → ArePlaced system told timed now → AreNotified (program_with system told timed) now note woken
    → ArePlaced system told timed (moment now.state now.holder now.ran woken)
notified_placed system told timed now note woken placed (inl first) =
    subst (λ (threads : List Thread). ArePlaced system told timed (moment now.state now.holder now.ran threads)) (sym first.becomes)
    (goes_placed system told timed now now.state now.holder now.ran first.target first.target_frame (Notified first.block note.condition first.rest) placed
    (placed first.target first.target_frame (Asleep first.block note.condition first.rest) first.sleeps) (nothing_changes now first.target))
notified_placed system told timed now note woken placed (inr (inl each)) =
    subst (λ (threads : List Thread). ArePlaced system told timed (moment now.state now.holder now.ran threads)) (sym each.becomes) (λ thread frame position at.
    elim (thread_before note.condition now.threads thread frame position at) [
      | inl same ↦ placed thread frame position same
      | inr slept ↦ subst (λ (one : Position). IsPlaced system told timed now.state now.holder thread frame one) (sym slept.3) (placed thread frame (Asleep slept.0 note.condition slept.1) slept.2)
    ])
notified_placed system told timed now note woken placed (inr (inr nobody)) =
    subst (λ (threads : List Thread). ArePlaced system told timed (moment now.state now.holder now.ran threads)) (sym nobody.becomes) placed

-- ---- each move

pub move_placed : (system : System) (told : ℕ → List Op) (timed : ℕ → ℕ → Bool) → IsSystem system → IsTold system told → (before next : Moment) → IsSoundly system told timed before → IsMove (program_with system told timed) before next
    → ArePlaced system told timed next
move_placed system told timed is order before next sound (calls thread frame move) =
    let begun : Frame = record { past = frame.past; locals = _; answer = replies.Unit } in
    subst (ArePlaced system told timed) (sym move.becomes)
    (goes_placed system told timed before before.state before.holder before.ran thread begun (At (call_code system told timed thread frame.past move.call)) sound.placed
    (begins_placed system told timed before.state before.holder thread begun move.call is move.call_is) (nothing_changes before thread))
move_placed system told timed is order before next sound (takes thread frame move) =
    let enters = sound.placed thread frame (At (Lock ∷ move.rest)) move.at in
    let call = enters.call in
    let block = enters.block in
    let place = ap (λ (ops : List Op). place_by system thread frame (next_block ops)) enters.rest_is ∙ ap (place_by system thread frame) (next_locked system told (refuses_in system timed thread frame.past call block) block enters.left) in
    let here = faced_there system told timed before is sound thread frame (At (Lock ∷ move.rest)) move.at call block (suc enters.left) place enters.at in
    subst (ArePlaced system told timed) (sym move.becomes)
    (goes_placed system told timed before before.state (Some thread) before.ran thread frame (At move.rest) sound.placed
    (subst (λ (ops : List Op). IsPlaced system told timed before.state (Some thread) thread frame (At ops)) (sym enters.rest_is)
    (locked_placed system told timed before.state thread frame call block enters.left is enters.at here (refuses_in system timed thread frame.past call block || block_condition system.monitor block == 0) refl (is_guarded system.monitor block) refl))
    (free_apart before before.state (Some thread) thread move.free))
move_placed system told timed is order before next sound (passes thread frame move) =
    let passed = passed_at system told timed before sound.placed thread frame move.op move.block move.rest move.at move.tests in
    subst (ArePlaced system told timed) (sym move.becomes)
    (goes_placed system told timed before before.state before.holder before.ran thread frame (At move.rest) sound.placed
    (passed_placed system told timed before.state before.holder thread frame passed.call move.block passed.left move.rest passed.held passed.at move.open_is passed.rest_is)
    (nothing_changes before thread))
move_placed system told timed is order before next sound (falls_asleep thread frame move) =
    let loops = sound.placed thread frame (At (WaitUntil move.block move.condition ∷ move.rest)) move.at in
    subst (ArePlaced system told timed) (sym move.becomes)
    (goes_placed system told timed before before.state None before.ran thread frame (Asleep move.block move.condition move.rest) sound.placed loops.1 (held_apart before before.state None thread loops.0))
move_placed system told timed is order before next sound (wakes thread frame move) =
    subst (ArePlaced system told timed) (sym move.becomes)
    (goes_placed system told timed before before.state before.holder before.ran thread frame (Notified move.block move.condition move.rest) sound.placed
    (sound.placed thread frame (Asleep move.block move.condition move.rest) move.at) (nothing_changes before thread))
move_placed system told timed is order before next sound (retakes thread frame move) =
    subst (ArePlaced system told timed) (sym move.becomes)
    (goes_placed system told timed before before.state (Some thread) before.ran thread frame (At (WaitUntil move.block move.condition ∷ move.rest)) sound.placed
    (refl, sound.placed thread frame (Notified move.block move.condition move.rest) move.at) (free_apart before before.state (Some thread) thread move.free))
move_placed system told timed is order before next sound (refuses thread frame move) =
    let trying = sound.placed thread frame (At (ElseRefuse move.block ∷ move.rest)) move.at in
    let refused : Frame = record { past = frame.past; locals = frame.locals; answer = replies.Refused } in
    subst (ArePlaced system told timed) (sym move.becomes)
    (goes_placed system told timed before before.state before.holder (before.ran ++ commit_of (program_with system told timed) thread frame move.block replies.Refused ∷ []) thread refused (At (Unlock ∷ [])) sound.placed
    (refusal_tells system told timed before.holder thread frame.past trying.1.call move.block trying.1.left trying.1.at trying.0) (nothing_changes before thread))
move_placed system told timed is order before next sound (abandons thread frame move) =
    let loops = sound.placed thread frame (At (WaitUntil move.block move.condition ∷ move.rest)) move.at in
    let refused : Frame = record { past = frame.past; locals = frame.locals; answer = replies.Refused } in
    subst (ArePlaced system told timed) (sym move.becomes)
    (goes_placed system told timed before before.state before.holder (before.ran ++ commit_of (program_with system told timed) thread frame move.block replies.Refused ∷ []) thread refused (At (Unlock ∷ [])) sound.placed
    (refusal_tells system told timed before.holder thread frame.past loops.1.call move.block loops.1.left loops.1.at loops.0) (nothing_changes before thread))
move_placed system told timed is order before next sound (runs_body thread frame move) =
    let ready = sound.placed thread frame (At (Run move.block move.otherwise ∷ move.rest)) move.at in
    let ran_frame : Frame = record { past = frame.past; locals = move.locals; answer = move.reply } in
    subst (ArePlaced system told timed) (sym move.becomes)
    (goes_placed system told timed before move.state before.holder (before.ran ++ commit_of (program_with system told timed) thread frame move.block move.reply ∷ []) thread ran_frame (At (continues move.reply move.otherwise move.rest)) sound.placed
    (tells_placed system told timed move.state before.holder thread ran_frame (continues move.reply move.otherwise move.rest)
    (continues_tells system told timed order before.holder thread frame.past ready.1.call move.block ready.1.left ready.1.at ready.0 move.reply move.otherwise move.rest ready.1.otherwise_is ready.1.rest_is))
    (held_apart before move.state before.holder thread ready.0))
move_placed system told timed is order before next sound (panics thread frame move) =
    let ready = sound.placed thread frame (At (Run move.block move.otherwise ∷ move.rest)) move.at in
    let ops = recovers (program_with system told timed) thread frame move.block move.otherwise move.rest in
    subst (ArePlaced system told timed) (sym move.becomes)
    (goes_placed system told timed before before.state before.holder before.ran thread frame (At ops) sound.placed
    (tells_placed system told timed before.state before.holder thread frame ops (panic_tells system told timed before thread frame move.block move.otherwise move.rest ready)) (nothing_changes before thread))
move_placed system told timed is order before next sound (notifies thread frame move) =
    let tells = sound.placed thread frame (At (Notify move.note ∷ move.rest)) move.at in
    let woken = notified_placed system told timed before move.note move.woken sound.placed move.notified in
    let middle = moment before.state before.holder before.ran move.woken in
    subst (ArePlaced system told timed) (sym move.becomes)
    (goes_placed system told timed middle before.state before.holder before.ran thread frame (At move.rest) woken
    (tells_placed system told timed before.state before.holder thread frame move.rest (after_note system told timed before.holder thread frame.past move.note move.rest tells)) (nothing_changes middle thread))
move_placed system told timed is order before next sound (unlocks thread frame move) =
    let ends = after_unlock system told timed before.holder thread frame.past move.rest (sound.placed thread frame (At (Unlock ∷ move.rest)) move.at) in
    subst (ArePlaced system told timed) (sym move.becomes)
    (goes_placed system told timed before before.state None before.ran thread frame (At move.rest) sound.placed
    (tells_placed system told timed before.state None thread frame move.rest ends.1) (held_apart before before.state None thread ends.0))
move_placed system told timed is order before next sound (releases thread frame move) =
    let ends = after_release system told timed before before.holder thread frame.past move.notes move.rest (sound.placed thread frame (At (Release move.notes ∷ move.rest)) move.at) in
    let ops = called_for (program_with system told timed) before move.notes move.rest in
    subst (ArePlaced system told timed) (sym move.becomes)
    (goes_placed system told timed before before.state None before.ran thread frame (At ops) sound.placed
    (tells_placed system told timed before.state None thread frame ops ends.1) (held_apart before before.state None thread ends.0))
move_placed system told timed is order before next sound (returns thread frame move) =
    let returned : Frame = record { past = frame.past + 1; locals = frame.locals; answer = frame.answer } in
    subst (ArePlaced system told timed) (sym move.becomes)
    (goes_placed system told timed before before.state before.holder before.ran thread returned Outside sound.placed tt (nothing_changes before thread))

-- ---- the start

pub start_position : (clients : List Client) (thread : ℕ) (frame : Frame) (position : Position) → IsThread (map (λ client. new_thread) clients) thread frame position
    → (frame ≡ new_thread.frame) × (position ≡ Outside)
start_position [] thread frame position at = absurd (none-some (record { frame = frame; position = position }) at)
start_position (first ∷ more) zero frame position at =
    let same : new_thread ≡ record { frame = frame; position = position } = same_Some new_thread (record { frame = frame; position = position }) at in
    (sym (ap (λ (one : Thread). one.frame) same), sym (ap (λ (one : Thread). one.position) same))
start_position (first ∷ more) (suc thread) frame position at = start_position more thread frame position at

pub start_placed : (system : System) (told : ℕ → List Op) (timed : ℕ → ℕ → Bool) → ArePlaced system told timed (start (program_with system told timed))
start_placed system told timed thread frame position at =
    subst (IsPlaced system told timed (start (program_with system told timed)).state None thread frame) (sym (start_position system.clients thread frame position at).1) tt
