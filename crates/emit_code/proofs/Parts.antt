-- The block that a thread is at in its call, and the parts of the code.
use Rattle.std.proofs.Common.{◌≡◌, ◌==◌, ℕ, zero, suc, ◌+◌, ◌-◌, ◌<◌, ◌≤◌, ◌⊎◌, Bool, true, false, cond, not, ◌&&◌, ◌||◌, List, [], ◌∷◌, ◌++◌, Option, Some, None, refl, sym, ap, subst, ◌∙◌, arith, inl, inr}
use Rattle.std.specs.Prelude.{All, slice_get}
use Rattle.std.specs.List.{list_any}
use Rattle.std.specs.Option.{option_map_or}
use Rattle.std.proofs.lemmas.Option.{same_Some, slice_get_within}
use Rattle.std.proofs.lemmas.Bool.{true≢false, and_parts, and_from, and_right, or_cases, or_left, or_right, eq-eqb, ne_eqb, eqb-false, cases_Bool}
use Rattle.std.proofs.lemmas.List.Elements.{All-cons, All-head, All-tail}
use Rattle.logic_linear.specs.declared.formula.Formula.{Formula}
use Rattle.logic_linear.specs.declared.formula.Formula.TheOpen.{Formula-F, Row, Flag, All as Every, Any as Some_of}
use Rattle.logic_linear.specs.declared.formula.Formula.TheFolds.{ind-Formula, map-Formula, fold-roll-Formula}
use Rattle.logic_linear.specs.Truth.{Valuation, layer_truth, truth_of}
use Rattle.lang_base.specs.declared.value.Value.{Value}
use Rattle.lang_monitor.specs.declared.monitor.Block.{Block}
use Rattle.lang_monitor.specs.declared.monitor.Method.{Method}
use Rattle.lang_monitor.specs.declared.monitor.Condition.{Condition}
use Rattle.lang_monitor.specs.MonitorParts.{MonitorParts, first_in, count_in}
use Rattle.lang_monitor.specs.Bodies.{valuation}
use Rattle.machine_implicit.specs.declared.script.Call.{Call}
use Rattle.machine_implicit.specs.Steps.{given, guard_truth}
use Rattle.machine_implicit.specs.Scripted.{FitsCall, calls_of}
use Rattle.machine_implicit.specs.Places.{block_at, inputs_at, tries_at, FitsPlace}
use Rattle.machine_implicit.proofs.Fitting.{at_index, all_at, calls_fit}
use Rattle.machine_events.specs.declared.plan.Note.{Note}
use Rattle.machine_events.specs.Configurations.{System, guard_of, block_condition, waited_condition}
use Rattle.machine_events.specs.declared.event.Stage.TheVariants.{Inside, Notifying}
use Rattle.machine_events.specs.Pending.{IsSystem}
use Rattle.machine_events.proofs.Facing.{Faces, faces, guard_is, has_condition, own_guard}
use Rattle.emit_code.specs.Code.{Op, is_always_step, is_always, is_waited_on, is_guarded, telling_code, test_code, running_code, blocks_code, code_with}
use Rattle.emit_code.specs.Code.Op.{Lock, WaitUntil, ElseRefuse, Run, Notify, Unlock, Release}
use Rattle.emit_code.specs.Executions.{Program, Moment, Frame, is_open, program_with, at_once, telling_then, recovers, tries_there, is_called_for, untested, called_for}
use Rattle.emit_code.specs.Executions.Position.{At}
use Rattle.emit_code.specs.Orders.{notes_to_come, is_free, is_locked}
use Rattle.emit_code.proofs.Views.{next_block, number_at, place_by, stage_at}

-- ---- where a thread is in its call

abbrev pub first_of : System → Call → ℕ
first_of system call = first_in (slice_get system.monitor.methods call.method)

abbrev pub count_of : System → Call → ℕ
count_of system call = count_in (slice_get system.monitor.methods call.method)

-- it tries at this block
abbrev pub tries_in : System → Call → ℕ → Bool
tries_in system call block = call.tries && (block - first_of system call) == 0

-- it is refused at once there where the guard is false: it tries, and has no time
abbrev pub refuses_in : System → (ℕ → ℕ → Bool) → ℕ → ℕ → Call → ℕ → Bool
refuses_in system timed thread past call block = not (timed thread past) && tries_in system call block

-- the thread is at this call, and its blocks from this one on are left
pub record IsAt (system : System) (thread past : ℕ) (call : Call) (block left : ℕ) : Type 0 where
  pub call_is : slice_get (calls_of system.clients thread) past ≡ Some call
  pub begins : first_of system call ≤ block
  pub ends : block + left ≡ first_of system call + count_of system call

-- the code of the blocks that are left
abbrev pub later_code : System → (ℕ → List Op) → ℕ → ℕ → List Op
later_code system told block left = blocks_code system.monitor told false block left

-- of a block and those after it, with the mutex
abbrev pub locked_code : System → (ℕ → List Op) → Bool → ℕ → ℕ → List Op
locked_code system told tries block left =
    test_code system.monitor tries block (running_code system.monitor told block (later_code system told (block + 1) left))

-- after its test
abbrev pub passed_code : System → (ℕ → List Op) → ℕ → ℕ → List Op
passed_code system told block left = running_code system.monitor told block (later_code system told (block + 1) left)

-- after its body
abbrev pub told_code : System → (ℕ → List Op) → ℕ → ℕ → List Op
told_code system told block left = told block ++ later_code system told (block + 1) left

-- of a call
abbrev pub call_code : System → (ℕ → List Op) → (ℕ → ℕ → Bool) → ℕ → ℕ → Call → List Op
call_code system told timed thread past call = code_with system.monitor told call.method (not (timed thread past) && call.tries)

pub number_is : (system : System) (thread past : ℕ) (call : Call) (block left : ℕ) → IsAt system thread past call block left → number_at system thread past block ≡ block - first_of system call
number_is system thread past call block left at = ap (λ (one : Option Call). option_map_or (λ call. block - first_in (slice_get system.monitor.methods call.method)) one 0) at.call_is

pub block_is : (system : System) (thread : ℕ) (frame : Frame) (call : Call) (block left : ℕ) → IsAt system thread frame.past call block left
    → block_at system.monitor call (place_by system thread frame (Some block)) ≡ block
block_is system thread frame call block left at =
    let number = number_is system thread frame.past call block left at in
    let whole : first_of system call + (block - first_of system call) ≡ block = omega (arith, at.begins) in
    ap (λ (one : ℕ). first_of system call + one) number ∙ whole

pub condition_at : (system : System) (thread : ℕ) (frame : Frame) (call : Call) (block left : ℕ) → IsAt system thread frame.past call block left
    → waited_condition system thread (place_by system thread frame (Some block)) ≡ block_condition system.monitor block
condition_at system thread frame call block left at =
    ap (λ (one : Option Call). option_map_or (λ call. block_condition system.monitor (block_at system.monitor call (place_by system thread frame (Some block)))) one 0) at.call_is
    ∙ ap (block_condition system.monitor) (block_is system thread frame call block left at)

pub tries_is : (system : System) (thread : ℕ) (frame : Frame) (call : Call) (block left : ℕ) → IsAt system thread frame.past call block left
    → tries_at system.clients thread (place_by system thread frame (Some block)) ≡ tries_in system call block
tries_is system thread frame call block left at =
    ap (λ (one : Option Call). option_map_or (λ call. call.tries && number_at system thread frame.past block == 0) one false) at.call_is
    ∙ ap (λ (one : ℕ). call.tries && one == 0) (number_is system thread frame.past call block left at)

-- the test of the loop is that of the client's guard
pub open_is_guard : (system : System) (told : ℕ → List Op) (timed : ℕ → ℕ → Bool) (state : List Value) (thread : ℕ) (frame : Frame) (call : Call) (block left : ℕ) → IsAt system thread frame.past call block left
    → is_open (program_with system told timed) state thread frame block ≡ guard_of system state thread (place_by system thread frame (Some block))
open_is_guard system told timed state thread frame call block left at =
    let place = place_by system thread frame (Some block) in
    ap (λ (one : Option Call). option_map_or (λ call. guard_truth system.monitor state block (given call.inputs frame.locals)) one false) at.call_is
    ∙ ap (λ (one : ℕ). guard_truth system.monitor state one (given call.inputs frame.locals)) (sym (block_is system thread frame call block left at))
    ∙ sym (ap (λ (one : Option Call). option_map_or (λ call. guard_truth system.monitor state (block_at system.monitor call place) (inputs_at call place)) one false) at.call_is)

-- ---- the block that it is at

pub record Faced (system : System) (thread : ℕ) (frame : Frame) (call : Call) (number : ℕ) : Type 0 where
  pub block : Block
  pub faced : Faces system thread (place_by system thread frame (Some number)) call block
  pub there : slice_get system.monitor.blocks number ≡ Some block
  pub asserted : block.condition ≡ 0 → tries_in system call number ≡ true

pub faced_at : (system : System) (thread : ℕ) (frame : Frame) (call : Call) (block left : ℕ) → IsSystem system → IsAt system thread frame.past call block left
    → FitsPlace system.monitor system.clients thread (place_by system thread frame (Some block)) → Faced system thread frame call block
faced_at system thread frame call block left is at fits =
    let place = place_by system thread frame (Some block) in
    let found = faces system thread place is.rule is.scripts fits (slice_get_within (calls_of system.clients thread) frame.past call at.call_is) in
    let same : found.0 ≡ call = same_Some found.0 call (sym found.2.call_is ∙ at.call_is) in
    let faced : Faces system thread place call found.1 = subst (λ (one : Call). Faces system thread place one found.1) same found.2 in
    record {
      block = found.1;
      faced = faced;
      there = ap (slice_get system.monitor.blocks) (sym (block_is system thread frame call block left at)) ∙ faced.block_is;
      asserted = λ none. elim (cases_Bool (tries_at system.clients thread place)) [
        | inl tries ↦ sym (tries_is system thread frame call block left at) ∙ tries
        | inr patient ↦ absurd (omega (arith, none, has_condition system thread place call found.1 is.rule is.scripts fits faced patient))
      ];
    }

-- ---- a guard that is `true`

abbrev HoldsAlways : Formula → Type 0
HoldsAlways formula = is_always formula ≡ true → (v : Valuation) → truth_of v formula ≡ true

layer_always : (v : Valuation) (layer : Formula-F Formula) → is_always_step (map-Formula _ Bool is_always layer) ≡ true → layer_truth v (map-Formula _ Bool (truth_of v) layer) ≡ true
layer_always v (Row form) is = absurd (true≢false (sym is))
layer_always v (Flag place truth) is = absurd (true≢false (sym is))
layer_always v (Every []) is = refl
layer_always v (Every (part ∷ parts)) is = absurd (true≢false (sym is))
layer_always v (Some_of parts) is = absurd (true≢false (sym is))

pub holds_always : (formula : Formula) → HoldsAlways formula
holds_always = ind-Formula HoldsAlways (λ layer parts is always v.
    fold-roll-Formula Bool (layer_truth v) layer ∙ layer_always v layer (sym (fold-roll-Formula Bool is_always_step layer) ∙ always))

pub not_false : (b : Bool) → not b ≡ false → b ≡ true
not_false true is = refl
not_false false is = absurd (true≢false is)

pub guarded_is : (system : System) (thread : ℕ) (frame : Frame) (call : Call) (number : ℕ) (here : Faced system thread frame call number)
    → is_guarded system.monitor number ≡ not (is_always here.block.guard)
guarded_is system thread frame call number here = ap (λ (one : Option Block). option_map_or (λ which. not (is_always which.guard)) one false) here.there

pub numbered_is : (system : System) (thread : ℕ) (frame : Frame) (call : Call) (number : ℕ) (here : Faced system thread frame call number)
    → block_condition system.monitor number ≡ here.block.condition
numbered_is system thread frame call number here = ap (λ (one : Option Block). option_map_or (λ block. block.condition) one 0) here.there

-- a guard that is not tested is true
pub open_untested : (system : System) (told : ℕ → List Op) (timed : ℕ → ℕ → Bool) (state : List Value) (thread : ℕ) (frame : Frame) (call : Call) (block left : ℕ) → IsAt system thread frame.past call block left
    → Faced system thread frame call block → is_guarded system.monitor block ≡ false → is_open (program_with system told timed) state thread frame block ≡ true
open_untested system told timed state thread frame call block left at here untested =
    let place = place_by system thread frame (Some block) in
    let always = not_false (is_always here.block.guard) (sym (guarded_is system thread frame call block here) ∙ untested) in
    open_is_guard system told timed state thread frame call block left at ∙ guard_is system state thread place call here.block here.faced
    ∙ holds_always here.block.guard always (valuation state (inputs_at call place))

-- a block that is tested and doesn't assert has a condition on which someone may wait
pub tested_waited : (system : System) (thread : ℕ) (frame : Frame) (call : Call) (number : ℕ) → IsSystem system → (here : Faced system thread frame call number)
    → is_guarded system.monitor number ≡ true → block_condition system.monitor number == 0 ≡ false
    → is_waited_on system.monitor (block_condition system.monitor number) ≡ true
tested_waited system thread frame call number is here tested numbered =
    let condition = block_condition system.monitor number in
    let same : condition ≡ here.block.condition = numbered_is system thread frame call number here in
    let own = own_guard system.monitor number here.block is.rule here.there (subst (λ (one : ℕ). 1 ≤ one) same (some condition (eqb-false condition 0 numbered))) in
    and_from (not (condition == 0)) (option_map_or (λ which. not (is_always which.guard)) (slice_get system.monitor.conditions (condition - 1)) false)
    (ap not numbered)
    (ap (λ (one : ℕ). option_map_or (λ which. not (is_always which.guard)) (slice_get system.monitor.conditions (one - 1)) false) same
    ∙ ap (λ (one : Option Condition). option_map_or (λ which. not (is_always which.guard)) one false) own.1.is.there
    ∙ ap (λ (one : Formula). not (is_always one)) own.1.guard ∙ sym (guarded_is system thread frame call number here) ∙ tested)
  where
    some : (number : ℕ) → (number ≡ 0 → ⊥) → 1 ≤ number
    some zero differs = absurd (differs refl)
    some (suc number) differs = omega arith

-- and where someone may wait there is a condition
pub waited_numbered : (monitor : MonitorParts) (condition : ℕ) → is_waited_on monitor condition ≡ true → 1 ≤ condition
waited_numbered monitor zero waited = absurd (true≢false (sym waited))
waited_numbered monitor (suc condition) waited = omega arith

-- ---- where blocks begin and end

-- a method has a block
pub some_block : (system : System) (thread past : ℕ) (call : Call) → IsSystem system → slice_get (calls_of system.clients thread) past ≡ Some call → (left : ℕ) × (count_of system call ≡ suc left)
some_block system thread past call is call_is =
    let fit = all_at (FitsCall system.monitor) (calls_of system.clients thread) past call call_is (calls_fit system.monitor system.clients thread is.scripts) in
    let method = at_index system.monitor.methods call.method fit.method in
    let few = (is.rule.methods call.method method.0 method.1).some in
    counted (count_of system call) (subst (λ (found : Option Method). 1 ≤ count_in found) (sym method.1) few)
  where
    counted : (count : ℕ) → 1 ≤ count → (left : ℕ) × (count ≡ suc left)
    counted zero few = absurd (omega (arith, few))
    counted (suc left) few = (left, refl)

-- at the first one it tries where the call tries
pub tries_first : (system : System) (call : Call) → call.tries ≡ tries_in system call (first_of system call)
tries_first system call =
    let none : first_of system call - first_of system call ≡ 0 = omega arith in
    sym (ap (λ (test : Bool). call.tries && test) (eq-eqb (first_of system call - first_of system call) 0 none) ∙ with_true call.tries)
  where
    with_true : (b : Bool) → b && true ≡ b
    with_true true = refl
    with_true false = refl

-- at a later one it doesn't
pub tries_later : (system : System) (call : Call) (block : ℕ) → first_of system call < block → tries_in system call block ≡ false
tries_later system call block later =
    and_right call.tries ((block - first_of system call) == 0) (ne_eqb (block - first_of system call) 0 (λ same. omega (arith, same, later)))

pub next_at : (system : System) (thread past : ℕ) (call : Call) (block left : ℕ) → IsAt system thread past call block (suc left) → IsAt system thread past call (block + 1) left
next_at system thread past call block left at = record { call_is = at.call_is; begins = omega (arith, at.begins); ends = omega (arith, at.ends) }

-- the end of the call
pub end_at : (system : System) (thread past : ℕ) (call : Call) (block left : ℕ) → IsAt system thread past call block (suc left) → IsAt system thread past call (first_of system call + count_of system call) 0
end_at system thread past call block left at = record { call_is = at.call_is; begins = omega arith; ends = omega arith }

pub end_later : (system : System) (thread past : ℕ) (call : Call) (block left : ℕ) → IsAt system thread past call block (suc left) → first_of system call < first_of system call + count_of system call
end_later system thread past call block left at = omega (arith, at.begins, at.ends)

-- ---- the block that code runs next

next_passed : (system : System) (told : ℕ → List Op) (block left : ℕ) (tries tested : Bool)
    → next_block (cond tested (cond tries (ElseRefuse block ∷ passed_code system told block left) (WaitUntil block (block_condition system.monitor block) ∷ passed_code system told block left))
    (passed_code system told block left)) ≡ Some block
next_passed system told block left true true = refl
next_passed system told block left false true = refl
next_passed system told block left true false = refl
next_passed system told block left false false = refl

pub next_locked : (system : System) (told : ℕ → List Op) (tries : Bool) (block left : ℕ) → next_block (locked_code system told tries block left) ≡ Some block
next_locked system told tries block left = next_passed system told block left (tries || block_condition system.monitor block == 0) (is_guarded system.monitor block)

inside_passed : (system : System) (told : ℕ → List Op) (block left : ℕ) (tries tested : Bool)
    → stage_at (At (cond tested (cond tries (ElseRefuse block ∷ passed_code system told block left) (WaitUntil block (block_condition system.monitor block) ∷ passed_code system told block left))
    (passed_code system told block left))) ≡ Inside
inside_passed system told block left true true = refl
inside_passed system told block left false true = refl
inside_passed system told block left true false = refl
inside_passed system told block left false false = refl

pub inside_locked : (system : System) (told : ℕ → List Op) (tries : Bool) (block left : ℕ) → stage_at (At (locked_code system told tries block left)) ≡ Inside
inside_locked system told tries block left = inside_passed system told block left (tries || block_condition system.monitor block == 0) (is_guarded system.monitor block)

-- ---- what comes after a body, until the mutex is locked again

abbrev pub now_free : List Op → Bool
now_free [] = true
now_free (Lock ∷ rest) = true
now_free (WaitUntil block condition ∷ rest) = false
now_free (ElseRefuse block ∷ rest) = false
now_free (Run block otherwise ∷ rest) = false
now_free (Notify note ∷ rest) = not note.tested && now_free rest
now_free (Unlock ∷ rest) = false
now_free (Release notes ∷ rest) = false

abbrev pub now_locked : List Op → Bool
now_locked [] = false
now_locked (Lock ∷ rest) = false
now_locked (WaitUntil block condition ∷ rest) = false
now_locked (ElseRefuse block ∷ rest) = false
now_locked (Run block otherwise ∷ rest) = false
now_locked (Notify note ∷ rest) = now_locked rest
now_locked (Unlock ∷ rest) = now_free rest
now_locked (Release notes ∷ rest) = now_free rest

abbrev pub from_lock : List Op → List Op
from_lock [] = []
from_lock (Lock ∷ rest) = Lock ∷ rest
from_lock (WaitUntil block condition ∷ rest) = from_lock rest
from_lock (ElseRefuse block ∷ rest) = from_lock rest
from_lock (Run block otherwise ∷ rest) = from_lock rest
from_lock (Notify note ∷ rest) = from_lock rest
from_lock (Unlock ∷ rest) = from_lock rest
from_lock (Release notes ∷ rest) = from_lock rest

pub never : {P : Type 0} → false ≡ true → P
never is = absurd (true≢false (sym is))

-- what is said of code after a body and the blocks after it
pub record Follows (ops later whole : List Op) : Type 0 where
  pub notes : notes_to_come whole ≡ notes_to_come ops
  pub lock : from_lock whole ≡ later
  pub next : next_block whole ≡ next_block later

follows_nothing : (system : System) (told : ℕ → List Op) (block left : ℕ) → Follows [] (later_code system told block left) (later_code system told block left)
follows_nothing system told block zero = record { notes = refl; lock = refl; next = refl }
follows_nothing system told block (suc left) = record { notes = refl; lock = refl; next = refl }

nothing_free : (system : System) (told : ℕ → List Op) (block left : ℕ) → now_free (later_code system told block left) ≡ true
nothing_free system told block zero = refl
nothing_free system told block (suc left) = refl

free_later : (system : System) (told : ℕ → List Op) (block left : ℕ) (ops : List Op) → is_free ops ≡ true → now_free (ops ++ later_code system told block left) ≡ true
free_later system told block left [] is = nothing_free system told block left
free_later system told block left (Lock ∷ rest) is = never is
free_later system told block left (WaitUntil other condition ∷ rest) is = never is
free_later system told block left (ElseRefuse other ∷ rest) is = never is
free_later system told block left (Run other otherwise ∷ rest) is = never is
free_later system told block left (Notify note ∷ rest) is =
    let both = and_parts (not note.tested) (is_free rest) is in
    and_from (not note.tested) (now_free (rest ++ later_code system told block left)) both.0 (free_later system told block left rest both.1)
free_later system told block left (Unlock ∷ rest) is = never is
free_later system told block left (Release notes ∷ rest) is = never is

pub locked_later : (system : System) (told : ℕ → List Op) (block left : ℕ) (ops : List Op) → is_locked ops ≡ true → now_locked (ops ++ later_code system told block left) ≡ true
locked_later system told block left [] is = never is
locked_later system told block left (Lock ∷ rest) is = never is
locked_later system told block left (WaitUntil other condition ∷ rest) is = never is
locked_later system told block left (ElseRefuse other ∷ rest) is = never is
locked_later system told block left (Run other otherwise ∷ rest) is = never is
locked_later system told block left (Notify note ∷ rest) is = locked_later system told block left rest is
locked_later system told block left (Unlock ∷ rest) is = free_later system told block left rest is
locked_later system told block left (Release notes ∷ rest) is = free_later system told block left rest is

after_note : (note : Note) (ops later whole : List Op) → Follows ops later whole → Follows (Notify note ∷ ops) later (Notify note ∷ whole)
after_note note ops later whole follows = record { notes = ap (λ (more : List Note). note ∷ more) follows.notes; lock = follows.lock; next = follows.next }

follows_free : (system : System) (told : ℕ → List Op) (block left : ℕ) (ops : List Op) → is_free ops ≡ true
    → Follows ops (later_code system told block left) (ops ++ later_code system told block left)
follows_free system told block left [] is = follows_nothing system told block left
follows_free system told block left (Lock ∷ rest) is = never is
follows_free system told block left (WaitUntil other condition ∷ rest) is = never is
follows_free system told block left (ElseRefuse other ∷ rest) is = never is
follows_free system told block left (Run other otherwise ∷ rest) is = never is
follows_free system told block left (Notify note ∷ rest) is =
    after_note note rest (later_code system told block left) (rest ++ later_code system told block left) (follows_free system told block left rest (and_parts (not note.tested) (is_free rest) is).1)
follows_free system told block left (Unlock ∷ rest) is = never is
follows_free system told block left (Release notes ∷ rest) is = never is

pub follows_locked : (system : System) (told : ℕ → List Op) (block left : ℕ) (ops : List Op) → is_locked ops ≡ true
    → Follows ops (later_code system told block left) (ops ++ later_code system told block left)
follows_locked system told block left [] is = never is
follows_locked system told block left (Lock ∷ rest) is = never is
follows_locked system told block left (WaitUntil other condition ∷ rest) is = never is
follows_locked system told block left (ElseRefuse other ∷ rest) is = never is
follows_locked system told block left (Run other otherwise ∷ rest) is = never is
follows_locked system told block left (Notify note ∷ rest) is =
    after_note note rest (later_code system told block left) (rest ++ later_code system told block left) (follows_locked system told block left rest is)
follows_locked system told block left (Unlock ∷ rest) is =
    let follows = follows_free system told block left rest is in
    record { notes = follows.notes; lock = follows.lock; next = follows.next }
follows_locked system told block left (Release notes ∷ rest) is =
    let follows = follows_free system told block left rest is in
    record { notes = ap (λ (more : List Note). notes ++ more) follows.notes; lock = follows.lock; next = follows.next }

-- ---- the notes that are called for

called_lock_by : (note : Note) (test : Bool) (ops rest : List Op) → from_lock ops ≡ from_lock rest → from_lock (cond test (Notify note ∷ ops) ops) ≡ from_lock rest
called_lock_by note true ops rest is = is
called_lock_by note false ops rest is = is

pub called_lock : (program : Program) (now : Moment) (notes : List Note) (rest : List Op) → from_lock (called_for program now notes rest) ≡ from_lock rest
called_lock program now [] rest = refl
called_lock program now (note ∷ notes) rest = called_lock_by (untested note) (is_called_for program now note) (called_for program now notes rest) rest (called_lock program now notes rest)

called_next_by : (note : Note) (test : Bool) (ops rest : List Op) → next_block ops ≡ next_block rest → next_block (cond test (Notify note ∷ ops) ops) ≡ next_block rest
called_next_by note true ops rest is = is
called_next_by note false ops rest is = is

pub called_next : (program : Program) (now : Moment) (notes : List Note) (rest : List Op) → next_block (called_for program now notes rest) ≡ next_block rest
called_next program now [] rest = refl
called_next program now (note ∷ notes) rest = called_next_by (untested note) (is_called_for program now note) (called_for program now notes rest) rest (called_next program now notes rest)

called_free_by : (note : Note) (test : Bool) (ops : List Op) → now_free ops ≡ true → now_free (cond test (Notify (untested note) ∷ ops) ops) ≡ true
called_free_by note true ops is = is
called_free_by note false ops is = is

pub called_free : (program : Program) (now : Moment) (notes : List Note) (rest : List Op) → now_free rest ≡ true → now_free (called_for program now notes rest) ≡ true
called_free program now [] rest is = is
called_free program now (note ∷ notes) rest is = called_free_by note (is_called_for program now note) (called_for program now notes rest) (called_free program now notes rest is)

called_all_by : (P : Note → Type 0) (note : Note) (test : Bool) (ops : List Op) → P note → All P (notes_to_come ops) → All P (notes_to_come (cond test (Notify note ∷ ops) ops))
called_all_by P note true ops own all = All-cons P note (notes_to_come ops) own all
called_all_by P note false ops own all = all

-- what is so of each untested note and of the rest is so of them
pub called_all : (P : Note → Type 0) → ((note : Note) → P (untested note)) → (program : Program) (now : Moment) (notes : List Note) (rest : List Op) → All P (notes_to_come rest)
    → All P (notes_to_come (called_for program now notes rest))
called_all P each program now [] rest all = all
called_all P each program now (note ∷ notes) rest all =
    called_all_by P (untested note) (is_called_for program now note) (called_for program now notes rest) (each note) (called_all P each program now notes rest all)

kept_by : (t : Note → Bool) (note : Note) (test : Bool) (ops : List Op) → list_any t (notes_to_come ops) ≡ true → list_any t (notes_to_come (cond test (Notify note ∷ ops) ops)) ≡ true
kept_by t note true ops is = or_right (t note) (list_any t (notes_to_come ops)) is
kept_by t note false ops is = is

-- a note that passes a test is among them where each such note is called for
pub called_any : (t : Note → Bool) (program : Program) (now : Moment) (notes : List Note) (rest : List Op) → All (λ note. t note ≡ true → (is_called_for program now note ≡ true) × (t (untested note) ≡ true)) notes
    → list_any t (notes ++ notes_to_come rest) ≡ true → list_any t (notes_to_come (called_for program now notes rest)) ≡ true
called_any t program now [] rest each is = is
called_any t program now (note ∷ notes) rest each is = elim (or_cases (t note) (list_any t (notes ++ notes_to_come rest)) is) [
  | inr later ↦
      kept_by t (untested note) (is_called_for program now note) (called_for program now notes rest)
      (called_any t program now notes rest (All-tail (λ (one : Note). t one ≡ true → (is_called_for program now one ≡ true) × (t (untested one) ≡ true)) note notes each) later)
  | inl here ↦
      let own = All-head (λ (one : Note). t one ≡ true → (is_called_for program now one ≡ true) × (t (untested one) ≡ true)) note notes each here in
      ap (λ (test : Bool). list_any t (notes_to_come (cond test (Notify (untested note) ∷ called_for program now notes rest) (called_for program now notes rest)))) own.0
      ∙ or_left (t (untested note)) (list_any t (notes_to_come (called_for program now notes rest))) own.1
]

-- ---- after an overflow

pub telling_locked : (notes : List Note) → now_locked (telling_code notes) ≡ true
telling_locked [] = refl
telling_locked (note ∷ notes) = telling_locked notes

pub telling_notes : (notes : List Note) → notes_to_come (telling_code notes) ≡ notes
telling_notes [] = refl
telling_notes (note ∷ notes) = ap (λ (more : List Note). note ∷ more) (telling_notes notes)

pub telling_lock : (notes : List Note) → from_lock (telling_code notes) ≡ []
telling_lock [] = refl
telling_lock (note ∷ notes) = telling_lock notes

pub telling_next : (notes : List Note) → next_block (telling_code notes) ≡ None
telling_next [] = refl
telling_next (note ∷ notes) = telling_next notes

-- ---- after a panic

pub then_locked : (notes : List Note) (rest : List Op) → now_free rest ≡ true → now_locked (telling_then notes rest) ≡ true
then_locked [] rest is = is
then_locked (note ∷ notes) rest is = then_locked notes rest is

pub then_lock : (notes : List Note) (rest : List Op) → from_lock (telling_then notes rest) ≡ from_lock rest
then_lock [] rest = refl
then_lock (note ∷ notes) rest = then_lock notes rest

then_next : (notes : List Note) (rest : List Op) → next_block (telling_then notes rest) ≡ next_block rest
then_next [] rest = refl
then_next (note ∷ notes) rest = then_next notes rest

next_test : (monitor : MonitorParts) (tries tested : Bool) (block : ℕ) (otherwise : List Note) (rest : List Op)
    → next_block (cond tested (cond tries (ElseRefuse block ∷ Run block otherwise ∷ rest) (WaitUntil block (block_condition monitor block) ∷ Run block otherwise ∷ rest)) (Run block otherwise ∷ rest)) ≡ Some block
next_test monitor true true block otherwise rest = refl
next_test monitor false true block otherwise rest = refl
next_test monitor true false block otherwise rest = refl
next_test monitor false false block otherwise rest = refl

-- the thread is at the block again
pub again_next : (program : Program) (thread : ℕ) (frame : Frame) (block : ℕ) (otherwise : List Note) (rest : List Op) → next_block (recovers program thread frame block otherwise rest) ≡ Some block
again_next program thread frame block otherwise rest =
    then_next otherwise (Lock ∷ test_code program.monitor (at_once program thread frame (tries_there program thread frame block)) block (Run block otherwise ∷ rest))
    ∙ next_test program.monitor (at_once program thread frame (tries_there program thread frame block) || block_condition program.monitor block == 0) (is_guarded program.monitor block) block otherwise rest

pub again_locked : (program : Program) (thread : ℕ) (frame : Frame) (block : ℕ) (otherwise : List Note) (rest : List Op) → now_locked (recovers program thread frame block otherwise rest) ≡ true
again_locked program thread frame block otherwise rest = then_locked otherwise _ refl

then_notes : (notes : List Note) (rest : List Op) → notes_to_come (telling_then notes (Lock ∷ rest)) ≡ notes
then_notes [] rest = refl
then_notes (note ∷ notes) rest = ap (λ (more : List Note). note ∷ more) (then_notes notes rest)

-- with the notes of an overflow to make
pub again_notes : (program : Program) (thread : ℕ) (frame : Frame) (block : ℕ) (otherwise : List Note) (rest : List Op) → notes_to_come (recovers program thread frame block otherwise rest) ≡ otherwise
again_notes program thread frame block otherwise rest = then_notes otherwise _

-- ---- the stage of one that tells

pub tells_stage : (ops : List Op) → (now_locked ops ≡ true) ⊎ (now_free ops ≡ true) → stage_at (At ops) ≡ Notifying (notes_to_come ops)
tells_stage [] shape = refl
tells_stage (Lock ∷ rest) shape = refl
tells_stage (WaitUntil block on ∷ rest) (inl is) = never is
tells_stage (WaitUntil block on ∷ rest) (inr is) = never is
tells_stage (ElseRefuse block ∷ rest) (inl is) = never is
tells_stage (ElseRefuse block ∷ rest) (inr is) = never is
tells_stage (Run block otherwise ∷ rest) (inl is) = never is
tells_stage (Run block otherwise ∷ rest) (inr is) = never is
tells_stage (Notify note ∷ rest) shape = refl
tells_stage (Unlock ∷ rest) shape = refl
tells_stage (Release notes ∷ rest) shape = refl
