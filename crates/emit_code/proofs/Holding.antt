-- Who holds the mutex is where the code has it.
use Rattle.std.proofs.Common.{◌≡◌, ◌==◌, ℕ, ◌+◌, Bool, true, false, cond, not, ◌||◌, List, [], ◌∷◌, Option, Some, None, refl, sym, ap, subst, ◌∙◌, inl, inr}
use Rattle.std.specs.Prelude.{slice_get, option_map}
use Rattle.std.proofs.lemmas.Option.{none-some, same_Some, slice_get-map}
use Rattle.std.proofs.lemmas.Bool.{true≢false, cases_eq, and_parts, not-true}
use Rattle.machine_implicit.specs.declared.commit.Reply.{Reply}
use Rattle.machine_implicit.specs.declared.commit.Reply.TheVariants as replies
use Rattle.lang_monitor.specs.MonitorParts.{locals_in}
use Rattle.machine_events.specs.declared.plan.Note.{Note}
use Rattle.machine_events.specs.Configurations.{System, block_condition}
use Rattle.machine_events.specs.Pending.{IsSystem}
use Rattle.emit_code.specs.Code.{Op, is_guarded, telling_code}
use Rattle.emit_code.specs.Code.Op.{Lock, WaitUntil, ElseRefuse, Run, Notify, Unlock, Release}
use Rattle.emit_code.specs.Executions.{Position, Frame, Thread, Moment, IsThread, goes, program_with, continues, recovers, woken_position, woken_thread, AreNotified, called_for, start, IsMove, Executes}
use Rattle.emit_code.specs.Executions.Position.{Outside, At, Asleep, Notified}
use Rattle.emit_code.specs.Executions.IsMove.{calls, takes, passes, falls_asleep, wakes, retakes, refuses, abandons, runs_body, panics, notifies, unlocks, releases, returns}
use Rattle.emit_code.specs.Executions.Executes.{none_yet, one_more}
use Rattle.emit_code.specs.Orders.{IsTold}
use Rattle.emit_code.specs.Laws.{Leads, HoldersAct, BodiesAreReady}
use Rattle.emit_code.proofs.Lists.{set_here, set_other}
use Rattle.emit_code.proofs.Parts.{refuses_in, call_code, passed_code, now_free, now_locked, never, locked_later, telling_locked, again_locked}
use Rattle.emit_code.proofs.Placed.{ArePlaced, passed_at, after_unlock, after_release}
use Rattle.emit_code.proofs.Running.{noter_stays, sound_late}

-- ---- where the holder is

abbrev pub is_holding : Position → Bool
is_holding Outside = false
is_holding (At []) = false
is_holding (At (Lock ∷ rest)) = false
is_holding (At (WaitUntil block condition ∷ rest)) = true
is_holding (At (ElseRefuse block ∷ rest)) = true
is_holding (At (Run block otherwise ∷ rest)) = true
is_holding (At (Notify note ∷ rest)) = now_locked rest
is_holding (At (Unlock ∷ rest)) = now_free rest
is_holding (At (Release notes ∷ rest)) = now_free rest
is_holding (Asleep block condition rest) = false
is_holding (Notified block condition rest) = false

abbrev pub HasHolder : List Thread → Option ℕ → Type 0
HasHolder threads holder =
    (thread : ℕ) → holder ≡ Some thread → (frame : Frame) × (position : Position) × IsThread threads thread frame position × (is_holding position ≡ true)

same_position : (threads : List Thread) (thread : ℕ) (frame other_frame : Frame) (position other : Position) → IsThread threads thread frame position → IsThread threads thread other_frame other → position ≡ other
same_position threads thread frame other_frame position other at again =
    ap (λ (one : Thread). one.position) (same_Some (record { frame = frame; position = position }) (record { frame = other_frame; position = other }) (sym at ∙ again))

-- a thread goes, and who held the mutex holds it still: if it is that thread, it holds it where it
-- is now
goes_holding : (threads : List Thread) (holder : Option ℕ) (thread : ℕ) (frame new_frame : Frame) (position new_position : Position) → IsThread threads thread frame position → HasHolder threads holder
    → (is_holding position ≡ true → is_holding new_position ≡ true) → HasHolder (goes threads thread new_frame new_position) holder
goes_holding threads holder thread frame new_frame position new_position at has keeps other is =
    let found = has other is in
    elim (cases_eq other thread) [
      | inl same ↦ (
        new_frame,
        new_position,
        subst (λ (one : ℕ). IsThread (goes threads thread new_frame new_position) one new_frame new_position) (sym same) (set_here threads thread (record { frame = new_frame; position = new_position }) _ at),
        keeps (ap is_holding (same_position threads thread frame found.0 position found.1 at (subst (λ (one : ℕ). IsThread threads one found.0 found.1) same found.2)) ∙ found.3),
      )
      | inr differs ↦ (found.0, found.1, set_other threads thread (record { frame = new_frame; position = new_position }) other differs ∙ found.2, found.3)
    ]

takes_holding : (threads : List Thread) (thread : ℕ) (frame : Frame) (position new_position : Position) → IsThread threads thread frame position → is_holding new_position ≡ true
    → HasHolder (goes threads thread frame new_position) (Some thread)
takes_holding threads thread frame position new_position at holding other is = (
  frame,
  new_position,
  subst (λ (one : ℕ). IsThread (goes threads thread frame new_position) one frame new_position) (same_Some thread other is) (set_here threads thread (record { frame = frame; position = new_position }) _ at),
  holding,
)

nobody_holds : (threads : List Thread) → HasHolder threads None
nobody_holds threads other is = absurd (none-some other is)

holds_passed : (system : System) (told : ℕ → List Op) (block left : ℕ) (tries tested : Bool)
    → is_holding (At (cond tested (cond tries (ElseRefuse block ∷ passed_code system told block left) (WaitUntil block (block_condition system.monitor block) ∷ passed_code system told block left))
    (passed_code system told block left))) ≡ true
holds_passed system told block left true true = refl
holds_passed system told block left false true = refl
holds_passed system told block left true false = refl
holds_passed system told block left false false = refl

locked_holds : (ops : List Op) → now_locked ops ≡ true → is_holding (At ops) ≡ true
locked_holds [] is = is
locked_holds (Lock ∷ rest) is = is
locked_holds (WaitUntil block condition ∷ rest) is = refl
locked_holds (ElseRefuse block ∷ rest) is = refl
locked_holds (Run block otherwise ∷ rest) is = refl
locked_holds (Notify note ∷ rest) is = is
locked_holds (Unlock ∷ rest) is = is
locked_holds (Release notes ∷ rest) is = is

continues_holds : (reply : Reply) (otherwise : List Note) (rest : List Op) → now_locked rest ≡ true → is_holding (At (continues reply otherwise rest)) ≡ true
continues_holds replies.Overflow otherwise rest is = locked_holds (telling_code otherwise) (telling_locked otherwise)
continues_holds replies.Unit otherwise rest is = locked_holds rest is
continues_holds (replies.Int number) otherwise rest is = locked_holds rest is
continues_holds (replies.Bool truth) otherwise rest is = locked_holds rest is
continues_holds replies.Refused otherwise rest is = locked_holds rest is

stays_holding : (condition : ℕ) (position : Position) → is_holding position ≡ true → woken_position condition position ≡ position
stays_holding condition Outside is = refl
stays_holding condition (At rest) is = refl
stays_holding condition (Asleep block other rest) is = never is
stays_holding condition (Notified block other rest) is = refl

woken_holding : (system : System) (told : ℕ → List Op) (timed : ℕ → ℕ → Bool) (now : Moment) (note : Note) (woken : List Thread) → HasHolder now.threads now.holder → AreNotified (program_with system told timed) now note woken
    → HasHolder woken now.holder
woken_holding system told timed now note woken has (inl first) =
    subst (λ (threads : List Thread). HasHolder threads now.holder) (sym first.becomes)
    (goes_holding now.threads now.holder first.target first.target_frame first.target_frame (Asleep first.block note.condition first.rest) (Notified first.block note.condition first.rest) first.sleeps has (λ is. never is))
woken_holding system told timed now note woken has (inr (inl each)) =
    subst (λ (threads : List Thread). HasHolder threads now.holder) (sym each.becomes) (λ other is.
    let found = has other is in (
      found.0,
      found.1,
      slice_get-map (woken_thread note.condition) now.threads other ∙ ap (option_map (woken_thread note.condition)) found.2
          ∙ ap Some (λ i. record { frame = found.0; position = stays_holding note.condition found.1 found.3 i }),
      found.3,
    ))
woken_holding system told timed now note woken has (inr (inr nobody)) = subst (λ (threads : List Thread). HasHolder threads now.holder) (sym nobody.becomes) has

abbrev KeepsHolder : Moment → Type 0
KeepsHolder now = HasHolder now.threads now.holder

move_holding : (system : System) (told : ℕ → List Op) (timed : ℕ → ℕ → Bool) → IsTold system told → (before next : Moment) → ArePlaced system told timed before → KeepsHolder before → IsMove (program_with system told timed) before next → KeepsHolder next
move_holding system told timed order before next placed has (calls thread frame move) =
    subst KeepsHolder (sym move.becomes)
    (goes_holding before.threads before.holder thread frame (record { past = frame.past; locals = locals_in (slice_get system.monitor.methods move.call.method); answer = replies.Unit }) Outside
    (At (call_code system told timed thread frame.past move.call)) move.outside has (λ is. never is))
move_holding system told timed order before next placed has (takes thread frame move) =
    let enters = placed thread frame (At (Lock ∷ move.rest)) move.at in
    subst KeepsHolder (sym move.becomes) (takes_holding before.threads thread frame (At (Lock ∷ move.rest)) (At move.rest) move.at
    (ap (λ (ops : List Op). is_holding (At ops)) enters.rest_is
    ∙ holds_passed system told enters.block enters.left (refuses_in system timed thread frame.past enters.call enters.block || block_condition system.monitor enters.block == 0) (is_guarded system.monitor enters.block)))
move_holding system told timed order before next placed has (passes thread frame move) =
    let passed = passed_at system told timed before placed thread frame move.op move.block move.rest move.at move.tests in
    subst KeepsHolder (sym move.becomes) (goes_holding before.threads before.holder thread frame frame (At (move.op ∷ move.rest)) (At move.rest) move.at has
    (λ is. ap (λ (ops : List Op). is_holding (At ops)) passed.rest_is))
move_holding system told timed order before next placed has (falls_asleep thread frame move) =
    subst KeepsHolder (sym move.becomes) (nobody_holds (goes before.threads thread frame (Asleep move.block move.condition move.rest)))
move_holding system told timed order before next placed has (wakes thread frame move) =
    subst KeepsHolder (sym move.becomes)
    (goes_holding before.threads before.holder thread frame frame (Asleep move.block move.condition move.rest) (Notified move.block move.condition move.rest) move.at has (λ is. never is))
move_holding system told timed order before next placed has (retakes thread frame move) =
    subst KeepsHolder (sym move.becomes)
    (takes_holding before.threads thread frame (Notified move.block move.condition move.rest) (At (WaitUntil move.block move.condition ∷ move.rest)) move.at refl)
move_holding system told timed order before next placed has (refuses thread frame move) =
    subst KeepsHolder (sym move.becomes)
    (goes_holding before.threads before.holder thread frame (record { past = frame.past; locals = frame.locals; answer = replies.Refused }) (At (ElseRefuse move.block ∷ move.rest)) (At (Unlock ∷ [])) move.at has (λ is. refl))
move_holding system told timed order before next placed has (abandons thread frame move) =
    subst KeepsHolder (sym move.becomes)
    (goes_holding before.threads before.holder thread frame (record { past = frame.past; locals = frame.locals; answer = replies.Refused }) (At (WaitUntil move.block move.condition ∷ move.rest)) (At (Unlock ∷ [])) move.at has (λ is. refl))
move_holding system told timed order before next placed has (runs_body thread frame move) =
    let ready = placed thread frame (At (Run move.block move.otherwise ∷ move.rest)) move.at in
    let locked : now_locked move.rest ≡ true = ap now_locked ready.1.rest_is ∙ locked_later system told (move.block + 1) ready.1.left (told move.block) (order.shape move.block) in
    subst KeepsHolder (sym move.becomes)
    (goes_holding before.threads before.holder thread frame (record { past = frame.past; locals = move.locals; answer = move.reply }) (At (Run move.block move.otherwise ∷ move.rest))
    (At (continues move.reply move.otherwise move.rest)) move.at has (λ is. continues_holds move.reply move.otherwise move.rest locked))
move_holding system told timed order before next placed has (panics thread frame move) =
    let ops = recovers (program_with system told timed) thread frame move.block move.otherwise move.rest in
    subst KeepsHolder (sym move.becomes)
    (goes_holding before.threads before.holder thread frame frame (At (Run move.block move.otherwise ∷ move.rest)) (At ops) move.at has
    (λ is. locked_holds ops (again_locked (program_with system told timed) thread frame move.block move.otherwise move.rest)))
move_holding system told timed order before next placed has (notifies thread frame move) =
    subst KeepsHolder (sym move.becomes)
    (goes_holding move.woken before.holder thread frame frame (At (Notify move.note ∷ move.rest)) (At move.rest)
    (noter_stays system told timed before move.note move.woken move.notified thread frame (Notify move.note ∷ move.rest) move.at)
    (woken_holding system told timed before move.note move.woken has move.notified) (λ is. locked_holds move.rest is))
move_holding system told timed order before next placed has (unlocks thread frame move) = subst KeepsHolder (sym move.becomes) (nobody_holds (goes before.threads thread frame (At move.rest)))
move_holding system told timed order before next placed has (releases thread frame move) =
    subst KeepsHolder (sym move.becomes) (nobody_holds (goes before.threads thread frame (At (called_for (program_with system told timed) before move.notes move.rest))))
move_holding system told timed order before next placed has (returns thread frame move) =
    subst KeepsHolder (sym move.becomes)
    (goes_holding before.threads before.holder thread frame (record { past = frame.past + 1; locals = frame.locals; answer = frame.answer }) (At []) Outside move.at has (λ is. never is))

pub holder_late : (system : System) (told : ℕ → List Op) (timed : ℕ → ℕ → Bool) → IsSystem system → IsTold system told → (last : Moment) → Executes (program_with system told timed) (start (program_with system told timed)) last
    → HasHolder last.threads last.holder
holder_late system told timed is order last none_yet = nobody_holds (start (program_with system told timed)).threads
holder_late system told timed is order last (one_more middle end so_far move) =
    move_holding system told timed order middle end (sound_late system told timed is order middle so_far).placed (holder_late system told timed is order middle so_far) move

-- ---- who does what needs the mutex

needs_holder : (system : System) (told : ℕ → List Op) (timed : ℕ → ℕ → Bool) (now : Moment) → ArePlaced system told timed now → HoldersAct (program_with system told timed) now
needs_holder system told timed now placed thread frame Lock rest at needs = never needs
needs_holder system told timed now placed thread frame (WaitUntil block condition) rest at needs = (placed thread frame (At (WaitUntil block condition ∷ rest)) at).0
needs_holder system told timed now placed thread frame (ElseRefuse block) rest at needs = (placed thread frame (At (ElseRefuse block ∷ rest)) at).0
needs_holder system told timed now placed thread frame (Run block otherwise) rest at needs = (placed thread frame (At (Run block otherwise ∷ rest)) at).0
needs_holder system told timed now placed thread frame (Notify note) rest at needs = elim (placed thread frame (At (Notify note ∷ rest)) at).held [
  | inl held ↦ held.1
  | inr free ↦ absurd (true≢false (sym needs ∙ not-true note.tested (and_parts (not note.tested) (now_free rest) free).0))
]
needs_holder system told timed now placed thread frame Unlock rest at needs = (after_unlock system told timed now.holder thread frame.past rest (placed thread frame (At (Unlock ∷ rest)) at)).0
needs_holder system told timed now placed thread frame (Release notes) rest at needs =
    (after_release system told timed now now.holder thread frame.past notes rest (placed thread frame (At (Release notes ∷ rest)) at)).0

pub late_ready : (system : System) (told : ℕ → List Op) (timed : ℕ → ℕ → Bool) (last : Moment) → IsSystem system → IsTold system told → Leads (program_with system told timed) last → BodiesAreReady (program_with system told timed) last
late_ready system told timed last is order run thread frame block otherwise rest at =
    let ready = (sound_late system told timed is order last run).placed thread frame (At (Run block otherwise ∷ rest)) at in
    (ready.0, ready.1.open_is)

pub late_holders_act : (system : System) (told : ℕ → List Op) (timed : ℕ → ℕ → Bool) (last : Moment) → IsSystem system → IsTold system told → Leads (program_with system told timed) last → HoldersAct (program_with system told timed) last
late_holders_act system told timed last is order run = needs_holder system told timed last (sound_late system told timed is order last run).placed
