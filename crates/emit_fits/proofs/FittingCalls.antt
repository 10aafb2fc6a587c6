-- A call of a method all of whose blocks fit never has an overflow for its answer.
use Rattle.std.proofs.Common.{◌≡◌, ℕ, zero, suc, ◌+◌, ◌<◌, ◌≤◌, Bool, List, [], ◌∷◌, map, Some, sym, subst, ◌∙◌, arith, inl, inr}
use Rattle.std.specs.Prelude.{slice_get}
use Rattle.std.proofs.lemmas.Option.{none-some, same_Some}
use Rattle.lang_monitor.specs.MonitorParts.{MonitorParts, IsMonitor}
use Rattle.machine_implicit.specs.declared.commit.Reply.TheVariants as replies
use Rattle.machine_implicit.specs.declared.script.Call.{Call}
use Rattle.machine_implicit.specs.declared.script.Client.{Client}
use Rattle.machine_implicit.specs.Scripted.{FitsScripts, calls_of}
use Rattle.machine_events.specs.declared.plan.Note.{Note}
use Rattle.machine_events.specs.declared.plan.Plan.{Plan}
use Rattle.machine_events.specs.Configurations.{System, system_under}
use Rattle.machine_events.specs.Counts.{IsLawfulByCounting}
use Rattle.machine_events.specs.Laws.{HasCountingPlan}
use Rattle.machine_events.specs.Pending.{IsSystem}
use Rattle.machine_events.specs.Plans.{FitsPlan}
use Rattle.emit_code.specs.Code.{Op, late_order}
use Rattle.emit_code.specs.Executions.{AreNotified, Executes, Frame, IsMove, IsThread, Moment, Position, RunsBody, Thread, call_of, goes, new_thread, program_with, start}
use Rattle.emit_code.specs.Executions.Position.{Outside, At, Asleep, Notified}
use Rattle.emit_code.specs.Executions.IsMove.{calls, takes, passes, falls_asleep, wakes, retakes, refuses, abandons, runs_body, panics, notifies, unlocks, releases, returns}
use Rattle.emit_code.specs.Executions.Executes.{none_yet, one_more}
use Rattle.emit_code.specs.Laws.{Leads}
use Rattle.emit_code.specs.LivePlans.{live_plan, printed_program}
use Rattle.emit_code.specs.Orders.{IsTold}
use Rattle.emit_code.proofs.Lists.{came}
use Rattle.emit_code.proofs.Live.{live_fits, live_is_lawful_by_counting}
use Rattle.emit_code.proofs.Order.{late_is_told}
use Rattle.emit_code.proofs.Running.{body_at, sound_late}
use Rattle.emit_code.proofs.Parts.{first_of, count_of}
use Rattle.emit_code.proofs.Views.{thread_before}
use Rattle.emit_fits.specs.Laws.{MethodFits, PassIn64, StartsIn64}
use Rattle.emit_fits.proofs.FittingMoves.{never_told}

abbrev InCall : Position → Type 0
InCall Outside = ⊥
InCall (At rest) = Unit {0}
InCall (Asleep block condition rest) = Unit {0}
InCall (Notified block condition rest) = Unit {0}

unit_is_none : replies.Unit ≡ replies.Overflow → ⊥
unit_is_none is = cc

refused_is_none : replies.Refused ≡ replies.Overflow → ⊥
refused_is_none is = cc

module _ (system : System) (told : ℕ → List Op) (timed : ℕ → ℕ → Bool) (set : HasCountingPlan system) (order : IsTold system told) (starts : StartsIn64 system.monitor) (pass : PassIn64 system.clients) where
  abbrev IsClear : ℕ → Frame → Type 0
  IsClear thread frame =
      (call : Call) → slice_get (calls_of system.clients thread) frame.past ≡ Some call → MethodFits system.monitor system.plan.kept call.method → frame.answer ≡ replies.Overflow → ⊥

  abbrev AreClear : List Thread → Type 0
  AreClear threads = (thread : ℕ) (frame : Frame) (position : Position) → IsThread threads thread frame position → InCall position → IsClear thread frame

  abbrev IsClearAt : Moment → Type 0
  IsClearAt now = AreClear now.threads

  goes_clear : (threads : List Thread) (thread : ℕ) (frame : Frame) (position : Position) → AreClear threads → (InCall position → IsClear thread frame) → AreClear (goes threads thread frame position)
  goes_clear threads thread frame position clear new other others_frame others_position at inside =
      elim (came threads thread (record { frame = frame; position = position }) other (record { frame = others_frame; position = others_position }) at) [
        | inl here ↦
            subst (λ (one : ℕ). IsClear one others_frame) (sym here.0)
            (subst (λ (one : Thread). IsClear thread one.frame) (sym here.1) (new (subst (λ (one : Thread). InCall one.position) here.1 inside)))
        | inr there ↦ clear other others_frame others_position there.1 inside
      ]

  -- one that was in its call, and keeps what it has
  same_clear : (threads : List Thread) (thread : ℕ) (frame : Frame) (was position : Position) → AreClear threads → IsThread threads thread frame was → InCall was → AreClear (goes threads thread frame position)
  same_clear threads thread frame was position clear at in_call = goes_clear threads thread frame position clear (λ inside. clear thread frame was at in_call)

  woken_clear : (now : Moment) (note : Note) (woken : List Thread) → AreClear now.threads → AreNotified (program_with system told timed) now note woken → AreClear woken
  woken_clear now note woken clear (inl one) =
      subst AreClear (sym one.becomes) (same_clear now.threads one.target one.target_frame (Asleep one.block note.condition one.rest) (Notified one.block note.condition one.rest) clear one.sleeps tt)
  woken_clear now note woken clear (inr (inl each)) =
      subst AreClear (sym each.becomes) (λ thread frame position at inside. elim (thread_before note.condition now.threads thread frame position at) [
        | inl same ↦ clear thread frame position same inside
        | inr slept ↦ clear thread frame (Asleep slept.0 note.condition slept.1) slept.2 tt
      ])
  woken_clear now note woken clear (inr (inr nobody)) = subst AreClear (sym nobody.becomes) clear

  body_clear : (thread : ℕ) (frame : Frame) (before next : Moment) → Leads (program_with system told timed) before → (move : RunsBody (program_with system told timed) thread frame before next)
      → IsClear thread (record { past = frame.past; locals = move.locals; answer = move.reply })
  body_clear thread frame before next run move call is fits over =
      let body = body_at system told timed set.is thread frame before next (sound_late system told timed set.is order before run) move in
      let same : body.call ≡ call = same_Some body.call call (sym body.at.call_is ∙ is) in
      let begins : first_of system call ≤ move.block = subst (λ (one : Call). first_of system one ≤ move.block) same body.at.begins in
      let ends : move.block < first_of system call + count_of system call = subst (λ (one : Call). move.block < first_of system one + count_of system one) same (omega (arith, body.at.ends)) in
      never_told system told timed set order starts pass thread frame before next run move (fits move.block begins ends) over

  move_clear : (before next : Moment) → Leads (program_with system told timed) before → IsClearAt before → IsMove (program_with system told timed) before next → IsClearAt next
  move_clear before next run clear (calls thread frame move) =
      subst IsClearAt (sym move.becomes) (goes_clear before.threads thread _ _ clear (λ inside call is fits over. unit_is_none over))
  move_clear before next run clear (takes thread frame move) =
      subst IsClearAt (sym move.becomes) (same_clear before.threads thread frame _ _ clear move.at tt)
  move_clear before next run clear (passes thread frame move) =
      subst IsClearAt (sym move.becomes) (same_clear before.threads thread frame _ _ clear move.at tt)
  move_clear before next run clear (falls_asleep thread frame move) =
      subst IsClearAt (sym move.becomes) (same_clear before.threads thread frame _ _ clear move.at tt)
  move_clear before next run clear (wakes thread frame move) =
      subst IsClearAt (sym move.becomes) (same_clear before.threads thread frame _ _ clear move.at tt)
  move_clear before next run clear (retakes thread frame move) =
      subst IsClearAt (sym move.becomes) (same_clear before.threads thread frame _ _ clear move.at tt)
  move_clear before next run clear (refuses thread frame move) =
      subst IsClearAt (sym move.becomes) (goes_clear before.threads thread _ _ clear (λ inside call is fits over. refused_is_none over))
  move_clear before next run clear (abandons thread frame move) =
      subst IsClearAt (sym move.becomes) (goes_clear before.threads thread _ _ clear (λ inside call is fits over. refused_is_none over))
  move_clear before next run clear (runs_body thread frame move) =
      subst IsClearAt (sym move.becomes) (goes_clear before.threads thread _ _ clear (λ inside. body_clear thread frame before next run move))
  move_clear before next run clear (panics thread frame move) =
      subst IsClearAt (sym move.becomes) (same_clear before.threads thread frame _ _ clear move.at tt)
  move_clear before next run clear (notifies thread frame move) =
      subst IsClearAt (sym move.becomes)
      (goes_clear move.woken thread frame _ (woken_clear before move.note move.woken clear move.notified) (λ inside. clear thread frame _ move.at tt))
  move_clear before next run clear (unlocks thread frame move) =
      subst IsClearAt (sym move.becomes) (same_clear before.threads thread frame _ _ clear move.at tt)
  move_clear before next run clear (releases thread frame move) =
      subst IsClearAt (sym move.becomes) (same_clear before.threads thread frame _ _ clear move.at tt)
  move_clear before next run clear (returns thread frame move) =
      subst IsClearAt (sym move.becomes) (goes_clear before.threads thread _ Outside clear (λ inside. absurd inside))

  new_clear : (clients : List Client) (thread : ℕ) (frame : Frame) (position : Position) → IsThread (map (λ client. new_thread) clients) thread frame position → InCall position → ⊥
  new_clear [] thread frame position at inside = none-some _ at
  new_clear (client ∷ clients) zero frame position at inside = subst (λ (one : Thread). InCall one.position) (sym (same_Some new_thread _ at)) inside
  new_clear (client ∷ clients) (suc thread) frame position at inside = new_clear clients thread frame position at inside

  clear_late : (last : Moment) → Executes (program_with system told timed) (start (program_with system told timed)) last → IsClearAt last
  clear_late last none_yet = λ thread frame position at inside. absurd (new_clear system.clients thread frame position at inside)
  clear_late last (one_more middle end so_far move) = move_clear middle end so_far (clear_late middle so_far) move

pub calls_never_overflow : (monitor : MonitorParts) (plan : Plan) (clients : List Client) (timed : ℕ → ℕ → Bool) (last : Moment) (thread : ℕ) (frame : Frame) (rest : List Op) (call : Call) → IsMonitor monitor → FitsScripts monitor clients
    → FitsPlan monitor plan → IsLawfulByCounting monitor plan → StartsIn64 monitor → PassIn64 clients → Leads (printed_program monitor plan clients timed) last
    → IsThread last.threads thread frame (At rest) → call_of (printed_program monitor plan clients timed) thread frame ≡ Some call → MethodFits monitor plan.kept call.method → frame.answer ≡ replies.Overflow → ⊥
calls_never_overflow monitor plan clients timed last thread frame rest call rule scripts fits lawful starts pass run at is each over =
    let live = live_plan monitor plan in
    let system : System = system_under monitor clients live in
    let set_is : IsSystem system = record { rule = rule; scripts = scripts; plan = live_fits monitor plan fits } in
    let set : HasCountingPlan system = record { is = set_is; lawful = live_is_lawful_by_counting monitor plan lawful } in
    clear_late system (late_order live) timed set (late_is_told system set_is) starts pass last run thread frame (At rest) at tt call is each over
