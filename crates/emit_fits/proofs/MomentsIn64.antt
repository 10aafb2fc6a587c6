-- Executions keep numbers within 64 bits.
use Rattle.std.proofs.Common.{◌≡◌, ℕ, zero, suc, ◌+◌, List, [], ◌∷◌, map, Option, Some, None, refl, sym, subst, inl, inr}
use Rattle.std.specs.Prelude.{All, IsSomeAnd, slice_get}
use Rattle.std.proofs.lemmas.List.Elements.{All-nil, All-head, All-tail}
use Rattle.std.proofs.lemmas.Option.{none-some, same_Some}
use Rattle.lang_base.specs.declared.value.Value.{Value}
use Rattle.lang_monitor.specs.declared.monitor.Block.{Block}
use Rattle.machine_implicit.specs.declared.commit.Reply.{Reply}
use Rattle.machine_implicit.specs.declared.commit.Reply.TheVariants as replies
use Rattle.machine_implicit.specs.declared.script.Call.{Call}
use Rattle.machine_implicit.specs.declared.script.Client.{Client}
use Rattle.machine_implicit.specs.Scripted.{calls_of}
use Rattle.machine_implicit.specs.Steps.{BlockSteps, given, held}
use Rattle.machine_events.specs.declared.plan.Note.{Note}
use Rattle.emit_code.specs.Executions.{AreNotified, Executes, Frame, IsMove, IsThread, Moment, Position, Program, RunsBody, Thread, call_of, goes, new_thread, start}
use Rattle.emit_code.specs.Executions.Position.{Notified}
use Rattle.emit_code.specs.Executions.IsMove.{calls, takes, passes, falls_asleep, wakes, retakes, refuses, abandons, runs_body, panics, notifies, unlocks, releases, returns}
use Rattle.emit_code.specs.Executions.Executes.{none_yet, one_more}
use Rattle.emit_code.proofs.Lists.{came}
use Rattle.emit_code.proofs.Views.{thread_before}
use Rattle.plan_fits.specs.Fits.{AreIn64}
use Rattle.emit_fits.specs.Laws.{IsIn64, PassIn64, StartsIn64}
use Rattle.emit_fits.proofs.BodiesIn64.{AreShort, step_keeps}

-- ---- lists and options

all_at : {X : Type 0} (P : X → Type 0) (xs : List X) (index : ℕ) (x : X) → All P xs → slice_get xs index ≡ Some x → P x
all_at P [] index x each is = absurd (none-some x is)
all_at P (first ∷ xs) zero x each is = subst P (same_Some first x is) (All-head P first xs each)
all_at P (first ∷ xs) (suc index) x each is = all_at P xs index x (All-tail P first xs each) is

some_there : {X : Type 0} (o : Option X) (P : X → Type 0) → IsSomeAnd o P → (x : X) × (o ≡ Some x) × P x
some_there None P is = absurd is
some_there (Some x) P is = (x, refl, is)

-- ---- threads

abbrev AreShortThreads : List Thread → Type 0
AreShortThreads threads = (thread : ℕ) (frame : Frame) (position : Position) → IsThread threads thread frame position → AreIn64 frame.locals

goes_short : (threads : List Thread) (thread : ℕ) (frame : Frame) (position : Position) → AreShortThreads threads → AreIn64 frame.locals → AreShortThreads (goes threads thread frame position)
goes_short threads thread frame position short new other others_frame others_position at =
    elim (came threads thread (record { frame = frame; position = position }) other (record { frame = others_frame; position = others_position }) at) [
      | inl here ↦ subst (λ (one : Thread). AreIn64 one.frame.locals) (sym here.1) new
      | inr there ↦ short other others_frame others_position there.1
    ]

-- one that goes on with its own locals
keeps_short : (threads : List Thread) (thread : ℕ) (frame new : Frame) (was position : Position) → AreShortThreads threads → IsThread threads thread frame was → new.locals ≡ frame.locals → AreShortThreads (goes threads thread new position)
keeps_short threads thread frame new was position short at same = goes_short threads thread new position short (subst AreIn64 (sym same) (short thread frame was at))

new_short : (clients : List Client) → AreShortThreads (map (λ client. new_thread) clients)
new_short [] thread frame position at = absurd (none-some _ at)
new_short (client ∷ clients) zero frame position at = subst (λ (one : Thread). AreIn64 one.frame.locals) (same_Some new_thread _ at) (All-nil _)
new_short (client ∷ clients) (suc thread) frame position at = new_short clients thread frame position at

-- ---- what a thread calls

pub short_call : (clients : List Client) → PassIn64 clients → (thread past : ℕ) (call : Call) → slice_get (calls_of clients thread) past ≡ Some call → AreIn64 call.inputs
short_call [] pass thread past call at = absurd (none-some call at)
short_call (first ∷ more) pass zero past call at = all_at (λ (one : Call). AreIn64 one.inputs) first.calls past call (All-head (λ (client : Client). All (λ (one : Call). AreIn64 one.inputs) client.calls) first more pass) at
short_call (first ∷ more) pass (suc thread) past call at = short_call more (All-tail (λ (client : Client). All (λ (one : Call). AreIn64 one.inputs) client.calls) first more pass) thread past call at

-- ---- moves

module _ (program : Program) (starts : StartsIn64 program.monitor) (pass : PassIn64 program.clients) where
  abbrev IsRunBy : Frame → Moment → ℕ → Reply → List Value → List Value → Call → Type 0
  IsRunBy frame before block reply state locals call =
      IsSomeAnd (slice_get program.monitor.blocks block) (λ which. BlockSteps which (given call.inputs frame.locals) before.state reply (held state locals))

  body_short : (thread : ℕ) (frame : Frame) (before next : Moment) → IsIn64 before → (move : RunsBody program thread frame before next) → AreShort (held move.state move.locals)
  body_short thread frame before next short move =
      let called = some_there (call_of program thread frame) (IsRunBy frame before move.block move.reply move.state move.locals) move.steps in
      let ran = some_there (slice_get program.monitor.blocks move.block) (λ (which : Block). BlockSteps which (given called.0.inputs frame.locals) before.state move.reply (held move.state move.locals)) called.2 in
      step_keeps ran.0 (given called.0.inputs frame.locals) before.state move.reply (held move.state move.locals) ran.2
      (record { state = short.state; locals = short.locals thread frame _ move.at })

  woken_short : (now : Moment) (note : Note) (woken : List Thread) → AreShortThreads now.threads → AreNotified program now note woken → AreShortThreads woken
  woken_short now note woken short (inl one) =
      subst AreShortThreads (sym one.becomes) (keeps_short now.threads one.target one.target_frame one.target_frame _ (Notified one.block note.condition one.rest) short one.sleeps refl)
  woken_short now note woken short (inr (inl each)) =
      subst AreShortThreads (sym each.becomes) (λ thread frame position at. elim (thread_before note.condition now.threads thread frame position at) [
        | inl same ↦ short thread frame position same
        | inr slept ↦ short thread frame _ slept.2
      ])
  woken_short now note woken short (inr (inr nobody)) = subst AreShortThreads (sym nobody.becomes) short

  move_short : (before next : Moment) → IsIn64 before → IsMove program before next → IsIn64 next
  move_short before next short (calls thread frame move) =
      subst IsIn64 (sym move.becomes) (record { state = short.state; locals = goes_short before.threads thread _ _ short.locals (starts.locals move.call.method) })
  move_short before next short (takes thread frame move) =
      subst IsIn64 (sym move.becomes) (record { state = short.state; locals = keeps_short before.threads thread frame frame _ _ short.locals move.at refl })
  move_short before next short (passes thread frame move) =
      subst IsIn64 (sym move.becomes) (record { state = short.state; locals = keeps_short before.threads thread frame frame _ _ short.locals move.at refl })
  move_short before next short (falls_asleep thread frame move) =
      subst IsIn64 (sym move.becomes) (record { state = short.state; locals = keeps_short before.threads thread frame frame _ _ short.locals move.at refl })
  move_short before next short (wakes thread frame move) =
      subst IsIn64 (sym move.becomes) (record { state = short.state; locals = keeps_short before.threads thread frame frame _ _ short.locals move.at refl })
  move_short before next short (retakes thread frame move) =
      subst IsIn64 (sym move.becomes) (record { state = short.state; locals = keeps_short before.threads thread frame frame _ _ short.locals move.at refl })
  move_short before next short (refuses thread frame move) =
      subst IsIn64 (sym move.becomes) (record { state = short.state; locals = keeps_short before.threads thread frame (record frame { answer = replies.Refused }) _ _ short.locals move.at refl })
  move_short before next short (abandons thread frame move) =
      subst IsIn64 (sym move.becomes) (record { state = short.state; locals = keeps_short before.threads thread frame (record frame { answer = replies.Refused }) _ _ short.locals move.at refl })
  move_short before next short (runs_body thread frame move) =
      let both = body_short thread frame before next short move in
      subst IsIn64 (sym move.becomes) (record { state = both.state; locals = goes_short before.threads thread _ _ short.locals both.locals })
  move_short before next short (panics thread frame move) =
      subst IsIn64 (sym move.becomes) (record { state = short.state; locals = keeps_short before.threads thread frame frame _ _ short.locals move.at refl })
  move_short before next short (notifies thread frame move) =
      subst IsIn64 (sym move.becomes) (record { state = short.state; locals = goes_short move.woken thread frame _ (woken_short before move.note move.woken short.locals move.notified) (short.locals thread frame _ move.at) })
  move_short before next short (unlocks thread frame move) =
      subst IsIn64 (sym move.becomes) (record { state = short.state; locals = keeps_short before.threads thread frame frame _ _ short.locals move.at refl })
  move_short before next short (releases thread frame move) =
      subst IsIn64 (sym move.becomes) (record { state = short.state; locals = keeps_short before.threads thread frame frame _ _ short.locals move.at refl })
  move_short before next short (returns thread frame move) =
      subst IsIn64 (sym move.becomes) (record { state = short.state; locals = keeps_short before.threads thread frame (record frame { past = frame.past + 1 }) _ _ short.locals move.at refl })

  pub moments_in_64 : (last : Moment) → Executes program (start program) last → IsIn64 last
  moments_in_64 last none_yet = record { state = starts.state; locals = new_short program.clients }
  moments_in_64 last (one_more middle end so_far move) = move_short middle end (moments_in_64 middle so_far) move
