-- A move that runs the body of a block that fits does not overflow.
use Rattle.std.proofs.Common.{◌≡◌, ℕ, Bool, List, Option, Some, None, sym, ◌∙◌, inl, inr}
use Rattle.lang_base.specs.declared.value.Value.{Value}
use Rattle.lang_base.specs.declared.value.Value.TheVariants as values
use Rattle.lang_monitor.specs.MonitorParts.{MonitorParts, IsMonitor}
use Rattle.machine_implicit.specs.declared.commit.Reply.TheVariants as replies
use Rattle.machine_implicit.specs.declared.script.Client.{Client}
use Rattle.machine_implicit.specs.Scripted.{FitsScripts}
use Rattle.machine_implicit.specs.Steps.{given, reply_of}
use Rattle.machine_implicit.proofs.Fitting.{run_fits}
use Rattle.machine_events.specs.declared.plan.Plan.{Plan}
use Rattle.machine_events.specs.Configurations.{System, system_under}
use Rattle.machine_events.specs.Counts.{IsLawfulByCounting}
use Rattle.machine_events.specs.Laws.{HasCountingPlan}
use Rattle.machine_events.specs.Pending.{IsSystem}
use Rattle.machine_events.specs.Plans.{FitsPlan}
use Rattle.machine_events.proofs.Facing.{guard_is}
use Rattle.emit_code.specs.Code.{Op, late_order}
use Rattle.emit_code.specs.Executions.{Frame, Moment, RunsBody, program_with}
use Rattle.emit_code.specs.Laws.{Leads}
use Rattle.emit_code.specs.LivePlans.{live_plan, printed_program}
use Rattle.emit_code.specs.Orders.{IsTold}
use Rattle.emit_code.proofs.Covering.{covered_late}
use Rattle.emit_code.proofs.Live.{live_fits, live_is_lawful_by_counting}
use Rattle.emit_code.proofs.Order.{late_is_told}
use Rattle.emit_code.proofs.Running.{body_at, sound_late}
use Rattle.emit_code.proofs.Views.{place_by}
use Rattle.plan_fits.specs.Fits.{Fits64, MayRunIn64}
use Rattle.emit_fits.specs.Laws.{PassIn64, StartsIn64}
use Rattle.emit_fits.proofs.MomentsIn64.{moments_in_64, short_call}

no_overflow : (result : Option Value) → replies.Overflow ≡ reply_of result → ⊥
no_overflow None is = cc
no_overflow (Some (values.Int number)) is = cc
no_overflow (Some (values.Bool truth)) is = cc

-- under any order of the notes
pub never_told : (system : System) (told : ℕ → List Op) (timed : ℕ → ℕ → Bool) → HasCountingPlan system → IsTold system told → StartsIn64 system.monitor → PassIn64 system.clients → (thread : ℕ) (frame : Frame) (before next : Moment)
    → Leads (program_with system told timed) before → (move : RunsBody (program_with system told timed) thread frame before next)
    → Fits64 system.monitor system.plan.kept move.block → move.reply ≡ replies.Overflow → ⊥
never_told system told timed set order starts pass thread frame before next run move fits overflows =
    let sound = sound_late system told timed set.is order before run in
    let covered = covered_late system told timed set order before run in
    let body = body_at system told timed set.is thread frame before next sound move in
    let short = moments_in_64 (program_with system told timed) starts pass before run in
    let place = place_by system thread frame (Some move.block) in
    let faced = body.here.faced in
    let runs : MayRunIn64 system.monitor system.plan.kept move.block body.here.block (given body.call.inputs frame.locals) before.state = record {
      runs = record {
        rule = set.is.rule;
        candidates = set.is.plan.kept;
        is = body.here.there;
        fits = (run_fits system.monitor system.clients before.ran _ set.is.rule set.is.scripts sound.run).state;
        inputs_fit = faced.fits_inputs;
        guard = sym (guard_is system before.state thread place body.call body.here.block faced) ∙ body.open_is;
        kept_hold = covered.invariant;
      };
      state_fits = short.state;
      arguments_fit = short_call system.clients pass thread frame.past body.call body.at.call_is;
      locals_fit = short.locals thread frame _ move.at;
    } in
    elim body.steps [
      | inl whole ↦ no_overflow _ (sym overflows ∙ whole.1)
      | inr over ↦ fits body.here.block (given body.call.inputs frame.locals) before.state runs over.0
    ]

pub never_overflows : (monitor : MonitorParts) (plan : Plan) (clients : List Client) (timed : ℕ → ℕ → Bool) (before next : Moment) (thread : ℕ) (frame : Frame) → IsMonitor monitor → FitsScripts monitor clients → FitsPlan monitor plan
    → IsLawfulByCounting monitor plan → StartsIn64 monitor → PassIn64 clients → Leads (printed_program monitor plan clients timed) before
    → (move : RunsBody (printed_program monitor plan clients timed) thread frame before next)
    → Fits64 monitor plan.kept move.block → move.reply ≡ replies.Overflow → ⊥
never_overflows monitor plan clients timed before next thread frame rule scripts fits lawful starts pass run move =
    let live = live_plan monitor plan in
    let system : System = system_under monitor clients live in
    let is : IsSystem system = record { rule = rule; scripts = scripts; plan = live_fits monitor plan fits } in
    let set : HasCountingPlan system = record { is = is; lawful = live_is_lawful_by_counting monitor plan lawful } in
    never_told system (late_order live) timed set (late_is_told system is) starts pass thread frame before next run move
