-- The program that is printed.
use Rattle.std.proofs.Common.{ℕ, Bool, List}
use Rattle.lang_monitor.specs.MonitorParts.{MonitorParts, IsMonitor}
use Rattle.machine_implicit.specs.declared.script.Client.{Client}
use Rattle.machine_implicit.specs.Scripted.{FitsScripts}
use Rattle.machine_events.specs.declared.plan.Plan.{Plan}
use Rattle.machine_events.specs.Plans.{FitsPlan, IsLawful}
use Rattle.machine_events.specs.Counts.{IsLawfulByCounting}
use Rattle.machine_events.proofs.Counting.{lawful_by_counting}
use Rattle.machine_events.specs.Configurations.{System, system_under}
use Rattle.machine_events.specs.Pending.{IsSystem}
use Rattle.machine_events.specs.Laws.{HasCountingPlan}
use Rattle.emit_code.specs.Code.{Op, late_order}
use Rattle.emit_code.specs.Executions.{Moment}
use Rattle.emit_code.specs.LivePlans.{live_plan, printed_program}
use Rattle.emit_code.specs.Laws.{Leads, LosesNone}
use Rattle.emit_code.proofs.Running.{late_runs}
use Rattle.emit_code.proofs.Holding.{late_holders_act, late_ready}
use Rattle.emit_code.proofs.Functions.{ran_once}
use Rattle.emit_code.proofs.Counting.{counted_late}
use Rattle.emit_code.proofs.Answering.{late_answers}
use Rattle.emit_code.proofs.Covering.{late_seen_to, nobody_owed}
use Rattle.emit_code.proofs.Stillness.{quiet_late, still_late, still_ends}
use Rattle.emit_code.proofs.Order.{late_is_told}
use Rattle.emit_code.proofs.Live.{live_fits, live_is_lawful_by_counting}

pub counted_loses_none : (monitor : MonitorParts) (plan : Plan) (clients : List Client) (timed : ℕ → ℕ → Bool) (last : Moment) → IsMonitor monitor → FitsScripts monitor clients → FitsPlan monitor plan → IsLawfulByCounting monitor plan
    → Leads (printed_program monitor plan clients timed) last → LosesNone (printed_program monitor plan clients timed) last
counted_loses_none monitor plan clients timed last rule scripts fits lawful run =
    let live = live_plan monitor plan in
    let system : System = system_under monitor clients live in
    let is : IsSystem system = record { rule = rule; scripts = scripts; plan = live_fits monitor plan fits } in
    let set : HasCountingPlan system = record { is = is; lawful = live_is_lawful_by_counting monitor plan lawful } in
    let told : ℕ → List Op = late_order live in
    let order = late_is_told system is in
    record {
      mutex = late_holders_act system told timed last is order run;
      ready = late_ready system told timed last is order run;
      run = late_runs system told timed last is order run;
      functions = ran_once system told timed last is order;
      answers = late_answers system told timed last is order run;
      counts = counted_late system told timed last run;
      pending = late_seen_to system told timed last set order run;
      owed = nobody_owed system told timed last is order run;
      rests = quiet_late system told timed last set order run;
      ends = still_late system told timed last set order run;
      ends_the_run = still_ends system told timed last set order run;
    }

pub printed_loses_none : (monitor : MonitorParts) (plan : Plan) (clients : List Client) (timed : ℕ → ℕ → Bool) (last : Moment) → IsMonitor monitor → FitsScripts monitor clients → FitsPlan monitor plan → IsLawful monitor plan
    → Leads (printed_program monitor plan clients timed) last → LosesNone (printed_program monitor plan clients timed) last
printed_loses_none monitor plan clients timed last rule scripts fits lawful run = counted_loses_none monitor plan clients timed last rule scripts fits (lawful_by_counting monitor plan lawful) run
