-- What is true of the plans that `recheck` accepts and `audit` calls lawful.
use Rattle.std.specs.Prelude.{ℕ, Bool, true, false, List, Option, is_some}
use Rattle.std.specs.List.{list_any}
use Rattle.lang_tree.specs.declared.tree.MonitorTree.{MonitorTree}
use Rattle.lang_monitor.specs.MonitorParts.{MonitorParts, IsMonitor}
use Rattle.machine_implicit.specs.declared.script.Client.{Client}
use Rattle.machine_implicit.specs.Scripted.{FitsScripts}
use Rattle.machine_implicit.specs.Runs.{Ends}
use Rattle.machine_events.specs.declared.event.Event.{Event}
use Rattle.machine_events.specs.declared.log.Entry.{Entry}
use Rattle.machine_events.specs.declared.plan.Plan.{Plan}
use Rattle.machine_events.specs.Counts.{IsLawfulByCounting}
use Rattle.machine_events.specs.Plans.{FitsPlan, IsLawful}
use Rattle.machine_events.specs.Configurations.{Configuration, situation_of, system_under}
use Rattle.machine_events.specs.Events.{AreEvents}
use Rattle.machine_events.specs.Logs.{IsLegal, IsClosed}
use Rattle.machine_events.specs.Pending.{WakePending, IsStuck}
use Rattle.report_tally.specs.declared.report.CountedReport.{CountedReport}
use Rattle.expresso_answers.specs.Choices.{ForEveryChoice}
use Rattle.expresso_answers.specs.MonitorFiles.{IsAccepted}
use Rattle.expresso_answers.specs.PlanFiles.{MayBeLawful}
use Rattle.expresso_answers.specs.PrintedPrograms.{ThreadsLoseNone}
use Rattle.expresso_answers.specs.ReportFiles.{IsRechecked}

-- lawful, or where signals may be counted, lawful by counting
abbrev pub IsLawfulBy : Bool → MonitorParts → Plan → Type 0
IsLawfulBy false monitor plan = IsLawful monitor plan
IsLawfulBy true monitor plan = IsLawfulByCounting monitor plan

-- Whatever clients call that fits the monitor, under the plan, whose signals may be counted or not,
-- no wake-up of them is lost.
pub record LosesNoWakeup (count : Bool) (monitor : MonitorParts) (plan : Plan) : Type 0 where
  pub is : IsMonitor monitor
  pub fits : FitsPlan monitor plan
  pub lawful : IsLawfulBy count monitor plan
  -- Whatever events come from the start, spurious wake-ups among them: where no one owns the lock
  -- and a client waits whose guard is true, some client is woken on its condition.
  pub pending : (clients : List Client) (events : List Event) (last : Configuration)
      → FitsScripts monitor clients → AreEvents (system_under monitor clients plan) events last
      → WakePending (system_under monitor clients plan) last
  -- Where nothing but a spurious wake-up can happen, no client may step.
  pub ends : (clients : List Client) (events : List Event) (last : Configuration)
      → FitsScripts monitor clients → AreEvents (system_under monitor clients plan) events last
      → IsStuck (system_under monitor clients plan) last
      → Ends monitor clients (situation_of last)
  -- Nor may one where a legal log is closed.
  pub closed : (clients : List Client) (log : List Entry) (last : Configuration)
      → FitsScripts monitor clients → IsLegal (system_under monitor clients plan) log last
      → IsClosed (system_under monitor clients plan) last
      → Ends monitor clients (situation_of last)
  -- And threads lose none by the code of the plan.
  pub threads : ThreadsLoseNone monitor plan

-- some condition is counted
abbrev pub counts_some : List (Option ℕ) → Bool
counts_some counted = list_any is_some counted

-- The bytes are a monitor's, and those of a report of it: its certificates refute what they should,
-- and whatever the monitor is opened with, its plan loses no wake-up: it is lawful, or where some
-- condition is counted, by counting. (No other monitor has these bytes, and no other report of it:
-- the law `accepts_one_monitor`, and `only` of `IsTextOfCounted`.)
pub record IsSafeReport (monitor_bytes report_bytes : List ℕ) : Type 0 where
  pub tree : MonitorTree
  pub monitor : MonitorParts
  pub report : CountedReport
  pub accepted : IsAccepted monitor_bytes tree monitor
  pub rechecked : IsRechecked report_bytes monitor report
  pub safe : ForEveryChoice monitor
      (λ opened. LosesNoWakeup (counts_some report.counted) opened report.plan)

-- The bytes are a monitor's, and those of a plan of it that loses no wake-up, whatever the monitor
-- is opened with. (No other plan of it has these bytes: `only` of `IsTextOfPlan`.)
pub record IsSafePlan (count : Bool) (monitor_bytes plan_bytes : List ℕ) : Type 0 where
  pub tree : MonitorTree
  pub monitor : MonitorParts
  pub plan : Plan
  pub accepted : IsAccepted monitor_bytes tree monitor
  pub audited : MayBeLawful count plan_bytes monitor plan
  pub safe : ForEveryChoice monitor (λ opened. LosesNoWakeup count opened plan)
