-- What `recheck` accepts and `audit` calls lawful loses no wake-up.
use Rattle.std.proofs.Common.{◌≡◌, ℕ, Bool, true, false, List, [], ◌∷◌, Option, Some, None, refl, subst, true≢false}
use Rattle.std.specs.Prelude.{All}
use Rattle.std.proofs.lemmas.List.Elements.{All-nil, All-cons}
use Rattle.lang_tree.specs.declared.tree.MonitorTree.{MonitorTree}
use Rattle.lang_syntax.specs.Grammar.{IsParsed}
use Rattle.lang_syntax.proofs.NameLaws.{monitor_named}
use Rattle.lang_base.specs.declared.value.Value.{Value}
use Rattle.lang_monitor.specs.declared.monitor.Condition.{Condition}
use Rattle.lang_monitor.specs.MonitorParts.{MonitorParts, IsMonitor, opened_with}
use Rattle.lang_monitor.specs.Starts.{IsStart}
use Rattle.lang_types.proofs.MonitorMade.{typed_is_monitor}
use Rattle.lang_types.proofs.Small.{parsed_has_blocks}
use Rattle.machine_implicit.specs.declared.script.Client.{Client}
use Rattle.machine_implicit.specs.Scripted.{FitsScripts}
use Rattle.machine_events.specs.declared.plan.Plan.{Plan}
use Rattle.lang_monitor.specs.Inputs.{reads_inputs}
use Rattle.machine_events.specs.Counts.{IsLawfulByCounting}
use Rattle.machine_events.specs.Plans.{FitsPlan, IsCondition, WakesAll}
use Rattle.machine_events.specs.Configurations.{system_under}
use Rattle.machine_events.specs.Laws.{CountedClosedIsTheEnd, CountedStuckIsTheEnd, CountedWakesArePending, CountingForEveryChoice, FitsForEveryChoice, HasCountingPlan, LawfulForEveryChoice, LawfulIsByCounting}
use Rattle.emit_code.specs.Laws.{CountedCodeLosesNone}
use Rattle.expresso_reports.proofs.LawfulFits.{reading_fits}
use Rattle.report_audit.specs.declared.finding.Finding.TheVariants as findings
use Rattle.report_audit.specs.CountedFindings.{IsFindingBy}
use Rattle.front_command.specs.CommandLine.{audit, recheck}
use Rattle.expresso_answers.specs.Choices.{ForEveryChoice}
use Rattle.expresso_answers.specs.MonitorFiles.{IsAccepted}
use Rattle.expresso_answers.specs.PlanFiles.{MayBeLawful}
use Rattle.expresso_answers.specs.ReportFiles.{IsRechecked}
use Rattle.expresso_answers.specs.Answers.{IsDoneText}
use Rattle.report_tally.specs.declared.report.CountedReport.{CountedReport}
use Rattle.report_tally.specs.CountedVerdicts.{IsCountedAccepted}
use Rattle.expresso_reports.specs.CheckedPlans.{IsLawfulBy, IsSafePlan, IsSafeReport, LosesNoWakeup, counts_some}
use Rattle.expresso_answers.proofs.Telling.{holds_same}

-- the laws of monitors that are opened, of events and of code
pub record WakeLaws : Type 0 where
  pub opened : (monitor : MonitorParts) (start : List Value) → IsMonitor monitor → IsStart monitor.fields start → IsMonitor (opened_with monitor start)
  pub fits : FitsForEveryChoice
  pub plain : LawfulForEveryChoice
  pub counting : CountingForEveryChoice
  pub lawful : LawfulIsByCounting
  pub pending : CountedWakesArePending
  pub ends : CountedStuckIsTheEnd
  pub closed : CountedClosedIsTheEnd
  pub threads : CountedCodeLosesNone

-- ---- one monitor and one plan

has_counting_plan : (monitor : MonitorParts) (plan : Plan) (clients : List Client) → IsMonitor monitor → FitsPlan monitor plan → IsLawfulByCounting monitor plan → FitsScripts monitor clients → HasCountingPlan (system_under monitor clients plan)
has_counting_plan monitor plan clients is fits lawful scripts = record { is = record { rule = is; scripts = scripts; plan = fits }; lawful = lawful }

by_counting : WakeLaws → (count : Bool) (monitor : MonitorParts) (plan : Plan) → IsLawfulBy count monitor plan → IsLawfulByCounting monitor plan
by_counting laws false monitor plan lawful = laws.lawful monitor plan lawful
by_counting laws true monitor plan lawful = lawful

loses_none : WakeLaws → (count : Bool) (monitor : MonitorParts) (plan : Plan) → IsMonitor monitor → FitsPlan monitor plan → IsLawfulBy count monitor plan → LosesNoWakeup count monitor plan
loses_none laws count monitor plan is fits lawful =
    let counted = by_counting laws count monitor plan lawful in
    record {
      is = is;
      fits = fits;
      lawful = lawful;
      pending = λ clients events last scripts happened. laws.pending (system_under monitor clients plan) events last (has_counting_plan monitor plan clients is fits counted scripts) happened;
      ends = λ clients events last scripts happened stuck. laws.ends (system_under monitor clients plan) events last (has_counting_plan monitor plan clients is fits counted scripts) happened stuck;
      closed = λ clients log last scripts legal closed. laws.closed (system_under monitor clients plan) log last (has_counting_plan monitor plan clients is fits counted scripts) legal closed;
      threads = λ clients timed last scripts leads. laws.threads monitor plan clients timed last is scripts fits counted leads;
    }

-- ---- whatever the monitor is opened with

lawful_choice : WakeLaws → (count : Bool) (monitor : MonitorParts) (plan : Plan) (start : List Value) → IsMonitor monitor → IsStart monitor.fields start → IsLawfulBy count monitor plan
    → IsLawfulBy count (opened_with monitor start) plan
lawful_choice laws false monitor plan start is may lawful = laws.plain monitor plan start may lawful
lawful_choice laws true monitor plan start is may lawful = laws.counting monitor plan start is may lawful

every_choice : WakeLaws → (count : Bool) (monitor : MonitorParts) (plan : Plan) → IsMonitor monitor → FitsPlan monitor plan → IsLawfulBy count monitor plan
    → ForEveryChoice monitor (λ opened. LosesNoWakeup count opened plan)
every_choice laws count monitor plan is fits lawful = λ start may.
    loses_none laws count (opened_with monitor start) plan (laws.opened monitor start is may) (laws.fits monitor plan start may fits) (lawful_choice laws count monitor plan start is may lawful)

-- ---- what is lawful

-- what a plan that is found lawful is
found_lawful : (count : Bool) (monitor : MonitorParts) (plan : Plan) → IsFindingBy count monitor plan findings.Lawful → IsLawfulBy count monitor plan
found_lawful false monitor plan found = found.lawful
found_lawful true monitor plan found = found.counting

-- a condition that reads inputs has only untested broadcasts
lawful_reading : (count : Bool) (monitor : MonitorParts) (plan : Plan) → IsLawfulBy count monitor plan
    → (number : ℕ) (condition : Condition) → IsCondition monitor number condition → reads_inputs condition.guard ≡ true → WakesAll plan number
lawful_reading false monitor plan lawful = lawful.reading
lawful_reading true monitor plan lawful = lawful.reading

-- ---- reports

none_counted : (counted : List (Option ℕ)) → counts_some counted ≡ false → All (λ row. row ≡ None) counted
none_counted [] none = All-nil (λ row. row ≡ None)
none_counted (Some row ∷ counted) none = absurd (true≢false none)
none_counted (None ∷ counted) none = All-cons (λ row. row ≡ None) None counted refl (none_counted counted none)

-- the plan of an accepted report is lawful, or where some condition is counted, by counting
accepted_lawful : (monitor : MonitorParts) (report : CountedReport) → IsCountedAccepted monitor report → IsLawfulBy (counts_some report.counted) monitor report.plan
accepted_lawful monitor report accepted = by_marks (counts_some report.counted) refl
  where
    by_marks : (some : Bool) → counts_some report.counted ≡ some → IsLawfulBy some monitor report.plan
    by_marks true is = accepted.lawful
    by_marks false is = accepted.plain (none_counted report.counted is)

-- ---- files

-- the monitor of a file keeps the rule of a monitor
accepted_is_monitor : (bytes : List ℕ) (tree : MonitorTree) (monitor : MonitorParts) → IsAccepted bytes tree monitor → IsMonitor monitor
accepted_is_monitor bytes tree monitor accepted =
    let parsed : IsParsed tree = record { bytes = bytes; tokens = accepted.tokens; short = accepted.short; spelled = accepted.spelled; derived = accepted.derived } in
    typed_is_monitor tree monitor accepted.unbroken (monitor_named bytes accepted.tokens tree accepted.spelled accepted.derived) (parsed_has_blocks tree parsed) accepted.typed

pub safe_report : WakeLaws → (held : List ℕ → Option (List ℕ)) (monitor_file report_file text monitor_bytes report_bytes : List ℕ) → held monitor_file ≡ Some monitor_bytes → held report_file ≡ Some report_bytes
    → IsDoneText held (recheck monitor_file report_file) text → IsSafeReport monitor_bytes report_bytes
safe_report laws held monitor_file report_file text monitor_bytes report_bytes monitor_tells report_tells done =
    let report = done.line.report in
    let accepted : IsAccepted monitor_bytes done.tree done.monitor = subst (λ (b : List ℕ). IsAccepted b done.tree done.monitor)
    (holds_same held monitor_file monitor_bytes done.holds.bytes monitor_tells done.holds.told) done.holds.accepted in
    let rechecked : IsRechecked report_bytes done.monitor report = subst (λ (b : List ℕ). IsRechecked b done.monitor report)
    (holds_same held report_file report_bytes done.bytes report_tells done.told) done.line.rechecked in
    record {
      tree = done.tree;
      monitor = done.monitor;
      report = report;
      accepted = accepted;
      rechecked = rechecked;
      safe = every_choice laws (counts_some report.counted) done.monitor report.plan (accepted_is_monitor monitor_bytes done.tree done.monitor accepted)
          rechecked.accepted.fits (accepted_lawful done.monitor report rechecked.accepted);
    }

pub safe_plan : WakeLaws → (held : List ℕ → Option (List ℕ)) (monitor_file plan_file text monitor_bytes plan_bytes : List ℕ) (count : Bool) → held monitor_file ≡ Some monitor_bytes → held plan_file ≡ Some plan_bytes
    → IsDoneText held (audit monitor_file plan_file count) text → IsSafePlan count monitor_bytes plan_bytes
safe_plan laws held monitor_file plan_file text monitor_bytes plan_bytes count monitor_tells plan_tells done =
    let plan = done.line.plan in
    let accepted : IsAccepted monitor_bytes done.tree done.monitor = subst (λ (b : List ℕ). IsAccepted b done.tree done.monitor)
    (holds_same held monitor_file monitor_bytes done.holds.bytes monitor_tells done.holds.told) done.holds.accepted in
    let audited : MayBeLawful count plan_bytes done.monitor plan = subst (λ (b : List ℕ). MayBeLawful count b done.monitor plan)
    (holds_same held plan_file plan_bytes done.bytes plan_tells done.told) done.line.found in
    let lawful = found_lawful count done.monitor plan audited.lawful in
    record {
      tree = done.tree;
      monitor = done.monitor;
      plan = plan;
      accepted = accepted;
      audited = audited;
      safe = every_choice laws count done.monitor plan (accepted_is_monitor monitor_bytes done.tree done.monitor accepted)
          (reading_fits done.monitor plan audited.is.read.is (lawful_reading count done.monitor plan lawful)) lawful;
    }
