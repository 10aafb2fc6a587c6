-- What the program answers.
use Rattle.std.specs.Prelude.{◌≡◌, ◌<◌, ◌⊎◌, ℕ, Bool, true, false, List, All, Any, map, Option}
use Rattle.std.specs.Prelude.{Some, IfSome, codes, ◌++◌}
use Rattle.std.specs.Io.KnownBytes.{Appends}
use Rattle.base_io.specs.Outside.{FilesSeen, SinkSeen, AppendsFront, Rises}
use Rattle.lang_tree.specs.declared.tree.MonitorTree.{MonitorTree}
use Rattle.lang_printer.specs.Canonical.{tree_text}
use Rattle.lang_monitor.specs.declared.candidate.Candidate.{Candidate}
use Rattle.lang_monitor.specs.MonitorParts.{MonitorParts}
use Rattle.machine_implicit.specs.declared.commit.Turns.{Turns}
use Rattle.machine_implicit.specs.declared.script.Client.{Client}
use Rattle.machine_implicit.specs.Runs.{IsFinished}
use Rattle.machine_implicit.specs.Rounds.{AreTurnsByRounds, end_of}
use Rattle.machine_events.specs.declared.log.Entry.{Entry}
use Rattle.machine_events.specs.declared.plan.Plan.{Plan}
use Rattle.machine_events.specs.Configurations.{Configuration, situation_of}
use Rattle.machine_events.specs.PlanText.{plan_text}
use Rattle.machine_explicit.specs.Sections.{spurious_in}
use Rattle.report_text.specs.TurnsText.{turns_text}
use Rattle.report_text.specs.FaultText.{unread_text}
use Rattle.expresso_answers.specs.declared.status.Status.{Status}
use Rattle.expresso_answers.specs.declared.status.Status.TheVariants.{Done, Refused, Usage}
use Rattle.expresso_answers.specs.declared.status.Status.TheVariants.{ReadFault}
use Rattle.expresso_answers.specs.declared.status.Status.TheVariants.{WriteFault, OutOfMemory}
use Rattle.expresso_answers.specs.declared.status.Status.TheVariants.{Stalled}
use Rattle.front_command.specs.declared.plan_choice.PlanChoice.{PlanChoice}
use Rattle.front_command.specs.declared.plan_choice.PlanChoice.TheVariants.{Counted, Placed}
use Rattle.front_command.specs.declared.schedule.Schedule.{Schedule}
use Rattle.front_command.specs.CommandLine.{Command, check, turns, compile, simulate, run, stress}
use Rattle.front_command.specs.CommandLine.{report, recheck, block, audit, explain, emit, version}
use Rattle.front_command.specs.CommandLine.{CommandFiles, no_files, one_file, two_files, reads}
use Rattle.front_command.specs.CommandLine.{Other, as_clients, as_report, as_plan}
use Rattle.front_command.specs.CommandLine.{Takes, TakesNone, files_of}
use Rattle.machine_stress.specs.LargeInput.{buffer_of, capacity_of, producers_and_consumers}
use Rattle.expresso_answers.specs.Placements.{IsChosen, IsCounting, IsPlacement, table_of}
use Rattle.expresso_answers.specs.PlacedRuns.{IsPlacedRun}
use Rattle.expresso_answers.specs.Simulations.{IsSimulation}
use Rattle.machine_events.specs.Configurations.{system_under}
use Rattle.report_text.specs.Laws.{plan_and_log_text}
use Rattle.report_text.specs.SummaryText.{summary_text}
use Rattle.expresso_answers.specs.FirstFaults.{IsRefusalLine}
use Rattle.expresso_answers.specs.MonitorFiles.{IsAccepted, IsFirstOfMonitor}
use Rattle.expresso_answers.specs.ClientFiles.{AreAccepted, IsFirstOfClients}
use Rattle.expresso_answers.specs.ReportFiles.{IsAcceptanceLine, IsRechecked, IsReportRefusalLine}
use Rattle.expresso_answers.specs.PlanFiles.{IsAudited, IsLawfulLine, IsPlanRefusalLine}
use Rattle.expresso_answers.specs.PlanFiles.{MayBeLawful}
use Rattle.plan_claims.specs.declared.placed.PlacedPlan.{PlacedPlan}
use Rattle.plan_claims.specs.Backing.{AreProofs, backed_claims}
use Rattle.plan_counted.specs.declared.counted.CountedPlan.{CountedPlan}
use Rattle.report_tally.specs.declared.report.CountedReport.{CountedReport}
use Rattle.report_tally.specs.CountedReports.{counted_report_text}
use Rattle.report_tally.specs.CountedTexts.{counted_report_of}
use Rattle.logic_outline.specs.Outlines.{HasTypedNumbers}
use Rattle.report_proofs.specs.ReportTexts.{report_text}
use Rattle.report_verdict.specs.Reports.{report_of}
use Rattle.plan_needs.specs.declared.broadcasts.BroadcastReason.{BroadcastReason}
use Rattle.plan_needs.specs.CountedReasons.{IsBroadcastReason, IsCountedReason}
use Rattle.plan_needs.specs.Needs.{broadcasts_of}
use Rattle.plan_why.specs.declared.reason.Reason.{Reason}
use Rattle.plan_why.specs.Reasons.{IsReason}
use Rattle.plan_why.specs.Things.{things_of}
use Rattle.logic_cert.specs.declared.cert.Cert.{Cert}
use Rattle.plan_fits.specs.Answers.{AreFitAnswers}
use Rattle.report_fits.specs.declared.reasons.FitReason.{FitReason}
use Rattle.report_fits.specs.FitReasons.{AreFitReasons}
use Rattle.report_fits.specs.FitReasonTexts.{fit_reasons_text}
use Rattle.report_fits.specs.FitTexts.{certified, fits_text}
use Rattle.emit_module.specs.Modules.{rust_text}
use Rattle.expresso_answers.specs.PrintedPrograms.{IsAsPromised}
use Rattle.expresso_answers.specs.Texts.{count_explained_text, explained_text, usage_text}
use Rattle.expresso_answers.specs.Texts.{version_text}

-- the bytes are those held by a name, where they are told
abbrev pub HoldsBytes : (List ℕ → Option (List ℕ)) → List ℕ → List ℕ → Type 0
HoldsBytes held name bytes = IfSome (held name) (λ all. all ≡ bytes)

-- the file holds the monitor, and its tree, where it is told
pub record HoldsMonitor (held : List ℕ
    → Option (List ℕ)) (file : List ℕ) (tree : MonitorTree) (monitor : MonitorParts) : Type 0 where
  pub bytes : List ℕ
  pub told : HoldsBytes held file bytes
  pub accepted : IsAccepted bytes tree monitor

-- the two files hold the monitor and the clients, where they are told
pub record HoldRun (held : List ℕ
    → Option (List ℕ)) (monitor_file clients_file : List ℕ) (monitor : MonitorParts)
    (clients : List Client) : Type 0 where
  pub monitor_bytes : List ℕ
  pub clients_bytes : List ℕ
  pub tree : MonitorTree
  pub monitor_told : HoldsBytes held monitor_file monitor_bytes
  pub clients_told : HoldsBytes held clients_file clients_bytes
  pub monitor_accepted : IsAccepted monitor_bytes tree monitor
  pub clients_accepted : AreAccepted clients_bytes monitor clients

-- ---- the text of each command

-- the canonical form of the tree that the file has
pub record IsCheckText (held : List ℕ → Option (List ℕ)) (file text : List ℕ) : Type 0 where
  pub tree : MonitorTree
  pub monitor : MonitorParts
  pub holds : HoldsMonitor held file tree monitor
  pub printed : text ≡ tree_text tree

-- the text of the run by rounds of the monitor and the clients that the two files stand for
pub record IsTurnsText (held : List ℕ
    → Option (List ℕ)) (monitor_file clients_file : List ℕ) (clients : List Client) (run : Turns)
    (text : List ℕ) : Type 0 where
  pub monitor : MonitorParts
  pub files : HoldRun held monitor_file clients_file monitor clients
  pub rounds : AreTurnsByRounds monitor clients run
  pub printed : text ≡ turns_text monitor clients run

-- the text of the plan that is asked for of the monitor of the file
pub record IsCompileText (held : List ℕ
    → Option (List ℕ)) (file : List ℕ) (choice : PlanChoice) (text : List ℕ) : Type 0 where
  pub tree : MonitorTree
  pub monitor : MonitorParts
  pub plan : Plan
  pub holds : HoldsMonitor held file tree monitor
  pub chosen : IsChosen choice monitor plan
  pub printed : text ≡ plan_text monitor plan

-- the text of the plan that is asked for, and of the log of a simulation under it
pub record IsSimulateText (held : List ℕ
    → Option (List ℕ)) (monitor_file clients_file : List ℕ) (schedule : Schedule)
    (choice : PlanChoice) (clients : List Client) (last : Configuration) (text : List ℕ) : Type 0
  where
    pub monitor : MonitorParts
    pub plan : Plan
    pub log : List Entry
    pub files : HoldRun held monitor_file clients_file monitor clients
    pub simulation : IsSimulation choice (system_under monitor clients plan) schedule log last
    pub printed : text ≡ plan_and_log_text (system_under monitor clients plan) log last

-- the text of the plan that is asked for, and of the log of a run under it in which no wake-up is
-- spurious
pub record IsRunText (held : List ℕ
    → Option (List ℕ)) (monitor_file clients_file : List ℕ) (choice : PlanChoice)
    (clients : List Client) (last : Configuration) (text : List ℕ) : Type 0 where
  pub monitor : MonitorParts
  pub plan : Plan
  pub log : List Entry
  pub files : HoldRun held monitor_file clients_file monitor clients
  pub placed : IsPlacedRun choice (system_under monitor clients plan) log last
  pub unprompted : spurious_in log ≡ 0
  pub printed : text ≡ plan_and_log_text (system_under monitor clients plan) log last

-- the text of such a run in which no client has a call left; in which some client has
abbrev pub IsFinishedRunText : (List ℕ → Option (List ℕ)) → List ℕ → List ℕ → PlanChoice → List ℕ
    → Type 0
IsFinishedRunText held monitor clients choice text =
    (scripts : List Client) × (last : Configuration)
    × IsRunText held monitor clients choice scripts last text
    × IsFinished scripts (situation_of last)

abbrev pub IsStalledRunText : (List ℕ → Option (List ℕ)) → List ℕ → List ℕ → PlanChoice → List ℕ
    → Type 0
IsStalledRunText held monitor clients choice text =
    (scripts : List Client) × (last : Configuration)
    × IsRunText held monitor clients choice scripts last text
    × (IsFinished scripts (situation_of last) → ⊥)

-- the summary of such a run of the large input that the number stands for; its calls are done and
-- the buffer is empty
pub record IsStressText (number : ℕ) (text : List ℕ) : Type 0 where
  pub plan : Plan
  pub log : List Entry
  pub last : Configuration
  pub placed : IsPlacedRun Placed
      (system_under (buffer_of (capacity_of number)) producers_and_consumers plan) log last
  pub unprompted : spurious_in log ≡ 0
  pub finished : IsFinished producers_and_consumers (situation_of last)
  pub summed : text ≡ summary_text
      (system_under (buffer_of (capacity_of number)) producers_and_consumers plan) log last
  pub printed : text ≡ codes "calls 16384\ndone\nstate count=0\n"

-- the text of the report of a plan that the monitor of the file is compiled to, which has one
-- certificate for each claim that the plan rests on, with numbers of their types
pub record IsReportText (held : List ℕ → Option (List ℕ)) (file text : List ℕ) : Type 0 where
  pub tree : MonitorTree
  pub monitor : MonitorParts
  pub placed : PlacedPlan
  pub holds : HoldsMonitor held file tree monitor
  pub placement : IsPlacement monitor placed.plan
  pub proofs : AreProofs monitor placed.plan.kept (backed_claims monitor placed.plan) placed.proofs
  pub typed : All (λ proof. HasTypedNumbers proof.cert) placed.proofs
  pub printed : text ≡ report_text monitor (report_of placed)

-- the text of the report of such a plan that was counted, which has one certificate for each claim
-- and each question that the counted plan rests on
pub record IsCountedReportText (held : List ℕ → Option (List ℕ)) (file text : List ℕ) : Type 0
  where
    pub tree : MonitorTree
    pub monitor : MonitorParts
    pub placed : PlacedPlan
    pub counted : CountedPlan
    pub holds : HoldsMonitor held file tree monitor
    pub counting : IsCounting monitor placed counted
    pub printed : text ≡ counted_report_text monitor (counted_report_of placed counted)

-- after a text, a line for each block for which a certificate was found that it keeps 64 bits
pub record HasFits (monitor : MonitorParts) (kept : List Candidate) (front text : List ℕ) : Type 0
  where
    pub answers : List (Option Cert)
    pub are : AreFitAnswers monitor kept answers
    pub typed : All (λ answer. IfSome answer HasTypedNumbers) answers
    pub printed : text ≡ front ++ fits_text monitor (certified answers)

-- with `--count`, of the counted plan, and with `--fits`, with such lines
abbrev pub IsReportTextBy : (List ℕ → Option (List ℕ)) → Bool → Bool → List ℕ → List ℕ → Type 0
IsReportTextBy held false false file text = IsReportText held file text
IsReportTextBy held true false file text = IsCountedReportText held file text
IsReportTextBy held false true file text =
    (front : List ℕ) × (is : IsReportText held file front)
    × HasFits is.monitor is.placed.plan.kept front text
IsReportTextBy held true true file text =
    (front : List ℕ) × (is : IsCountedReportText held file front)
    × HasFits is.monitor is.counted.plan.kept front text

-- a line on the other file, by its bytes and the monitor that the first file holds
pub record IsOtherText (held : List ℕ
    → Option (List ℕ)) (IsLine : MonitorTree → MonitorParts → List ℕ → List ℕ → Type 0)
    (monitor_file other_file text : List ℕ) : Type 0 where
  pub tree : MonitorTree
  pub monitor : MonitorParts
  pub bytes : List ℕ
  pub holds : HoldsMonitor held monitor_file tree monitor
  pub told : HoldsBytes held other_file bytes
  pub line : IsLine tree monitor bytes text

-- the text of a plan that the monitor of the file is compiled to, and why each thing stands in it
-- that costs something
pub record IsExplainText (held : List ℕ → Option (List ℕ)) (file text : List ℕ) : Type 0 where
  pub tree : MonitorTree
  pub monitor : MonitorParts
  pub plan : Plan
  pub reasons : List Reason
  pub holds : HoldsMonitor held file tree monitor
  pub placement : IsPlacement monitor plan
  pub things : map (λ reason. reason.thing) reasons ≡ things_of monitor plan
  pub each : All (IsReason monitor plan) reasons
  pub printed : text ≡ explained_text tree monitor plan reasons

-- the text of such a plan counted, why each thing stands in it that costs something, and why the
-- broadcasts of blocks on conditions that are counted do
pub record IsCountExplainText (held : List ℕ → Option (List ℕ)) (file text : List ℕ) : Type 0 where
  pub tree : MonitorTree
  pub monitor : MonitorParts
  pub plan : Plan
  pub reasons : List Reason
  pub broadcasts : List BroadcastReason
  pub holds : HoldsMonitor held file tree monitor
  pub chosen : IsChosen Counted monitor plan
  pub things : map (λ reason. reason.thing) reasons ≡ things_of monitor plan
  pub each : All (IsCountedReason monitor (table_of monitor plan chosen)) reasons
  pub listed : map (λ reason. reason.broadcast) broadcasts
      ≡ broadcasts_of (table_of monitor plan chosen)
  pub each_listed : All (IsBroadcastReason monitor (table_of monitor plan chosen)) broadcasts
  pub printed : text ≡ count_explained_text tree monitor plan reasons broadcasts

-- after a text, a line for each block of which no certificate was found that it keeps 64 bits, with
-- values with which it doesn't, where they are found
pub record HasFitReasons (tree : MonitorTree) (monitor : MonitorParts) (kept : List Candidate)
    (front text : List ℕ) : Type 0 where
  pub found : List FitReason
  pub are : AreFitReasons monitor kept found
  pub printed : text ≡ front ++ fit_reasons_text tree monitor found

-- with `--count`, of the counted plan, and with `--fits`, with such lines
abbrev pub IsExplainTextBy : (List ℕ → Option (List ℕ)) → Bool → Bool → List ℕ → List ℕ → Type 0
IsExplainTextBy held false false file text = IsExplainText held file text
IsExplainTextBy held true false file text = IsCountExplainText held file text
IsExplainTextBy held false true file text =
    (front : List ℕ) × (is : IsExplainText held file front)
    × HasFitReasons is.tree is.monitor is.plan.kept front text
IsExplainTextBy held true true file text =
    (front : List ℕ) × (is : IsCountExplainText held file front)
    × HasFitReasons is.tree is.monitor is.plan.kept front text

-- the text of the Rust module of the monitor of the file, with its comments, under a counted plan:
-- whatever the monitor is opened with, what threads do by the code of that plan is a run of it, no
-- wake-up is lost, and each printed body does the step of its block, without tests of 64 bits where
-- the block is whole
pub record IsEmitText (held : List ℕ → Option (List ℕ)) (file text : List ℕ) : Type 0 where
  pub tree : MonitorTree
  pub monitor : MonitorParts
  pub plan : Plan
  pub whole : List Bool
  pub holds : HoldsMonitor held file tree monitor
  pub chosen : IsChosen Counted monitor plan
  pub promised : IsAsPromised tree monitor plan whole
  pub printed : text ≡ rust_text holds.bytes tree monitor plan whole

-- the text of a command whose work is done; of `turns`, `simulate`, `run` and `block`, that no
-- client has a call left
abbrev pub IsDoneText : (List ℕ → Option (List ℕ)) → Command → List ℕ → Type 0
IsDoneText held (check file) text = IsCheckText held file text
IsDoneText held (turns monitor clients) text =
    (scripts : List Client) × (run : Turns) × IsTurnsText held monitor clients scripts run text
    × IsFinished scripts (end_of run)
IsDoneText held (compile file choice) text = IsCompileText held file choice text
IsDoneText held (simulate monitor clients schedule choice) text =
    (scripts : List Client) × (last : Configuration)
    × IsSimulateText held monitor clients schedule choice scripts last text
    × IsFinished scripts (situation_of last)
IsDoneText held (run monitor clients workers choice) text =
    IsFinishedRunText held monitor clients choice text
IsDoneText held (stress number workers) text = IsStressText number text
IsDoneText held (report file count fits) text = IsReportTextBy held count fits file text
IsDoneText held (recheck monitor report_file) text =
    IsOtherText held (λ tree. IsAcceptanceLine) monitor report_file text
IsDoneText held (block monitor clients choice) text =
    IsFinishedRunText held monitor clients choice text
IsDoneText held (audit monitor plan_file count) text =
    IsOtherText held (λ tree. IsLawfulLine count) monitor plan_file text
IsDoneText held (explain file count fits) text = IsExplainTextBy held count fits file text
IsDoneText held (emit file) text = IsEmitText held file text
IsDoneText held version text = text ≡ version_text

-- the text of `turns`, `simulate`, `run` or `block` where some client has a call left; no other
-- command stalls
abbrev pub IsStalledText : (List ℕ → Option (List ℕ)) → Command → List ℕ → Type 0
IsStalledText held (turns monitor clients) text =
    (scripts : List Client) × (run : Turns) × IsTurnsText held monitor clients scripts run text
    × (IsFinished scripts (end_of run) → ⊥)
IsStalledText held (simulate monitor clients schedule choice) text =
    (scripts : List Client) × (last : Configuration)
    × IsSimulateText held monitor clients schedule choice scripts last text
    × (IsFinished scripts (situation_of last) → ⊥)
IsStalledText held (run monitor clients workers choice) text =
    IsStalledRunText held monitor clients choice text
IsStalledText held (block monitor clients choice) text =
    IsStalledRunText held monitor clients choice text
IsStalledText held command text = ⊥

-- ---- refusals

-- the line that refuses the monitor file
pub record IsMonitorRefusal (held : List ℕ → Option (List ℕ)) (file text : List ℕ) : Type 0 where
  pub bytes : List ℕ
  pub told : HoldsBytes held file bytes
  pub line : IsRefusalLine (IsFirstOfMonitor bytes) file bytes text

-- the line that refuses the other file, of this name
abbrev pub IsOtherRefusal : Other → List ℕ → MonitorTree → MonitorParts → List ℕ → List ℕ → Type 0
IsOtherRefusal as_clients file tree monitor bytes text =
    IsRefusalLine (IsFirstOfClients bytes monitor) file bytes text
IsOtherRefusal as_report file tree monitor bytes text =
    IsReportRefusalLine monitor file bytes text
IsOtherRefusal (as_plan count) file tree monitor bytes text =
    IsPlanRefusalLine count tree monitor file bytes text

-- the line of the first of a command's files that is not accepted
abbrev pub IsRefusedText : (List ℕ → Option (List ℕ)) → CommandFiles → List ℕ → Type 0
IsRefusedText held no_files text = ⊥
IsRefusedText held (one_file monitor) text = IsMonitorRefusal held monitor text
IsRefusedText held (two_files other monitor file) text =
    IsMonitorRefusal held monitor text
    ⊎ IsOtherText held (IsOtherRefusal other file) monitor file text

-- a read fault's line that names one of the command's files; which of them, no clause says
abbrev pub IsUnreadText : Command → List ℕ → Type 0
IsUnreadText command text = Any (λ file. text ≡ unread_text file) (files_of command)

-- ---- what a status says

-- The whole text of a status, and what is true where it is written. The files were seen before the
-- call, and are seen now.
abbrev pub IsText : List (List ℕ) → FilesSeen → FilesSeen → Status → List ℕ → Type 0
IsText words files files_now Done text =
    (command : Command) × Takes words command × IsDoneText files.held command text
IsText words files files_now Stalled text =
    (command : Command) × Takes words command × IsStalledText files.held command text
IsText words files files_now Refused text =
    (command : Command) × Takes words command × IsRefusedText files.held (reads command) text
IsText words files files_now Usage text = TakesNone words × (text ≡ usage_text)
IsText words files files_now ReadFault text =
    (command : Command) × Takes words command × IsUnreadText command text
    × Rises files.faults files_now.faults
IsText words files files_now WriteFault text = ⊥
IsText words files files_now OutOfMemory text = ⊥

-- Not all of the text was handed on: a proper front of it was written, or all of it, and then bytes
-- are still buffered.
abbrev pub IsUnfinished : SinkSeen → SinkSeen → List ℕ → Type 0
IsUnfinished out out_now text =
    AppendsFront out.written out_now.written text
    ⊎ (Appends out.written out_now.written text × (0 < out_now.buffered))

-- What was written for a status: its whole text; where the sink failed, the text whose status this
-- one replaces, not all of which was handed on; where memory ran out, nothing.
abbrev pub Answers : List (List ℕ) → FilesSeen → FilesSeen → Status → SinkSeen → SinkSeen → Type 0
Answers words files files_now WriteFault out out_now =
    (status : Status) × (text : List ℕ) × IsText words files files_now status text
    × IsUnfinished out out_now text
Answers words files files_now OutOfMemory out out_now = out_now ≡ out
Answers words files files_now status out out_now =
    (text : List ℕ) × IsText words files files_now status text
    × Appends out.written out_now.written text

-- ---- completeness: what the status must be where nothing fails

-- the file tells its bytes, which are accepted
abbrev pub AcceptsMonitor : (List ℕ → Option (List ℕ)) → List ℕ → Type 0
AcceptsMonitor held file =
    (bytes : List ℕ) × (tree : MonitorTree) × (monitor : MonitorParts) × (held file ≡ Some bytes)
    × IsAccepted bytes tree monitor

-- it tells its bytes, which are not accepted
abbrev pub RejectsMonitor : (List ℕ → Option (List ℕ)) → List ℕ → Type 0
RejectsMonitor held file =
    (bytes : List ℕ) × (held file ≡ Some bytes)
    × ((tree : MonitorTree) (monitor : MonitorParts) → IsAccepted bytes tree monitor → ⊥)

-- the bytes of the other file must be accepted for the monitor: they are its clients', or those of
-- a report of it that is accepted, or of a plan of which nothing may be found but that it is lawful
abbrev pub MustAccept : Other → MonitorParts → List ℕ → Type 0
MustAccept as_clients monitor bytes = (clients : List Client) × AreAccepted bytes monitor clients
MustAccept as_report monitor bytes = (own : CountedReport) × IsRechecked bytes monitor own
MustAccept (as_plan count) monitor bytes = (plan : Plan) × IsAudited count bytes monitor plan

-- they may be: those of a plan that may be found lawful, and of others those that must be
abbrev pub MayAccept : Other → MonitorParts → List ℕ → Type 0
MayAccept (as_plan count) monitor bytes = (plan : Plan) × MayBeLawful count bytes monitor plan
MayAccept other monitor bytes = MustAccept other monitor bytes

-- the files of a command tell their bytes, which are accepted
abbrev pub AcceptsFiles : (List ℕ → Option (List ℕ)) → CommandFiles → Type 0
AcceptsFiles held no_files = Unit {0}
AcceptsFiles held (one_file monitor) = AcceptsMonitor held monitor
AcceptsFiles held (two_files other monitor_file file) =
    (monitor_bytes : List ℕ) × (bytes : List ℕ) × (tree : MonitorTree) × (monitor : MonitorParts)
    × (held monitor_file ≡ Some monitor_bytes) × (held file ≡ Some bytes)
    × IsAccepted monitor_bytes tree monitor × MustAccept other monitor bytes

-- they tell their bytes, and one of them is not accepted
abbrev pub RejectsFiles : (List ℕ → Option (List ℕ)) → CommandFiles → Type 0
RejectsFiles held no_files = ⊥
RejectsFiles held (one_file monitor) = RejectsMonitor held monitor
RejectsFiles held (two_files other monitor_file file) =
    (monitor_bytes : List ℕ) × (bytes : List ℕ) × (held monitor_file ≡ Some monitor_bytes)
    × (held file ≡ Some bytes)
    × ((tree : MonitorTree) (monitor : MonitorParts)
    → IsAccepted monitor_bytes tree monitor → MayAccept other monitor bytes → ⊥)

-- the words are a command's whose files are accepted; or one of them is not
abbrev pub Accepts : (List ℕ → Option (List ℕ)) → List (List ℕ) → Type 0
Accepts held words =
    (command : Command) × Takes words command × AcceptsFiles held (reads command)

abbrev pub Rejects : (List ℕ → Option (List ℕ)) → List (List ℕ) → Type 0
Rejects held words =
    (command : Command) × Takes words command × RejectsFiles held (reads command)

-- ---- which statuses may come

-- no fault of a device rose in the call, and its count does not stand at its end
abbrev pub IsFaultless : ℕ → ℕ → Type 0
IsFaultless before now = Rises before now → ⊥

abbrev pub IsWorkedOrMemory : Status → Type 0
IsWorkedOrMemory Done = Unit {0}
IsWorkedOrMemory Stalled = Unit {0}
IsWorkedOrMemory OutOfMemory = Unit {0}
IsWorkedOrMemory status = ⊥

abbrev pub IsRefusedOrMemory : Status → Type 0
IsRefusedOrMemory Refused = Unit {0}
IsRefusedOrMemory OutOfMemory = Unit {0}
IsRefusedOrMemory status = ⊥

abbrev pub IsStoppedOrMemory : Status → Type 0
IsStoppedOrMemory Refused = Unit {0}
IsStoppedOrMemory ReadFault = Unit {0}
IsStoppedOrMemory OutOfMemory = Unit {0}
IsStoppedOrMemory status = ⊥

abbrev pub IsUsageOrMemory : Status → Type 0
IsUsageOrMemory Usage = Unit {0}
IsUsageOrMemory OutOfMemory = Unit {0}
IsUsageOrMemory status = ⊥

abbrev pub IsUnreadOrMemory : Status → Type 0
IsUnreadOrMemory ReadFault = Unit {0}
IsUnreadOrMemory OutOfMemory = Unit {0}
IsUnreadOrMemory status = ⊥
