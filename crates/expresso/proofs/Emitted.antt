-- How `emit` ends.
use Rattle.std.proofs.Common.{◌≡◌, ℕ, Bool, true, false, List, refl, subst, sym}
use Rattle.base_io.specs.Outside.{FilesSeen, SinkSeen}
use Rattle.lang_tree.specs.declared.tree.MonitorTree.{MonitorTree}
use Rattle.lang_base.specs.declared.value.Value.{Value}
use Rattle.lang_monitor.specs.MonitorParts.{MonitorParts, IsMonitor, opened_with, start_of}
use Rattle.lang_monitor.specs.Starts.{IsStart}
use Rattle.machine_events.specs.declared.plan.Plan.{Plan}
use Rattle.machine_events.specs.Counts.{IsLawfulByCounting}
use Rattle.machine_events.specs.Laws.{CountingForEveryChoice, FitsForEveryChoice}
use Rattle.machine_events.specs.Plans.{FitsPlan}
use Rattle.machine_events.proofs.Opened.{may_before}
use Rattle.emit_code.specs.Laws.{CountedCodeLosesNone}
use Rattle.emit_code.specs.LivePlans.{printed_program}
use Rattle.emit_fits.specs.Laws.{FittingBlocksNeverOverflow, FittingCallsNeverOverflow, MomentsStayIn64, StartsIn64}
use Rattle.plan_fits.specs.Answers.{AreWhole}
use Rattle.plan_fits.specs.Fits.{Fits64}
use Rattle.emit_numbers.specs.Laws.{AreShort, PrintedBodiesStep, PrintedNumbersAreWide, PrintedTestsHold, SharedTestsHold, StartsAreShort}
use Rattle.emit_module.specs.Modules.{rust_text}
use Rattle.expresso_answers.specs.declared.status.Status.{Status}
use Rattle.expresso_answers.specs.declared.status.Status.TheVariants as statuses
use Rattle.front_command.specs.declared.plan_choice.PlanChoice.TheVariants.{Counted}
use Rattle.front_command.specs.CommandLine.{emit}
use Rattle.expresso_answers.specs.Placements.{IsChosen}
use Rattle.expresso_answers.specs.Choices.{ForEveryChoice}
use Rattle.expresso_answers.specs.MonitorFiles.{IsAccepted}
use Rattle.expresso_answers.specs.PrintedPrograms.{BodiesStep, IsAsPromised, MomentsStayShort, NumbersStayWide, StartIsShort, TestsAreShared, TestsHold, ThreadsLoseNone, WholeBlocksNeverOverflow, WholeCallsNeverOverflow}
use Rattle.expresso_answers.specs.Answers.{HoldsMonitor}
use Rattle.expresso_answers.specs.Ending.{CommandEnds, IsWritten}
use Rattle.expresso_answers.proofs.Ending.{work_ended}
use Rattle.expresso_answers.proofs.OneFile.{no_rejection}

-- what is so of the program and of the printed bodies, by the laws
pub record PrintedLaws : Type 0 where
  pub opened : (monitor : MonitorParts) (start : List Value) → IsMonitor monitor → IsStart monitor.fields start → IsMonitor (opened_with monitor start)
  pub start : (monitor : MonitorParts) (start : List Value) → IsStart monitor.fields start → start_of (opened_with monitor start) ≡ start
  pub fits : FitsForEveryChoice
  pub counting : CountingForEveryChoice
  pub threads : CountedCodeLosesNone
  pub bodies : PrintedBodiesStep
  pub tests : PrintedTestsHold
  pub shared : SharedTestsHold
  pub wide : PrintedNumbersAreWide
  pub starts : StartsAreShort
  pub stays : MomentsStayIn64
  pub never : FittingBlocksNeverOverflow
  pub calls : FittingCallsNeverOverflow

bodies_step : PrintedBodiesStep → (bytes : List ℕ) (tree : MonitorTree) (monitor : MonitorParts) (whole : List Bool) → IsAccepted bytes tree monitor → BodiesStep tree monitor whole
bodies_step law bytes tree monitor whole accepted = λ index placed is block state inputs at held told short short_arguments short_locals may.
    law tree monitor index placed is block state inputs accepted.unbroken accepted.typed at held short short_arguments short_locals may

tests_hold : PrintedTestsHold → (bytes : List ℕ) (tree : MonitorTree) (monitor : MonitorParts) → IsAccepted bytes tree monitor → TestsHold tree monitor
tests_hold law bytes tree monitor accepted = λ index placed block takes state inputs at held unread.
    law tree monitor index placed block takes state inputs accepted.unbroken accepted.typed at held unread

tests_are_shared : SharedTestsHold → (bytes : List ℕ) (tree : MonitorTree) (monitor : MonitorParts) → IsAccepted bytes tree monitor → TestsAreShared tree monitor
tests_are_shared law bytes tree monitor accepted = λ index placed block other waiting state inputs at held too some same bare.
    law tree monitor index placed block other waiting state inputs accepted.unbroken accepted.typed at held too some same bare

numbers_stay_wide : PrintedNumbersAreWide → (bytes : List ℕ) (tree : MonitorTree) (monitor : MonitorParts) → IsAccepted bytes tree monitor → NumbersStayWide tree
numbers_stay_wide law bytes tree monitor accepted = λ index placed arguments memory at short short_state short_locals.
    law tree index placed false arguments memory
    (record { bytes = bytes; tokens = accepted.tokens; short = accepted.short; spelled = accepted.spelled; derived = accepted.derived })
    accepted.unbroken at short short_state short_locals

-- ---- whatever the monitor is opened with

-- the plan for the monitor as it is opened with some values
record OpenedPlan (monitor : MonitorParts) (plan : Plan) (start : List Value) : Type 0 where
  is : IsMonitor (opened_with monitor start)
  fits : FitsPlan (opened_with monitor start) plan
  lawful : IsLawfulByCounting (opened_with monitor start) plan

opened_plan : PrintedLaws → (monitor : MonitorParts) (plan : Plan) (start : List Value) → IsChosen Counted monitor plan → IsStart monitor.fields start → OpenedPlan monitor plan start
opened_plan laws monitor plan start chosen may = record {
  is = laws.opened monitor start chosen.placement.is may;
  fits = laws.fits monitor plan start may chosen.fits;
  lawful = laws.counting monitor plan start chosen.placement.is may chosen.lawful;
}

-- under a counted plan, threads lose no wake-up by the printed code
threads_lose_none : PrintedLaws → (monitor : MonitorParts) (plan : Plan) → IsChosen Counted monitor plan → ForEveryChoice monitor (λ opened. ThreadsLoseNone opened plan)
threads_lose_none laws monitor plan chosen = λ start may.
    let opened = opened_plan laws monitor plan start chosen may in
    λ clients timed last scripts leads. laws.threads (opened_with monitor start) plan clients timed last opened.is scripts opened.fits opened.lawful leads

-- each start is within 64 bits
starts_short : PrintedLaws → (bytes : List ℕ) (tree : MonitorTree) (monitor : MonitorParts) → IsAccepted bytes tree monitor → ForEveryChoice monitor StartIsShort
starts_short laws bytes tree monitor accepted = λ start may.
    let short = laws.starts tree monitor accepted.unbroken accepted.typed in
    (subst AreShort (sym (laws.start monitor start may)) (short.2 start may), short.1)

starts_in_64 : (monitor : MonitorParts) → StartIsShort monitor → StartsIn64 monitor
starts_in_64 monitor short = record { state = short.0; locals = short.1 }

moments_stay_short : MomentsStayIn64 → (monitor : MonitorParts) (plan : Plan) → ForEveryChoice monitor StartIsShort → ForEveryChoice monitor (λ opened. MomentsStayShort opened plan)
moments_stay_short stays monitor plan starts = λ start may clients timed last pass leads.
    let is = stays (printed_program (opened_with monitor start) plan clients timed) last (starts_in_64 (opened_with monitor start) (starts start may)) pass leads in
    record { state = is.state; locals = is.locals }

-- a block that fits does so whatever the monitor is opened with
opened_fits : (monitor : MonitorParts) (plan : Plan) (start : List Value) (number : ℕ) → IsMonitor monitor → IsStart monitor.fields start → Fits64 monitor plan.kept number
    → Fits64 (opened_with monitor start) plan.kept number
opened_fits monitor plan start number rule may fits = λ block inputs state runs over.
    fits block inputs state
    (record {
      runs = may_before monitor start plan.kept number block inputs state rule may runs.runs;
      state_fits = runs.state_fits;
      arguments_fit = runs.arguments_fit;
      locals_fit = runs.locals_fit;
    }) over

whole_never : PrintedLaws → (monitor : MonitorParts) (plan : Plan) (whole : List Bool) → ForEveryChoice monitor StartIsShort → IsChosen Counted monitor plan → AreWhole monitor plan.kept whole
    → ForEveryChoice monitor (λ opened. WholeBlocksNeverOverflow opened plan whole)
whole_never laws monitor plan whole starts chosen are = λ start may clients timed before next thread frame scripts pass leads move told over.
    let opened = opened_plan laws monitor plan start chosen may in
    laws.never (opened_with monitor start) plan clients timed before next thread frame opened.is scripts opened.fits opened.lawful
    (starts_in_64 (opened_with monitor start) (starts start may)) pass leads move
    (opened_fits monitor plan start move.block chosen.placement.is may (are.each move.block true told)) over

whole_calls : PrintedLaws → (monitor : MonitorParts) (plan : Plan) (whole : List Bool) → ForEveryChoice monitor StartIsShort → IsChosen Counted monitor plan → AreWhole monitor plan.kept whole
    → ForEveryChoice monitor (λ opened. WholeCallsNeverOverflow opened plan whole)
whole_calls laws monitor plan whole starts chosen are = λ start may clients timed last thread frame rest call scripts pass leads at is each over.
    let opened = opened_plan laws monitor plan start chosen may in
    laws.calls (opened_with monitor start) plan clients timed last thread frame rest call opened.is scripts opened.fits opened.lawful
    (starts_in_64 (opened_with monitor start) (starts start may)) pass leads at is
    (λ number low high. opened_fits monitor plan start number chosen.placement.is may (are.each number true (each number low high))) over

is_as_promised : PrintedLaws → (bytes : List ℕ) (tree : MonitorTree) (monitor : MonitorParts) (plan : Plan) (whole : List Bool) → IsAccepted bytes tree monitor → IsChosen Counted monitor plan
    → AreWhole monitor plan.kept whole → IsAsPromised tree monitor plan whole
is_as_promised laws bytes tree monitor plan whole accepted chosen are =
    let starts = starts_short laws bytes tree monitor accepted in
    record {
      threads = threads_lose_none laws monitor plan chosen;
      bodies = bodies_step laws.bodies bytes tree monitor whole accepted;
      tests = tests_hold laws.tests bytes tree monitor accepted;
      shared = tests_are_shared laws.shared bytes tree monitor accepted;
      wide = numbers_stay_wide laws.wide bytes tree monitor accepted;
      starts = starts;
      moments = moments_stay_short laws.stays monitor plan starts;
      fits = are;
      never = whole_never laws monitor plan whole starts chosen are;
      calls = whole_calls laws monitor plan whole starts chosen are;
    }

pub emit_done : PrintedLaws → (file : List ℕ) (tree : MonitorTree) (monitor : MonitorParts) (plan : Plan) (whole : List Bool) (files files_now : FilesSeen) (result : Status) (out out_now : SinkSeen)
    → (holds : HoldsMonitor files.held file tree monitor) → IsChosen Counted monitor plan → AreWhole monitor plan.kept whole → files_now.faults ≡ files.faults
    → IsWritten statuses.Done (rust_text holds.bytes tree monitor plan whole) result out out_now → CommandEnds (emit file) files files_now result out out_now
emit_done laws file tree monitor plan whole files files_now result out out_now holds chosen are steady written =
    work_ended (emit file) files files_now (rust_text holds.bytes tree monitor plan whole) result out out_now true
    (record { tree = tree; monitor = monitor; plan = plan; whole = whole; holds = holds; chosen = chosen; promised = is_as_promised laws holds.bytes tree monitor plan whole holds.accepted chosen are; printed = refl })
    (no_rejection files.held file tree monitor holds) steady written
