-- How `report --fits` and `explain --fits` end.
use Rattle.std.proofs.Common.{◌≡◌, ℕ, Bool, true, false, List, ◌++◌, Option, map, refl, sym, subst}
use Rattle.std.specs.Prelude.{All, IfSome}
use Rattle.base_io.specs.Outside.{FilesSeen, SinkSeen}
use Rattle.lang_tree.specs.declared.tree.MonitorTree.{MonitorTree}
use Rattle.lang_monitor.specs.MonitorParts.{MonitorParts}
use Rattle.machine_events.specs.declared.plan.Plan.{Plan}
use Rattle.logic_cert.specs.declared.cert.Cert.{Cert}
use Rattle.logic_outline.specs.Outlines.{HasTypedNumbers}
use Rattle.plan_claims.specs.declared.placed.PlacedPlan.{PlacedPlan}
use Rattle.plan_claims.specs.Backing.{AreProofs, backed_claims}
use Rattle.plan_counted.specs.declared.counted.CountedPlan.{CountedPlan}
use Rattle.plan_needs.specs.declared.broadcasts.BroadcastReason.{BroadcastReason}
use Rattle.plan_why.specs.declared.reason.Reason.{Reason}
use Rattle.report_proofs.specs.ReportTexts.{placed_text}
use Rattle.report_tally.specs.CountedTexts.{counted_text}
use Rattle.report_fits.specs.declared.reasons.FitReason.{FitReason}
use Rattle.report_fits.specs.FitReasonTexts.{fit_reasons_text}
use Rattle.report_fits.specs.FitTexts.{certified, fits_text}
use Rattle.front_command.specs.CommandLine.{explain, report}
use Rattle.expresso_answers.specs.declared.status.Status.{Status}
use Rattle.expresso_answers.specs.declared.status.Status.TheVariants as statuses
use Rattle.expresso_answers.specs.Answers.{HoldsMonitor}
use Rattle.expresso_answers.specs.Placements.{IsCounting, IsPlacement}
use Rattle.expresso_answers.specs.Texts.{count_explained_text, explained_text}
use Rattle.expresso_answers.specs.Ending.{CommandEnds, IsWritten}
use Rattle.expresso_reports.specs.inner.Explaining.{IsCountExplained, IsExplained}
use Rattle.expresso_reports.specs.inner.Fitting.{AreFewReasons, AreTypedAnswers}
use Rattle.expresso_answers.proofs.Ending.{work_ended}
use Rattle.expresso_reports.proofs.Judged.{CountedTexts, PlacedTexts, is_counting_of}
use Rattle.expresso_answers.proofs.OneFile.{no_rejection}

pub report_fits_done : PlacedTexts → (file : List ℕ) (tree : MonitorTree) (monitor : MonitorParts) (placed : PlacedPlan) (answers : List (Option Cert)) (files files_now : FilesSeen) (result : Status) (out out_now : SinkSeen)
    → HoldsMonitor files.held file tree monitor → IsPlacement monitor placed.plan → AreProofs monitor placed.plan.kept (backed_claims monitor placed.plan) placed.proofs
    → All (λ proof. HasTypedNumbers proof.cert) placed.proofs → AreTypedAnswers monitor placed.plan.kept answers → files_now.faults ≡ files.faults
    → IsWritten statuses.Done (placed_text monitor placed ++ fits_text monitor (certified answers)) result out out_now → CommandEnds (report file false true) files files_now result out out_now
report_fits_done texts file tree monitor placed answers files files_now result out out_now holds placement proofs typed fits steady written =
    work_ended (report file false true) files files_now (placed_text monitor placed ++ fits_text monitor (certified answers)) result out out_now true (
      placed_text monitor placed,
      record { tree = tree; monitor = monitor; placed = placed; holds = holds; placement = placement; proofs = proofs; typed = typed; printed = texts monitor placed proofs.claims },
      record { answers = answers; are = fits.are; typed = fits.typed; printed = refl },
    )
    (no_rejection files.held file tree monitor holds) steady written

pub counted_fits_done : CountedTexts → (file : List ℕ) (tree : MonitorTree) (monitor : MonitorParts) (placed : PlacedPlan) (counted : CountedPlan) (answers : List (Option Cert)) (files files_now : FilesSeen) (result : Status) (out out_now : SinkSeen)
    → HoldsMonitor files.held file tree monitor → IsCounting monitor placed counted → AreTypedAnswers monitor counted.plan.kept answers → files_now.faults ≡ files.faults
    → IsWritten statuses.Done (counted_text monitor placed counted ++ fits_text monitor (certified answers)) result out out_now → CommandEnds (report file true true) files files_now result out out_now
counted_fits_done texts file tree monitor placed counted answers files files_now result out out_now holds counting fits steady written =
    work_ended (report file true true) files files_now (counted_text monitor placed counted ++ fits_text monitor (certified answers)) result out out_now true (
      counted_text monitor placed counted,
      record { tree = tree; monitor = monitor; placed = placed; counted = counted; holds = holds; counting = counting; printed = texts monitor placed counted (is_counting_of monitor placed counted counting) },
      record { answers = answers; are = fits.are; typed = fits.typed; printed = refl },
    )
    (no_rejection files.held file tree monitor holds) steady written

pub explain_fits_done : (file : List ℕ) (tree : MonitorTree) (monitor : MonitorParts) (plan : Plan) (reasons : List Reason) (found : List FitReason) (files files_now : FilesSeen) (result : Status) (out out_now : SinkSeen)
    → HoldsMonitor files.held file tree monitor → IsExplained monitor plan reasons → AreFewReasons monitor plan.kept found → files_now.faults ≡ files.faults
    → IsWritten statuses.Done (explained_text tree monitor plan reasons ++ fit_reasons_text tree monitor found) result out out_now → CommandEnds (explain file false true) files files_now result out out_now
explain_fits_done file tree monitor plan reasons found files files_now result out out_now holds explained fits steady written =
    work_ended (explain file false true) files files_now (explained_text tree monitor plan reasons ++ fit_reasons_text tree monitor found) result out out_now true (
      explained_text tree monitor plan reasons,
      record { tree = tree; monitor = monitor; plan = plan; reasons = reasons; holds = holds; placement = explained.placement; things = explained.things; each = explained.each; printed = refl },
      record { found = found; are = fits.are; printed = refl },
    )
    (no_rejection files.held file tree monitor holds) steady written

pub count_explain_fits_done : (file : List ℕ) (tree : MonitorTree) (monitor : MonitorParts) (plan : Plan) (reasons : List Reason) (broadcasts : List BroadcastReason) (found : List FitReason) (files files_now : FilesSeen) (result : Status) (out out_now : SinkSeen)
    → HoldsMonitor files.held file tree monitor → IsCountExplained monitor plan reasons broadcasts → AreFewReasons monitor plan.kept found → files_now.faults ≡ files.faults
    → IsWritten statuses.Done (count_explained_text tree monitor plan reasons broadcasts ++ fit_reasons_text tree monitor found) result out out_now → CommandEnds (explain file true true) files files_now result out out_now
count_explain_fits_done file tree monitor plan reasons broadcasts found files files_now result out out_now holds explained fits steady written =
    work_ended (explain file true true) files files_now (count_explained_text tree monitor plan reasons broadcasts ++ fit_reasons_text tree monitor found) result out out_now true (
      count_explained_text tree monitor plan reasons broadcasts,
      record {
        tree = tree;
        monitor = monitor;
        plan = plan;
        reasons = reasons;
        broadcasts = broadcasts;
        holds = holds;
        chosen = explained.chosen;
        things = explained.things;
        each = explained.each;
        listed = explained.listed;
        each_listed = explained.each_listed;
        printed = refl;
      },
      record { found = found; are = fits.are; printed = refl },
    )
    (no_rejection files.held file tree monitor holds) steady written

-- with `--count` or without
pub explain_ended : (file : List ℕ) (count used fits : Bool) (files files_now : FilesSeen) (result : Status) (out out_now : SinkSeen) → count ≡ used
    → CommandEnds (explain file used fits) files files_now result out out_now → CommandEnds (explain file count fits) files files_now result out out_now
explain_ended file count used fits files files_now result out out_now is ends = subst (λ (one : Bool). CommandEnds (explain file one fits) files files_now result out out_now) (sym is) ends
