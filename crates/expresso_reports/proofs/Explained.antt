-- How `explain` ends.
use Rattle.std.proofs.Common.{◌≡◌, ℕ, true, false, List, Option, refl, sym, subst, All, map}
use Rattle.base_io.specs.Outside.{FilesSeen, SinkSeen}
use Rattle.lang_tree.specs.declared.tree.MonitorTree.{MonitorTree}
use Rattle.lang_monitor.specs.MonitorParts.{MonitorParts}
use Rattle.machine_events.specs.declared.plan.Plan.{Plan}
use Rattle.expresso_answers.specs.declared.status.Status.{Status}
use Rattle.expresso_answers.specs.declared.status.Status.TheVariants as statuses
use Rattle.front_command.specs.CommandLine.{explain}
use Rattle.plan_needs.specs.declared.broadcasts.BroadcastReason.{BroadcastReason}
use Rattle.plan_why.specs.declared.reason.Reason.{Reason}
use Rattle.expresso_answers.specs.Placements.{IsPlacement}
use Rattle.expresso_answers.specs.Texts.{count_explained_text, explained_text}
use Rattle.expresso_reports.specs.inner.Explaining.{IsCountExplained, IsExplained}
use Rattle.expresso_answers.specs.Answers.{HoldsMonitor}
use Rattle.expresso_answers.specs.Ending.{CommandEnds, IsWritten}
use Rattle.expresso_answers.proofs.Ending.{work_ended}
use Rattle.std.specs.List.{enumerate_from}
use Rattle.lang_monitor.specs.declared.candidate.Candidate.{Candidate}
use Rattle.machine_events.specs.Plans.{FitsPlan}
use Rattle.machine_events.specs.Counts.{IsLawfulByCounting}
use Rattle.plan_counted.specs.declared.counted.CountedPlan.{CountedPlan}
use Rattle.plan_counted.specs.declared.counted.Column.{Column}
use Rattle.plan_counted.specs.Counted.{AreBacked, IsColumnBacked, IsCountedFrom, counted_of}
use Rattle.plan_counted.specs.CountedAndRelayed.{OmitsNoMore}
use Rattle.plan_counted.specs.Exact.{HasNoOpenQuestion, IsExactlyCounted}
use Rattle.plan_needs.specs.CountedReasons.{IsBroadcastReason, IsCountedReason}
use Rattle.plan_needs.specs.Needs.{broadcasts_of}
use Rattle.plan_why.specs.Things.{things_of}
use Rattle.expresso_answers.proofs.OneFile.{no_rejection}
use Rattle.expresso_answers.proofs.Placed.{counted_choice}

-- a table that is backed for a plan is so for another that keeps the same
pub backed_for : (monitor : MonitorParts) (placed plan : Plan) (columns : List (Option Column)) → plan.kept ≡ placed.kept → AreBacked monitor placed columns → AreBacked monitor plan columns
backed_for monitor placed plan columns kept backed = record {
  many = backed.many;
  each = subst (λ (k : List Candidate). All (λ one. IsColumnBacked monitor k one.0 one.1) (enumerate_from 1 columns)) (sym kept) backed.each;
}

-- that plan counted, with the reasons that were found
pub count_explained : (monitor : MonitorParts) (placed : Plan) (counted : CountedPlan) (reasons : List Reason) (broadcasts : List BroadcastReason) → IsPlacement monitor placed → counted.plan ≡ counted_of placed counted.columns
    → IsCountedFrom monitor placed counted.plan → (HasNoOpenQuestion monitor placed.kept → IsExactlyCounted monitor placed counted.plan) → AreBacked monitor placed counted.columns
    → FitsPlan monitor counted.plan → IsLawfulByCounting monitor counted.plan → OmitsNoMore placed counted.plan
    → map (λ reason. reason.thing) reasons ≡ things_of monitor counted.plan → All (IsCountedReason monitor counted) reasons
    → map (λ reason. reason.broadcast) broadcasts ≡ broadcasts_of counted → All (IsBroadcastReason monitor counted) broadcasts → IsCountExplained monitor counted.plan reasons broadcasts
unfolding counted_choice
count_explained monitor placed counted reasons broadcasts placement made from exact backed fits lawful omits things each listed each_listed = record {
  chosen = counted_choice monitor placed counted.plan counted.columns placement made from exact backed fits lawful omits;
  things = things;
  each = each;
  listed = listed;
  each_listed = each_listed;
}

pub explain_done : (file : List ℕ) (tree : MonitorTree) (monitor : MonitorParts) (plan : Plan) (reasons : List Reason) (files files_now : FilesSeen) (result : Status) (out out_now : SinkSeen)
    → HoldsMonitor files.held file tree monitor → IsExplained monitor plan reasons → files_now.faults ≡ files.faults
    → IsWritten statuses.Done (explained_text tree monitor plan reasons) result out out_now → CommandEnds (explain file false false) files files_now result out out_now
explain_done file tree monitor plan reasons files files_now result out out_now holds explained steady written =
    work_ended (explain file false false) files files_now (explained_text tree monitor plan reasons) result out out_now true
    (record { tree = tree; monitor = monitor; plan = plan; reasons = reasons; holds = holds; placement = explained.placement; things = explained.things; each = explained.each; printed = refl })
    (no_rejection files.held file tree monitor holds) steady written

pub count_explain_done : (file : List ℕ) (tree : MonitorTree) (monitor : MonitorParts) (plan : Plan) (reasons : List Reason) (broadcasts : List BroadcastReason) (files files_now : FilesSeen) (result : Status) (out out_now : SinkSeen)
    → HoldsMonitor files.held file tree monitor → IsCountExplained monitor plan reasons broadcasts → files_now.faults ≡ files.faults
    → IsWritten statuses.Done (count_explained_text tree monitor plan reasons broadcasts) result out out_now → CommandEnds (explain file true false) files files_now result out out_now
count_explain_done file tree monitor plan reasons broadcasts files files_now result out out_now holds explained steady written =
    work_ended (explain file true false) files files_now (count_explained_text tree monitor plan reasons broadcasts) result out out_now true
    (record {
      tree = tree;
      monitor = monitor;
      plan = plan;
      reasons = reasons;
      broadcasts = broadcasts;
      holds = holds;
      chosen = explained.chosen;
      things = explained.things;
      each = explained.each;
      listed = explained.listed;
      each_listed = explained.each_listed;
      printed = refl;
    })
    (no_rejection files.held file tree monitor holds) steady written
