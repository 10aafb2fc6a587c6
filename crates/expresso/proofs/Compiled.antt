-- How `check` and `compile` end.
use Rattle.std.proofs.Common.{◌≡◌, ℕ, true, List, refl}
use Rattle.base_io.specs.Outside.{FilesSeen, SinkSeen}
use Rattle.lang_tree.specs.declared.tree.MonitorTree.{MonitorTree}
use Rattle.lang_printer.specs.Canonical.{tree_text}
use Rattle.lang_monitor.specs.MonitorParts.{MonitorParts}
use Rattle.machine_events.specs.declared.plan.Plan.{Plan}
use Rattle.machine_events.specs.PlanText.{plan_text}
use Rattle.expresso_answers.specs.declared.status.Status.{Status}
use Rattle.expresso_answers.specs.declared.status.Status.TheVariants as statuses
use Rattle.front_command.specs.declared.plan_choice.PlanChoice.{PlanChoice}
use Rattle.front_command.specs.CommandLine.{check, compile}
use Rattle.expresso_answers.specs.Placements.{IsChosen}
use Rattle.expresso_answers.specs.Answers.{HoldsMonitor}
use Rattle.expresso_answers.specs.Ending.{CommandEnds, IsWritten}
use Rattle.expresso_answers.proofs.Ending.{work_ended}
use Rattle.expresso_answers.proofs.OneFile.{no_rejection}

pub check_done : (file : List ℕ) (tree : MonitorTree) (monitor : MonitorParts) (files files_now : FilesSeen) (result : Status) (out out_now : SinkSeen)
    → HoldsMonitor files.held file tree monitor → files_now.faults ≡ files.faults → IsWritten statuses.Done (tree_text tree) result out out_now → CommandEnds (check file) files files_now result out out_now
check_done file tree monitor files files_now result out out_now holds steady written =
    work_ended (check file) files files_now (tree_text tree) result out out_now true
    (record { tree = tree; monitor = monitor; holds = holds; printed = refl })
    (no_rejection files.held file tree monitor holds) steady written

pub compile_done : (file : List ℕ) (choice : PlanChoice) (tree : MonitorTree) (monitor : MonitorParts) (plan : Plan) (files files_now : FilesSeen) (result : Status) (out out_now : SinkSeen)
    → HoldsMonitor files.held file tree monitor → IsChosen choice monitor plan → files_now.faults ≡ files.faults → IsWritten statuses.Done (plan_text monitor plan) result out out_now
    → CommandEnds (compile file choice) files files_now result out out_now
compile_done file choice tree monitor plan files files_now result out out_now holds chosen steady written =
    work_ended (compile file choice) files files_now (plan_text monitor plan) result out out_now true
    (record { tree = tree; monitor = monitor; plan = plan; holds = holds; chosen = chosen; printed = refl })
    (no_rejection files.held file tree monitor holds) steady written
