-- What the program itself prints. Plans are texts of `machine_events`; runs, logs, summaries and
-- faults of `report_text`; canonical forms of `lang_printer`; reports and verdicts of
-- `report_proofs`; findings of `report_audit`; reasons of `report_reasons`; modules of
-- `emit_module`.
use Rattle.std.specs.Prelude.{ℕ, List, ◌++◌, codes}
use Rattle.lang_tree.specs.declared.tree.MonitorTree.{MonitorTree}
use Rattle.lang_monitor.specs.MonitorParts.{MonitorParts}
use Rattle.machine_events.specs.declared.plan.Plan.{Plan}
use Rattle.machine_events.specs.PlanText.{plan_text}
use Rattle.plan_why.specs.declared.reason.Reason.{Reason}
use Rattle.plan_needs.specs.declared.broadcasts.BroadcastReason.{BroadcastReason}
use Rattle.emit_module.specs.Fixed.{VERSION}
use Rattle.report_reasons.specs.BroadcastText.{broadcast_reasons_text}
use Rattle.report_reasons.specs.ReasonText.{reasons_text}

abbrev pub usage_text : List ℕ
usage_text =
    codes "usage:\n"
    ++ codes "expresso check FILE\n"
    ++ codes "expresso turns FILE CLIENTS\n"
    ++ codes "expresso compile FILE [--count] [--relay]\n"
    ++ codes "expresso simulate FILE CLIENTS [--seed N] [--spurious K] [--count] [--relay]\n"
    ++ codes "expresso run FILE CLIENTS [--workers N] [--count] [--relay]\n"
    ++ codes "expresso stress N [--workers N]\n"
    ++ codes "expresso report FILE [--count] [--fits]\n"
    ++ codes "expresso recheck FILE REPORT\n"
    ++ codes "expresso block FILE CLIENTS [--count]\n"
    ++ codes "expresso audit FILE PLAN [--count]\n"
    ++ codes "expresso explain FILE [--count] [--fits]\n"
    ++ codes "expresso emit FILE\n"
    ++ codes "expresso --version\n"

-- the program's name and version, in one line
abbrev pub version_text : List ℕ
version_text = codes "expresso " ++ VERSION ++ codes "\n"

-- a plan, and why each thing stands in it that costs something
abbrev pub explained_text : MonitorTree → MonitorParts → Plan → List Reason → List ℕ
explained_text tree monitor plan reasons =
    plan_text monitor plan ++ reasons_text tree monitor reasons

-- a counted plan, why each thing stands in it that costs something, and why the broadcasts of
-- blocks on conditions that are counted do
abbrev pub count_explained_text : MonitorTree → MonitorParts → Plan → List Reason
    → List BroadcastReason → List ℕ
count_explained_text tree monitor plan reasons broadcasts =
    explained_text tree monitor plan reasons ++ broadcast_reasons_text tree monitor broadcasts
