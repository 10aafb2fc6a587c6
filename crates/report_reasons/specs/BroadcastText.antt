-- The lines of broadcasts of blocks on counted conditions.
use Rattle.std.specs.Prelude.{ℕ, List, ◌++◌, codes, Option, Some, None}
use Rattle.std.specs.List.{flat_map}
use Rattle.lang_tree.specs.declared.tree.MonitorTree.{MonitorTree}
use Rattle.lang_monitor.specs.MonitorParts.{MonitorParts}
use Rattle.logic_solve.specs.Solutions.{valuation_of}
use Rattle.plan_why.specs.declared.failing.Failure.{Failure}
use Rattle.plan_needs.specs.declared.broadcasts.BlockBroadcast.{BlockBroadcast}
use Rattle.plan_needs.specs.declared.broadcasts.BroadcastReason.{BroadcastReason}
use Rattle.report_reasons.specs.ReasonText.{change_text, noted_text, pair_text}

-- a broadcast that is needed, and the fields before and after the body of its block
abbrev pub needed_text : MonitorTree → MonitorParts → BlockBroadcast → Failure → List ℕ
needed_text tree monitor broadcast failure =
    noted_text tree monitor (valuation_of failure.before) broadcast.block broadcast.condition
    ++ codes " broadcast:" ++ change_text monitor failure.before failure.after

-- a broadcast that is shown to be needed, by a state in which one signal is not enough, or for
-- which none was found
abbrev pub enough_text : MonitorTree → MonitorParts → BlockBroadcast → Option Failure → List ℕ
enough_text tree monitor broadcast (Some failure) = needed_text tree monitor broadcast failure
enough_text tree monitor broadcast None =
    pair_text monitor broadcast.block broadcast.condition ++ codes " broadcast: not decided"

-- `why releaseTwo 1 broadcast: free=1 to free=3` or `why releaseTwo 1 broadcast: not decided`, and
-- a line feed
abbrev pub broadcast_reason_text : MonitorTree → MonitorParts → BroadcastReason → List ℕ
broadcast_reason_text tree monitor reason =
    codes "why " ++ enough_text tree monitor reason.broadcast reason.failure ++ codes "\n"

-- a line for each reason
abbrev pub broadcast_reasons_text : MonitorTree → MonitorParts → List BroadcastReason → List ℕ
broadcast_reasons_text tree monitor reasons = flat_map (broadcast_reason_text tree monitor) reasons
