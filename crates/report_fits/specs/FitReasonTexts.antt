-- The lines of blocks that may leave 64 bits.
use Rattle.std.specs.Prelude.{ℕ, List, [], ◌++◌, codes}
use Rattle.std.specs.List.{enumerate_from, flat_map}
use Rattle.lang_tree.specs.declared.tree.MonitorTree.{MonitorTree}
use Rattle.lang_monitor.specs.MonitorParts.{MonitorParts}
use Rattle.machine_events.specs.PlanText.{block_name}
use Rattle.logic_solve.specs.declared.valuation.Solution.{Solution}
use Rattle.logic_solve.specs.Solutions.{valuation_of}
use Rattle.report_reasons.specs.ReasonText.{fields_text, running_text}
use Rattle.report_fits.specs.declared.reasons.FitReason.{FitReason}
use Rattle.report_fits.specs.declared.reasons.FitReason.TheVariants as reasons

-- `why fits put(n=3): count=9223372036854775807` and a line feed
abbrev pub leaves_text : MonitorTree → MonitorParts → ℕ → Solution → List ℕ
leaves_text tree monitor block at =
    codes "why fits " ++ running_text tree monitor (valuation_of at) block ++ codes ":"
    ++ fields_text (valuation_of at) monitor.fields ++ codes "\n"

-- `why fits put: not decided` and a line feed
abbrev pub undecided_text : MonitorParts → ℕ → List ℕ
undecided_text monitor block =
    codes "why fits " ++ block_name monitor block ++ codes ": not decided\n"

-- nothing of a block that fits
abbrev pub fit_reason_text : MonitorTree → MonitorParts → ℕ → FitReason → List ℕ
fit_reason_text tree monitor block reasons.Fits = []
fit_reason_text tree monitor block (reasons.Leaves at) = leaves_text tree monitor block at
fit_reason_text tree monitor block reasons.Undecided = undecided_text monitor block

-- those of each block
abbrev pub fit_reasons_text : MonitorTree → MonitorParts → List FitReason → List ℕ
fit_reasons_text tree monitor found =
    flat_map (λ one. fit_reason_text tree monitor one.0 one.1) (enumerate_from 0 found)
