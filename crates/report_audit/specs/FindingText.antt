-- The line of a finding.
use Rattle.std.specs.Prelude.{ℕ, List, [], ◌++◌, slice_get, codes, decimal}
use Rattle.std.specs.Option.{option_map_or}
use Rattle.lang_monitor.specs.MonitorParts.{MonitorParts}
use Rattle.machine_events.specs.declared.plan.Plan.{Plan}
use Rattle.machine_events.specs.PlanText.{candidate_text}
use Rattle.report_questions.specs.QuestionText.{question_text}
use Rattle.report_proofs.specs.ReportTexts.{claim_text}
use Rattle.report_audit.specs.declared.finding.Finding.{Finding}
use Rattle.report_audit.specs.declared.finding.Finding.TheVariants as findings

-- a kept candidate, by its place; nothing where there is none
abbrev pub kept_name : MonitorParts → Plan → ℕ → List ℕ
kept_name monitor plan place =
    option_map_or (candidate_text monitor.fields) (slice_get plan.kept place) []

-- `lawful`, `unlawful: keep x <= 4 at the start`, `unlawful: condition 2` or
-- `unproved: none put 2` or `unproved: counts 2 put`, and a line feed
abbrev pub finding_text : MonitorParts → Plan → Finding → List ℕ
finding_text monitor plan findings.Lawful = codes "lawful\n"
finding_text monitor plan (findings.Start kept) =
    codes "unlawful: keep " ++ kept_name monitor plan kept ++ codes " at the start\n"
finding_text monitor plan (findings.Kind condition) =
    codes "unlawful: condition " ++ decimal condition ++ codes "\n"
finding_text monitor plan (findings.Unproved claim) =
    codes "unproved: " ++ claim_text monitor claim ++ codes "\n"
finding_text monitor plan (findings.Uncounted question) =
    codes "unproved: " ++ question_text monitor question ++ codes "\n"
