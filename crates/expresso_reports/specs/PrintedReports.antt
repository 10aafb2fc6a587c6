-- Files that hold what `report` printed.
use Rattle.std.specs.Prelude.{◌≡◌, ◌≤◌, ℕ, ◌+◌, List, Option, Some, length}
use Rattle.plan_prune.specs.Hardness.{HasNoHardClaim}
use Rattle.plan_claims.specs.declared.placed.PlacedPlan.{PlacedPlan}
use Rattle.plan_counted.specs.declared.counted.CountedPlan.{CountedPlan}
use Rattle.report_tally.specs.CountedTexts.{counted_report_of}
use Rattle.report_tally.specs.EasyCountings.{OwesNothingOpen}
use Rattle.expresso_answers.specs.Answers.{HasFits, IsCountedReportText, IsReportText}
use Rattle.expresso_answers.specs.ReportFiles.{OTHER_BYTES}

-- The text is what `report` printed of a file, no claim of whose monitor is hard. Later that file
-- tells the same bytes, and a second one tells this text, which is no longer than a report may be.
pub record IsPrintedReport (held later : List ℕ
    → Option (List ℕ)) (file report_file text : List ℕ) : Type 0 where
  pub printed : IsReportText held file text
  pub easy : HasNoHardClaim printed.monitor
  pub short : length text ≤ OTHER_BYTES
  pub same : later file ≡ Some printed.holds.bytes
  pub there : later report_file ≡ Some text

-- how many certificates the report of a counted plan has
abbrev pub counted_many : PlacedPlan → CountedPlan → ℕ
counted_many placed counted =
    length (counted_report_of placed counted).proofs
    + length (counted_report_of placed counted).answers

-- The text is what `report --count` printed of a file, and nothing may stay open that its counted
-- plan rests on; the files as before.
pub record IsPrintedCountedReport (held later : List ℕ
    → Option (List ℕ)) (file report_file text : List ℕ) : Type 0 where
  pub printed : IsCountedReportText held file text
  pub owes : OwesNothingOpen printed.monitor printed.placed.plan.kept printed.counted
  pub short : length text ≤ OTHER_BYTES
  pub same : later file ≡ Some printed.holds.bytes
  pub there : later report_file ≡ Some text

-- The text is what `report --fits` printed of a file, no claim of whose monitor is hard, without
-- `--count`.
pub record IsPrintedFitsReport (held later : List ℕ
    → Option (List ℕ)) (file report_file text : List ℕ) : Type 0 where
  pub front : List ℕ
  pub printed : IsReportText held file front
  pub fits : HasFits printed.monitor printed.placed.plan.kept front text
  pub easy : HasNoHardClaim printed.monitor
  pub short : length text ≤ OTHER_BYTES
  pub same : later file ≡ Some printed.holds.bytes
  pub there : later report_file ≡ Some text

-- The text is what `report --count --fits` printed of one where nothing may stay open that its
-- counted plan rests on.
pub record IsPrintedCountedFitsReport (held later : List ℕ
    → Option (List ℕ)) (file report_file text : List ℕ) : Type 0 where
  pub front : List ℕ
  pub printed : IsCountedReportText held file front
  pub fits : HasFits printed.monitor printed.counted.plan.kept front text
  pub owes : OwesNothingOpen printed.monitor printed.placed.plan.kept printed.counted
  pub short : length text ≤ OTHER_BYTES
  pub same : later file ≡ Some printed.holds.bytes
  pub there : later report_file ≡ Some text
