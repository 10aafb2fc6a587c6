-- The text of a report, as it is written of a plan that was placed and then counted.
use Rattle.std.specs.Prelude.{◌≡◌, ◌<◌, ◌^◌, ℕ, Bool, true, false, not, List, [], ◌∷◌, ◌++◌, map}
use Rattle.std.specs.Prelude.{Option, Some, None, slice_get, All, if◌then◌else◌}
use Rattle.std.specs.List.{filter, flat_map, enumerate_from}
use Rattle.std.specs.Option.{option_map_or}
use Rattle.logic_cert.specs.declared.cert.Cert.{Cert}
use Rattle.logic_outline.specs.Outlines.{HasTypedNumbers}
use Rattle.lang_monitor.specs.declared.claim.Claim.{Claim}
use Rattle.lang_monitor.specs.declared.claim.Claim.TheVariants as claims
use Rattle.lang_monitor.specs.MonitorParts.{MonitorParts, IsMonitor}
use Rattle.machine_events.specs.Plans.{FitsPlan}
use Rattle.machine_events.specs.PlanText.{plan_text}
use Rattle.plan_claims.specs.declared.placed.PlacedPlan.{PlacedPlan}
use Rattle.plan_claims.specs.declared.placed.Proof.{Proof}
use Rattle.plan_claims.specs.Backing.{backed_claims}
use Rattle.plan_count.specs.declared.question.Question.TheVariants as questions
use Rattle.plan_counted.specs.declared.counted.Column.{Column}
use Rattle.plan_counted.specs.declared.counted.CountedPlan.{CountedPlan}
use Rattle.plan_counted.specs.declared.counted.Told.{Told}
use Rattle.plan_counted.specs.declared.counted.Told.TheVariants as telling
use Rattle.plan_counted.specs.Counted.{AreBacked, IsCountedFrom, column_at, counted_of}
use Rattle.plan_counted.specs.CountedAndRelayed.{CountsBroadcasts}
use Rattle.report_proofs.specs.ReportTexts.{proof_text}
use Rattle.report_tally.specs.declared.report.CountedReport.{CountedReport}
use Rattle.report_tally.specs.CountedReports.{answer_text}

-- ---- proofs of the placed plan

-- the condition is counted
abbrev pub has_column : Option Column → Bool
has_column None = false
has_column (Some column) = true

abbrev pub is_note : Told → Bool
is_note (telling.Nothing counts) = false
is_note (telling.Signal gives first) = true
is_note telling.Broadcast = true

-- the condition is counted, and the block has a note on it
abbrev pub is_noted : Option Column → ℕ → Bool
is_noted None block = false
is_noted (Some column) block = option_map_or is_note (slice_get column.told block) false

-- the counted plan rests on the claim, where the placed one does
abbrev pub is_still_owed : List (Option Column) → Claim → Bool
is_still_owed columns (claims.NoNote block condition) =
    not (is_noted (column_at columns condition) block)
is_still_owed columns (claims.One condition block) = not (has_column (column_at columns condition))
is_still_owed columns claim = true

abbrev pub still_owed_proofs : List (Option Column) → List Proof → List Proof
still_owed_proofs columns proofs = filter (λ proof. is_still_owed columns proof.claim) proofs

-- ---- the text

-- the line of a proof, where the counted plan rests on its claim
abbrev pub still_owed_text : MonitorParts → List (Option Column) → Proof → List ℕ
still_owed_text monitor columns proof =
    if is_still_owed columns proof.claim then proof_text monitor proof.claim proof.cert else []

-- a line for each certificate of what a block has on a counted condition
abbrev pub told_text : MonitorParts → ℕ → ℕ → ℕ → Told → List ℕ
told_text monitor condition row block (telling.Nothing counts) =
    answer_text monitor (questions.Counts condition row block) counts
told_text monitor condition row block (telling.Signal gives first) =
    answer_text monitor (questions.Gives condition row block) gives
    ++ answer_text monitor (questions.First condition row block) first
told_text monitor condition row block telling.Broadcast = []

-- those of each block
abbrev pub column_text : MonitorParts → ℕ → Option Column → List ℕ
column_text monitor condition None = []
column_text monitor condition (Some column) =
    flat_map (λ one. told_text monitor condition column.row one.0 one.1)
    (enumerate_from 0 column.told)

-- those of each condition
abbrev pub columns_text : MonitorParts → List (Option Column) → List ℕ
columns_text monitor columns =
    flat_map (λ one. column_text monitor one.0 one.1) (enumerate_from 1 columns)

-- the text of the counted plan, then a line for each proof on whose claim it rests, and for each
-- certificate of what blocks have on counted conditions
abbrev pub counted_text : MonitorParts → PlacedPlan → CountedPlan → List ℕ
counted_text monitor placed counted =
    plan_text monitor counted.plan
    ++ flat_map (still_owed_text monitor counted.columns) placed.proofs
    ++ columns_text monitor counted.columns

-- ---- the report

abbrev pub told_certs : Told → List Cert
told_certs (telling.Nothing counts) = counts ∷ []
told_certs (telling.Signal gives first) = gives ∷ first ∷ []
told_certs telling.Broadcast = []

abbrev pub column_certs : Option Column → List Cert
column_certs None = []
column_certs (Some column) = flat_map told_certs column.told

-- the row by which a condition is counted, if it is
abbrev pub column_row : Option Column → Option ℕ
column_row None = None
column_row (Some column) = Some column.row

-- the report of a plan that was placed and then counted
abbrev pub counted_report_of : PlacedPlan → CountedPlan → CountedReport
counted_report_of placed counted = record {
  plan = counted.plan;
  counted = map column_row counted.columns;
  proofs = map (λ proof. proof.cert) (still_owed_proofs counted.columns placed.proofs);
  answers = flat_map column_certs counted.columns;
}

-- ---- what is asked of both plans

-- rows, and the numbers of certificates, are of their types
abbrev pub IsTypedTold : Told → Type 0
IsTypedTold told = All HasTypedNumbers (told_certs told)

pub record IsTypedColumn (column : Column) : Type 0 where
  pub row : column.row < 2 ^ 32
  pub told : All IsTypedTold column.told

-- the column of a condition that is counted, if it is, is so
abbrev pub HasTypedColumn : Option Column → Type 0
HasTypedColumn None = Unit {0}
HasTypedColumn (Some column) = IsTypedColumn column

-- the plan is the placed one, counted, with certificates of what blocks have on counted conditions
pub record IsCountingOf (monitor : MonitorParts) (placed : PlacedPlan) (counted : CountedPlan) :
    Type 0 where
  pub is : IsMonitor monitor
  pub fits : FitsPlan monitor placed.plan
  pub proofs : map (λ proof. proof.claim) placed.proofs ≡ backed_claims monitor placed.plan
  pub counted_fits : FitsPlan monitor counted.plan
  pub from : IsCountedFrom monitor placed.plan counted.plan
  pub plan : counted.plan ≡ counted_of placed.plan counted.columns
  pub backed : AreBacked monitor placed.plan counted.columns
  pub broadcasts : CountsBroadcasts monitor placed.plan counted.columns
