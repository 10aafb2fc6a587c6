-- What a check of a report says.
use Rattle.std.specs.Prelude.{◌≡◌, ◌⊎◌, ℕ, ◌+◌, true, false, List, length, take, All, slice_get}
use Rattle.std.specs.Prelude.{IsSomeAnd, Option, Some, None}
use Rattle.logic_cert.specs.declared.cert.Cert.{Cert}
use Rattle.lang_monitor.specs.declared.candidate.Candidate.{Candidate}
use Rattle.lang_monitor.specs.declared.claim.Claim.{Claim}
use Rattle.lang_monitor.specs.declared.monitor.Condition.{Condition}
use Rattle.lang_monitor.specs.Inputs.{reads_inputs}
use Rattle.lang_monitor.specs.MonitorParts.{MonitorParts}
use Rattle.lang_monitor.specs.Queries.{query_of}
use Rattle.lang_monitor.specs.Triples.{HoldAtStart}
use Rattle.machine_events.specs.declared.plan.CondKind.TheVariants as kinds
use Rattle.machine_events.specs.declared.plan.Plan.{Plan}
use Rattle.machine_events.specs.Plans.{EachNoteOn, IsCondition, IsLawful, WakesAll, condition_kind}
use Rattle.logic_wp.specs.Limits.{is_query_within}
use Rattle.plan_claims.specs.Backing.{Certifies}
use Rattle.report_verdict.specs.declared.report.Report.{Report}
use Rattle.report_verdict.specs.declared.report.Verdict.{Verdict}
use Rattle.report_verdict.specs.declared.report.Verdict.TheVariants as verdicts
use Rattle.report_verdict.specs.Reports.{proofs_of}

-- ---- plans

-- what a lawful plan owes without a proof: what it keeps is true at the start, and its kinds and
-- notes suit the conditions
pub record IsLawfulAtSight (monitor : MonitorParts) (plan : Plan) : Type 0 where
  pub starts : HoldAtStart monitor plan.kept
  -- a condition whose guard reads inputs is of kind broadcast, and has only untested broadcasts
  pub reading : (number : ℕ) (condition : Condition) → IsCondition monitor number condition
      → reads_inputs condition.guard ≡ true → WakesAll plan number
  -- a condition of kind broadcast has only broadcasts
  pub broadcasts : (condition : ℕ) → condition_kind plan condition ≡ Some kinds.Broadcast
      → EachNoteOn plan condition (λ note. note.all ≡ true)

-- how many lines the text of a plan has: one for its name, and one for each of these
abbrev pub plan_lines : MonitorParts → Plan → ℕ
plan_lines monitor plan =
    1 + length plan.kept + length monitor.conditions + length monitor.blocks

-- ---- proofs

-- the certificate refutes the negated query of the claim
abbrev pub IsProof : MonitorParts → List Candidate → Claim × Cert → Type 0
IsProof monitor kept one = Certifies monitor kept one.0 one.1

-- the certificate doesn't refute it, or the query isn't negated within the limits
abbrev pub IsOpen : MonitorParts → List Candidate → Claim × Cert → Type 0
IsOpen monitor kept one =
    (IsProof monitor kept one → ⊥)
    ⊎ (is_query_within monitor (query_of monitor kept one.0) ≡ false)

-- each certificate is a proof of its claim, whose query is negated within the limits
abbrev pub AreChecked : MonitorParts → List Candidate → List (Claim × Cert) → Type 0
AreChecked monitor kept proofs =
    All (λ one. IsProof monitor kept one
    × (is_query_within monitor (query_of monitor kept one.0) ≡ true)) proofs

-- the first claim that is open is at this place; none is
abbrev pub IsFirstOpen : MonitorParts → List Candidate → List (Claim × Cert) → Option ℕ → Type 0
IsFirstOpen monitor kept proofs None = AreChecked monitor kept proofs
IsFirstOpen monitor kept proofs (Some place) =
    AreChecked monitor kept (take place proofs)
    × IsSomeAnd (slice_get proofs place) (IsOpen monitor kept)

-- ---- verdicts

pub record IsAccepted (monitor : MonitorParts) (report : Report) : Type 0 where
  pub lawful : IsLawful monitor report.plan
  pub proofs : AreChecked monitor report.plan.kept (proofs_of monitor report)

-- the line of the report's text whose claim is the first one open
pub record IsUnproved (monitor : MonitorParts) (report : Report) (line : ℕ) : Type 0 where
  pub sight : IsLawfulAtSight monitor report.plan
  pub place : ℕ
  pub line_is : line ≡ plan_lines monitor report.plan + (place + 1)
  pub before : AreChecked monitor report.plan.kept (take place (proofs_of monitor report))
  pub here : IsSomeAnd (slice_get (proofs_of monitor report) place)
      (IsOpen monitor report.plan.kept)

-- what a verdict says of a report
abbrev pub IsVerdict : MonitorParts → Report → Verdict → Type 0
IsVerdict monitor report (verdicts.Accepted claims) =
    IsAccepted monitor report × (claims ≡ length report.proofs)
IsVerdict monitor report verdicts.Unlawful = IsLawfulAtSight monitor report.plan → ⊥
IsVerdict monitor report (verdicts.Unproved line) = IsUnproved monitor report line
