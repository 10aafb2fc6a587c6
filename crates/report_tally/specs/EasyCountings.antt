-- Counted plans whose printed report is accepted.
use Rattle.std.specs.Prelude.{All, List, map}
use Rattle.logic_outline.specs.Outlines.{HasTypedNumbers}
use Rattle.lang_monitor.specs.declared.candidate.Candidate.{Candidate}
use Rattle.lang_monitor.specs.declared.claim.Claim.{Claim}
use Rattle.lang_monitor.specs.MonitorParts.{MonitorParts}
use Rattle.lang_monitor.specs.Queries.{query_of}
use Rattle.machine_events.specs.Counts.{IsLawfulByCounting}
use Rattle.machine_events.specs.Plans.{IsLawful}
use Rattle.plan_prune.specs.Hardness.{MayStayOpen}
use Rattle.plan_claims.specs.declared.placed.PlacedPlan.{PlacedPlan}
use Rattle.plan_claims.specs.Backing.{AreProofs, backed_claims}
use Rattle.plan_count.specs.declared.question.Question.{Question}
use Rattle.plan_counted.specs.declared.counted.CountedPlan.{CountedPlan}
use Rattle.plan_counted.specs.Counted.{IsOpen}
use Rattle.report_tally.specs.CountedReports.{owed_claims, owed_questions}
use Rattle.report_tally.specs.CountedTexts.{HasTypedColumn, IsCountingOf, column_row}

-- the prover doesn't leave the claim open
abbrev pub IsNoOpenClaim : MonitorParts → List Candidate → Claim → Type 0
IsNoOpenClaim monitor kept claim = MayStayOpen monitor (query_of monitor kept claim) → ⊥

abbrev pub IsNoOpenQuestion : MonitorParts → List Candidate → Question → Type 0
IsNoOpenQuestion monitor kept question = IsOpen monitor kept question → ⊥

-- With these lines kept, no claim and no question may stay open that the counted plan rests on.
pub record OwesNothingOpen (monitor : MonitorParts) (kept : List Candidate)
    (counted : CountedPlan) : Type 0 where
  pub claims : All (IsNoOpenClaim monitor kept)
      (owed_claims monitor counted.plan (map column_row counted.columns))
  pub questions : All (IsNoOpenQuestion monitor kept)
      (owed_questions monitor counted.plan (map column_row counted.columns))

-- Nothing may stay open that the counted plan rests on. The lawful plan was placed with a proof of
-- each claim that it rests on, and counted it is lawful by counting.
pub record IsEasyCounting (monitor : MonitorParts) (placed : PlacedPlan) (counted : CountedPlan) :
    Type 0 where
  pub owes : OwesNothingOpen monitor placed.plan.kept counted
  pub lawful : IsLawful monitor placed.plan
  pub counting : IsCountingOf monitor placed counted
  pub counted_lawful : IsLawfulByCounting monitor counted.plan
  pub proofs : AreProofs monitor placed.plan.kept (backed_claims monitor placed.plan) placed.proofs
  pub typed : All (λ proof. HasTypedNumbers proof.cert) placed.proofs
  pub typed_columns : All HasTypedColumn counted.columns
