-- The lines of proofs.
use Rattle.std.proofs.Common.{◌≡◌, ℕ, ◌-◌, List, [], ◌∷◌, ◌++◌, map, length, refl, ap, sym, ◌∙◌, arith}
use Rattle.std.specs.List.{flat_map}
use Rattle.std.proofs.lemmas.List.{length-map}
use Rattle.lang_monitor.specs.declared.claim.Claim.{Claim}
use Rattle.lang_monitor.specs.MonitorParts.{MonitorParts}
use Rattle.machine_events.specs.declared.plan.Note.{Note}
use Rattle.machine_events.specs.declared.plan.Plan.{Plan}
use Rattle.machine_events.specs.Plans.{FitsNote, FitsNotes, FitsPlan}
use Rattle.machine_events.specs.PlanText.{plan_text}
use Rattle.plan_claims.specs.declared.placed.PlacedPlan.{PlacedPlan}
use Rattle.plan_claims.specs.declared.placed.Proof.{Proof}
use Rattle.plan_claims.specs.Backing.{backed_claims}
use Rattle.report_proofs.specs.ReportTexts.{placed_text, proof_text, proofs_text, report_text}
use Rattle.report_verdict.specs.Reports.{AreNotesOf, IsOnCondition, IsPlanOf, IsReport, report_of}
use Rattle.report_verdict.proofs.Askable.{within_some}
use Rattle.report_verdict.proofs.Pairs.{all_at, from_places}

lines : (monitor : MonitorParts) (proofs : List Proof)
    → flat_map (λ proof. proof_text monitor proof.claim proof.cert) proofs
    ≡ proofs_text monitor (map (λ proof. proof.claim) proofs) (map (λ proof. proof.cert) proofs)
lines monitor [] = refl
lines monitor (proof ∷ proofs) = ap (λ text. proof_text monitor proof.claim proof.cert ++ text) (lines monitor proofs)

pub placed_lines : (monitor : MonitorParts) (placed : PlacedPlan)
    → map (λ proof. proof.claim) placed.proofs ≡ backed_claims monitor placed.plan
    → placed_text monitor placed ≡ report_text monitor (report_of placed)
placed_lines monitor placed are =
    ap (λ text. plan_text monitor placed.plan ++ text) (lines monitor placed.proofs)
    ∙ ap (λ (wanted : List Claim). plan_text monitor placed.plan ++ proofs_text monitor wanted (map (λ proof. proof.cert) placed.proofs)) are

notes_on : (monitor : MonitorParts) (note : Note) → FitsNote monitor note
    → IsOnCondition monitor note
notes_on monitor note fits =
    let place = within_some monitor.conditions (note.condition - 1) _ fits.1 in
    (fits.0, omega (arith, place, fits.0))

-- a plan that fits a monitor is one of it
pub plan_of : (monitor : MonitorParts) (plan : Plan) → FitsPlan monitor plan → IsPlanOf monitor plan
plan_of monitor plan fits = record {
  kept = fits.kept;
  kinds = fits.kinds;
  notes = fits.notes;
  each = from_places (AreNotesOf monitor) plan.notes (λ k notes is.
      let own = all_at (FitsNotes monitor) plan.notes k notes is fits.each in
      record {
        rising = own.rising;
        each = from_places (IsOnCondition monitor) notes (λ i note here. notes_on monitor note (all_at (FitsNote monitor) notes i note here own.each));
      });
}

pub placed_report : (monitor : MonitorParts) (placed : PlacedPlan) → FitsPlan monitor placed.plan
    → map (λ proof. proof.claim) placed.proofs ≡ backed_claims monitor placed.plan
    → IsReport monitor (report_of placed)
placed_report monitor placed fits are = record {
  plan = plan_of monitor placed.plan fits;
  each = length-map placed.proofs (λ (proof : Proof). proof.cert) ∙ sym (length-map placed.proofs (λ (proof : Proof). proof.claim)) ∙ ap {B = ℕ} length are;
}
