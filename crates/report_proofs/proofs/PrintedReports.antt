-- The printed report of a placed plan is read again, and accepted, where no claim of the monitor is
-- hard.
use Rattle.std.proofs.Common.{◌≡◌, length, Option, Some, None, sym, ap, subst}
use Rattle.std.specs.Prelude.{All}
use Rattle.std.proofs.lemmas.List.Elements.{All-map}
use Rattle.lang_monitor.specs.MonitorParts.{MonitorParts}
use Rattle.plan_claims.specs.declared.placed.PlacedPlan.{PlacedPlan}
use Rattle.plan_claims.specs.declared.placed.Proof.{Proof}
use Rattle.report_verdict.specs.declared.report.Report.{Report}
use Rattle.report_verdict.specs.declared.report.Verdict.{Verdict}
use Rattle.report_verdict.specs.declared.report.Verdict.TheVariants as verdicts
use Rattle.report_proofs.specs.EasyPlacements.{IsEasyPlacement}
use Rattle.report_proofs.specs.Readings.{IsReadable, IsReportRead}
use Rattle.report_proofs.specs.ReportTexts.{placed_text}
use Rattle.report_verdict.specs.Reports.{report_of}
use Rattle.report_verdict.specs.Verdicts.{IsVerdict}
use Rattle.report_proofs.proofs.PlacedTexts.{placed_lines, placed_report}
use Rattle.report_proofs.proofs.SmallReports.{FewerWithin, small_accepted}

-- each certificate of an easy placement is one that is read
readable : (monitor : MonitorParts) (placed : PlacedPlan) → IsEasyPlacement monitor placed → All IsReadable (report_of placed).proofs
readable monitor placed is = All-map IsReadable (λ (proof : Proof). proof.cert) placed.proofs is.typed

pub read_again : (monitor : MonitorParts) (placed : PlacedPlan) (read : Option Report) → IsEasyPlacement monitor placed
    → IsReportRead monitor (placed_text monitor placed) read → read ≡ Some (report_of placed)
read_again monitor placed None is told =
    absurd (told (report_of placed) (placed_report monitor placed is.fits is.proofs.claims) (readable monitor placed is) (sym (placed_lines monitor placed is.proofs.claims)))
read_again monitor placed (Some report) is told =
    ap {B = Option Report} Some (sym (told.only (report_of placed) (placed_report monitor placed is.fits is.proofs.claims) (readable monitor placed is) (sym (placed_lines monitor placed is.proofs.claims))))

pub accepted_again : FewerWithin → (monitor : MonitorParts) (placed : PlacedPlan) (report : Report) (verdict : Verdict) → IsEasyPlacement monitor placed
    → IsReportRead monitor (placed_text monitor placed) (Some report) → IsVerdict monitor report verdict
    → verdict ≡ verdicts.Accepted (length placed.proofs)
accepted_again fewer monitor placed report verdict is told judged =
    let same : report_of placed ≡ report = told.only (report_of placed) (placed_report monitor placed is.fits is.proofs.claims) (readable monitor placed is) (sym (placed_lines monitor placed is.proofs.claims)) in
    small_accepted fewer monitor placed verdict is.is is.fits is.lawful is.proofs is.easy (subst (λ (one : Report). IsVerdict monitor one verdict) (sym same) judged)
