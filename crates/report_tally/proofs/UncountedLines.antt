-- A report is a counted one, none of whose conditions is counted.
use Rattle.std.proofs.Common.{◌≡◌, ℕ, zero, suc, ◌+◌, ◌-◌, Bool, true, false, not, cond, List, [], ◌∷◌, ◌++◌, length, take, Option, Some, None, inl, inr, refl, sym, ap, subst, ◌∙◌, append-nil, arith}
use Rattle.std.specs.Prelude.{All, IsSomeAnd, is_some, slice_get, unwrap_or}
use Rattle.std.specs.List.{enumerate_from, filter, flat_map, zip}
use Rattle.std.proofs.lemmas.List.{length-map}
use Rattle.std.proofs.lemmas.List.Elements.{All-nil, All-cons}
use Rattle.std.proofs.lemmas.Option.{none-some, same_Some}
use Rattle.logic_cert.specs.declared.cert.Cert.{Cert}
use Rattle.lang_monitor.specs.declared.claim.Claim.{Claim}
use Rattle.lang_monitor.specs.declared.claim.Claim.TheVariants as claims
use Rattle.lang_monitor.specs.MonitorParts.{MonitorParts}
use Rattle.machine_events.specs.declared.plan.CondKind.{CondKind}
use Rattle.machine_events.specs.declared.plan.Plan.{Plan}
use Rattle.machine_events.specs.PlanText.{plan_text}
use Rattle.machine_events.proofs.Counting.{lawful_by_counting}
use Rattle.plan_claims.specs.Backing.{backed_claims}
use Rattle.plan_count.specs.declared.question.Question.{Question}
use Rattle.report_verdict.specs.declared.report.Report.{Report}
use Rattle.report_verdict.specs.declared.report.Verdict.{Verdict}
use Rattle.report_verdict.specs.declared.report.Verdict.TheVariants as verdicts
use Rattle.report_proofs.specs.Readings.{IsReadable}
use Rattle.report_proofs.specs.ReportTexts.{proofs_text, report_text}
use Rattle.report_verdict.specs.Reports.{IsReport, proofs_of}
use Rattle.report_verdict.specs.Verdicts.{AreChecked, IsAccepted, IsOpen, IsUnproved as IsPlainlyUnproved, IsVerdict}
use Rattle.report_verdict.proofs.PlansFit.{plan_fits}
use Rattle.report_tally.specs.declared.report.CountedReport.{CountedReport}
use Rattle.report_tally.specs.CountedReadings.{IsCountedRead, IsReadableReport, IsTypedRow}
use Rattle.report_tally.specs.CountedReports.{IsCountedReport, answers_of, answers_text, condition_questions, counted_report_text, is_owed, owed_claims, owed_proofs, owed_questions}
use Rattle.report_tally.specs.CountedVerdicts.{IsAnswered, IsCountedAccepted, IsCountedVerdict, IsUnproved}
use Rattle.report_tally.specs.UncountedReports.{none_counted, uncounted}

-- ---- what is owed

unmarked : (all_kinds : List CondKind) (k : ℕ) → is_some (unwrap_or (slice_get (none_counted all_kinds) k) None) ≡ false
unmarked [] k = refl
unmarked (kind ∷ all_kinds) zero = refl
unmarked (kind ∷ all_kinds) (suc k) = unmarked all_kinds k

all_pass : {X : Type 0} (test : X → Bool) (xs : List X) → ((x : X) → test x ≡ true) → filter test xs ≡ xs
all_pass test [] each = refl
all_pass {X} test (x ∷ xs) each = ap (λ (passes : Bool). cond passes (x ∷ filter test xs) (filter test xs)) (each x) ∙ ap (λ (more : List X). x ∷ more) (all_pass test xs each)

all_owed : (all_kinds : List CondKind) (claim : Claim) → is_owed (none_counted all_kinds) claim ≡ true
all_owed all_kinds (claims.Keeps candidate block) = refl
all_owed all_kinds (claims.NoNote block condition) = refl
all_owed all_kinds (claims.NoTest block condition) = refl
all_owed all_kinds (claims.One condition block) = ap not (unmarked all_kinds (condition - 1))

pub same_owed : (monitor : MonitorParts) (plan : Plan) → owed_claims monitor plan (none_counted plan.kinds) ≡ backed_claims monitor plan
same_owed monitor plan = all_pass (is_owed (none_counted plan.kinds)) (backed_claims monitor plan) (all_owed plan.kinds)

none_asked : (monitor : MonitorParts) (plan : Plan) (first : ℕ) (all_kinds : List CondKind)
    → flat_map (λ one. condition_questions monitor plan one.0 one.1) (enumerate_from first (none_counted all_kinds)) ≡ []
none_asked monitor plan first [] = refl
none_asked monitor plan first (kind ∷ all_kinds) = none_asked monitor plan (first + 1) all_kinds

pub no_questions : (monitor : MonitorParts) (plan : Plan) → owed_questions monitor plan (none_counted plan.kinds) ≡ []
no_questions monitor plan = none_asked monitor plan 1 plan.kinds

-- ---- the text and the report

pub same_text : (monitor : MonitorParts) (report : Report) → counted_report_text monitor (uncounted report) ≡ report_text monitor report
same_text monitor report =
    ap (λ (lines : List ℕ). plan_text monitor report.plan ++ lines)
    (ap (λ (asked : List Question). owed ++ answers_text monitor asked []) (no_questions monitor report.plan)
    ∙ append-nil owed
    ∙ ap (λ (wanted : List Claim). proofs_text monitor wanted report.proofs) (same_owed monitor report.plan))
  where
    owed : List ℕ
    owed = proofs_text monitor (owed_claims monitor report.plan (none_counted report.plan.kinds)) report.proofs

no_rows : (all_kinds : List CondKind) (place row : ℕ) → slice_get (none_counted all_kinds) place ≡ Some (Some row) → ⊥
no_rows [] place row there = none-some (Some row) there
no_rows (kind ∷ all_kinds) zero row there = none-some row (same_Some None (Some row) there)
no_rows (kind ∷ all_kinds) (suc place) row there = no_rows all_kinds place row there

pub uncounted_report : (monitor : MonitorParts) (report : Report) → IsReport monitor report → IsCountedReport monitor (uncounted report)
uncounted_report monitor report is = record {
  plan = is.plan;
  counted = record {
    many = length-map report.plan.kinds nothing;
    each = λ place row there. absurd (no_rows report.plan.kinds place row there);
  };
  proofs = is.each ∙ ap {B = ℕ} length (sym (same_owed monitor report.plan));
  answers = ap {B = ℕ} length (sym (no_questions monitor report.plan));
}
  where
    nothing : CondKind → Option ℕ
    nothing kind = None

none_typed : (all_kinds : List CondKind) → All IsTypedRow (none_counted all_kinds)
none_typed [] = All-nil IsTypedRow
none_typed (kind ∷ all_kinds) = All-cons IsTypedRow None (none_counted all_kinds) tt (none_typed all_kinds)

readable_report : (monitor : MonitorParts) (report : Report) → IsReport monitor report → All IsReadable report.proofs → IsReadableReport monitor (uncounted report)
readable_report monitor report is readable = record {
  is = uncounted_report monitor report is;
  rows = none_typed report.plan.kinds;
  proofs = readable;
  answers = All-nil IsReadable;
}

pub read_as_counted : (monitor : MonitorParts) (bytes : List ℕ) (report : Report) (read : Option CountedReport) → IsReport monitor report → All IsReadable report.proofs
    → report_text monitor report ≡ bytes → IsCountedRead monitor bytes read → read ≡ Some (uncounted report)
read_as_counted monitor bytes report None is readable text told =
    absurd (told (uncounted report) (readable_report monitor report is readable) (same_text monitor report ∙ text))
read_as_counted monitor bytes report (Some found) is readable text told =
    ap {B = Option CountedReport} Some (sym (told.only (uncounted report) (readable_report monitor report is readable) (same_text monitor report ∙ text)))

-- ---- verdicts

same_proofs : (monitor : MonitorParts) (report : Report) → owed_proofs monitor (uncounted report) ≡ proofs_of monitor report
same_proofs monitor report = ap (λ (wanted : List Claim). zip wanted report.proofs) (same_owed monitor report.plan)

all_none : (all_kinds : List CondKind) → All (λ row. row ≡ None) (none_counted all_kinds)
all_none [] = All-nil (λ row. row ≡ None)
all_none (kind ∷ all_kinds) = All-cons (λ row. row ≡ None) None (none_counted all_kinds) refl (all_none all_kinds)

no_answers : (monitor : MonitorParts) (report : Report) → answers_of monitor (uncounted report) ≡ []
no_answers monitor report = ap (λ (asked : List Question). zip asked []) (no_questions monitor report.plan)

no_answer : (monitor : MonitorParts) (report : Report) (place : ℕ) (P : Question × Cert → Type 0) → IsSomeAnd (slice_get (answers_of monitor (uncounted report)) place) P → ⊥
no_answer monitor report place P here = subst (λ (all : List (Question × Cert)). IsSomeAnd (slice_get all place) P) (no_answers monitor report) here

plainly : (monitor : MonitorParts) (report : Report) (line : ℕ) → IsUnproved monitor (uncounted report) line → IsPlainlyUnproved monitor report line
plainly monitor report line (sight, inl claim) = record {
  sight = sight;
  place = claim.place;
  line_is = claim.line_is;
  before = subst (λ (proofs : List (Claim × Cert)). AreChecked monitor report.plan.kept (take claim.place proofs)) (same_proofs monitor report) claim.before;
  here = subst (λ (proofs : List (Claim × Cert)). IsSomeAnd (slice_get proofs claim.place) (IsOpen monitor report.plan.kept)) (same_proofs monitor report) claim.here;
}
plainly monitor report line (sight, inr question) = absurd (no_answer monitor report question.place _ question.here)

pub plain_verdict : (monitor : MonitorParts) (report : Report) (verdict : Verdict) → IsCountedVerdict monitor (uncounted report) verdict → IsVerdict monitor report verdict
plain_verdict monitor report (verdicts.Accepted certs) (accepted, many) = (
  record { lawful = accepted.plain (all_none report.plan.kinds); proofs = subst (AreChecked monitor report.plan.kept) (same_proofs monitor report) accepted.proofs },
  omega (arith, many),
)
plain_verdict monitor report verdicts.Unlawful unlawful = unlawful
plain_verdict monitor report (verdicts.Unproved line) unproved = plainly monitor report line unproved

counted_accepted : (monitor : MonitorParts) (report : Report) → IsReport monitor report → IsAccepted monitor report → IsCountedAccepted monitor (uncounted report)
counted_accepted monitor report is accepted = record {
  fits = plan_fits monitor report.plan is.plan accepted.lawful.reading;
  lawful = lawful_by_counting monitor report.plan accepted.lawful;
  plain = λ none. accepted.lawful;
  proofs = subst (AreChecked monitor report.plan.kept) (sym (same_proofs monitor report)) accepted.proofs;
  answers = subst (All (IsAnswered monitor report.plan.kept)) (sym (no_answers monitor report)) (All-nil (IsAnswered monitor report.plan.kept));
}

pub counted_verdict : (monitor : MonitorParts) (report : Report) (verdict : Verdict) → IsReport monitor report → IsVerdict monitor report verdict → IsCountedVerdict monitor (uncounted report) verdict
counted_verdict monitor report (verdicts.Accepted certs) is (accepted, many) = (counted_accepted monitor report is accepted, omega (arith, many))
counted_verdict monitor report verdicts.Unlawful is unlawful = unlawful
counted_verdict monitor report (verdicts.Unproved line) is unproved = (
  unproved.sight,
  inl (record {
    place = unproved.place;
    line_is = unproved.line_is;
    before = subst (λ (proofs : List (Claim × Cert)). AreChecked monitor report.plan.kept (take unproved.place proofs)) (sym (same_proofs monitor report)) unproved.before;
    here = subst (λ (proofs : List (Claim × Cert)). IsSomeAnd (slice_get proofs unproved.place) (IsOpen monitor report.plan.kept)) (sym (same_proofs monitor report)) unproved.here;
  }),
)
