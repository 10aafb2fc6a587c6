-- What is printed of a plan that was placed and then counted is read again as its report, which is accepted.
use Rattle.std.proofs.Common.{◌≡◌, ◌⊎◌, ℕ, ◌+◌, Bool, true, false, cond, List, [], ◌∷◌, ◌++◌, map, length, Option, Some, None, inl, inr, refl, sym, ap, subst, ◌∙◌, arith}
use Rattle.std.specs.Prelude.{All, IsSomeAnd, slice_get}
use Rattle.std.specs.List.{enumerate_from, filter, flat_map, zip}
use Rattle.std.proofs.lemmas.Bool.{and_parts, cases_Bool, true≢false}
use Rattle.std.proofs.lemmas.List.Elements.{All-nil, All-cons, All-head, All-tail, All-append, All-filter, All-map, All-weaker}
use Rattle.logic_cert.specs.declared.cert.Cert.{Cert}
use Rattle.logic_outline.specs.Outlines.{HasTypedNumbers}
use Rattle.lang_monitor.specs.declared.candidate.Candidate.{Candidate}
use Rattle.lang_monitor.specs.declared.claim.Claim.{Claim}
use Rattle.lang_monitor.specs.declared.query.Query.{Query}
use Rattle.lang_monitor.specs.MonitorParts.{MonitorParts}
use Rattle.lang_monitor.specs.Queries.{query_of}
use Rattle.machine_events.specs.Counts.{IsLawfulByCounting}
use Rattle.logic_wp.specs.PlainClaims.{IsClaimOf, has_few_cubes, is_within_limits}
use Rattle.logic_wp.specs.Limits.{is_query_within}
use Rattle.logic_wp.specs.NegatedQueries.{negated_query}
use Rattle.plan_prune.specs.Hardness.{HasNoOpenClaim, MayStayOpen, limits}
use Rattle.plan_claims.specs.declared.placed.PlacedPlan.{PlacedPlan}
use Rattle.plan_claims.specs.declared.placed.Proof.{Proof}
use Rattle.plan_claims.specs.Backing.{backed_claims}
use Rattle.plan_claims.proofs.Lists.{all_mapped}
use Rattle.plan_count.specs.declared.question.Question.{Question}
use Rattle.plan_count.specs.declared.question.Question.TheVariants as questions
use Rattle.plan_count.specs.Questions.{MayAskQuestion, question_query}
use Rattle.plan_counted.specs.declared.counted.Column.{Column}
use Rattle.plan_counted.specs.declared.counted.CountedPlan.{CountedPlan}
use Rattle.plan_counted.specs.declared.counted.Told.{Told}
use Rattle.plan_counted.specs.declared.counted.Told.TheVariants as telling
use Rattle.plan_counted.specs.Counted.{IsBacked, IsColumnBacked}
use Rattle.plan_counted.specs.Exact.{HasNoOpenQuestion}
use Rattle.report_verdict.specs.declared.report.Verdict.{Verdict}
use Rattle.report_verdict.specs.declared.report.Verdict.TheVariants as verdicts
use Rattle.report_proofs.specs.Readings.{IsReadable}
use Rattle.report_verdict.specs.Verdicts.{AreChecked, IsLawfulAtSight, IsOpen, IsProof}
use Rattle.report_verdict.proofs.Pairs.{all_at}
use Rattle.report_proofs.proofs.SmallReports.{claims_are}
use Rattle.report_tally.specs.declared.report.CountedReport.{CountedReport}
use Rattle.report_tally.specs.CountedReadings.{IsCountedRead, IsReadableReport, IsTypedRow}
use Rattle.report_tally.specs.CountedReports.{answers_of, is_owed, owed_proofs, owed_questions}
use Rattle.report_tally.specs.CountedTexts.{HasTypedColumn, IsCountingOf, IsTypedTold, column_certs, column_row, counted_report_of, counted_text, is_still_owed, still_owed_proofs, told_certs}
use Rattle.report_tally.specs.CountedVerdicts.{IsAnswer, IsAnswered, IsCountedVerdict, IsUnanswered}
use Rattle.report_tally.specs.EasyCountings.{IsEasyCounting, IsNoOpenClaim, IsNoOpenQuestion, OwesNothingOpen}
use Rattle.report_tally.proofs.AskedQuestions.{questions_askable}
use Rattle.report_tally.proofs.AnswerLines.{column_questions, condition_many, told_many, told_questions}
use Rattle.report_tally.proofs.CountingReports.{report_of, same_claims, same_questions, text_of}

-- ---- queries that may not stay open

query_limits : (monitor : MonitorParts) (query : Query) → (MayStayOpen monitor query → ⊥) → is_query_within monitor query ≡ true
query_limits monitor query none = by_limits (cases_Bool (is_within_limits monitor query))
  where
    by_limits : (is_within_limits monitor query ≡ true) ⊎ (is_within_limits monitor query ≡ false) → is_query_within monitor query ≡ true
    by_limits (inl within) = (and_parts (is_query_within monitor query) (has_few_cubes (negated_query monitor query)) within).0
    by_limits (inr beyond) = absurd (none (limits beyond))

-- where no claim and no question of the monitor may stay open, none may that is owed
pub nothing_open : (monitor : MonitorParts) (placed : PlacedPlan) (counted : CountedPlan) → IsCountingOf monitor placed counted → IsLawfulByCounting monitor counted.plan
    → HasNoOpenClaim monitor placed.plan.kept → HasNoOpenQuestion monitor placed.plan.kept → OwesNothingOpen monitor placed.plan.kept counted
nothing_open monitor placed counted is lawful no_claim no_question = record {
  claims = All-filter (is_owed rows) (IsNoOpenClaim monitor placed.plan.kept) (backed_claims monitor counted.plan)
      (All-weaker (IsClaimOf monitor) (IsNoOpenClaim monitor placed.plan.kept) no_claim (backed_claims monitor counted.plan) (claims_are monitor counted.plan is.is is.counted_fits sight));
  questions = All-weaker (MayAskQuestion monitor) (IsNoOpenQuestion monitor placed.plan.kept) no_question (owed_questions monitor counted.plan rows)
      (questions_askable monitor counted.plan rows (report_of monitor placed counted is).counted);
}
  where
    rows : List (Option ℕ)
    rows = map column_row counted.columns

    sight : IsLawfulAtSight monitor counted.plan
    sight = record { starts = lawful.inductive.starts; reading = lawful.reading; broadcasts = lawful.broadcasts }

-- ---- what the counted plan is at sight

sight_of : (monitor : MonitorParts) (placed : PlacedPlan) (counted : CountedPlan) → IsEasyCounting monitor placed counted → IsLawfulAtSight monitor counted.plan
sight_of monitor placed counted is = record { starts = is.counted_lawful.inductive.starts; reading = is.counted_lawful.reading; broadcasts = is.counted_lawful.broadcasts }

-- ---- proofs

abbrev Checked : MonitorParts → List Candidate → Claim × Cert → Type 0
Checked monitor kept one = IsProof monitor kept one × (is_query_within monitor (query_of monitor kept one.0) ≡ true)

abbrev pair : Claim → Cert → Claim × Cert
pair claim cert = (claim, cert)

zipped : (P : Claim × Cert → Type 0) (proofs : List Proof)
    → All (λ proof. P (pair proof.claim proof.cert)) proofs
    → All P (zip (map (λ proof. proof.claim) proofs) (map (λ proof. proof.cert) proofs))
zipped P [] all = All-nil P
zipped P (proof ∷ proofs) all =
    All-cons P (pair proof.claim proof.cert) (zip (map (λ proof. proof.claim) proofs) (map (λ proof. proof.cert) proofs))
    (All-head (λ (one : Proof). P (pair one.claim one.cert)) proof proofs all) (zipped P proofs (All-tail (λ (one : Proof). P (pair one.claim one.cert)) proof proofs all))

still_owed_claims : (columns : List (Option Column)) (proofs : List Proof)
    → filter (is_still_owed columns) (map (λ proof. proof.claim) proofs) ≡ map (λ proof. proof.claim) (still_owed_proofs columns proofs)
still_owed_claims columns [] = refl
still_owed_claims columns (proof ∷ proofs) = by_owed (is_still_owed columns proof.claim) (still_owed_claims columns proofs)
  where
    wanted : List Claim
    wanted = filter (is_still_owed columns) (map (λ proof. proof.claim) proofs)

    some : List Proof
    some = still_owed_proofs columns proofs

    by_owed : (owed : Bool) → wanted ≡ map (λ proof. proof.claim) some
        → cond owed (proof.claim ∷ wanted) wanted ≡ map (λ proof. proof.claim) (cond owed (proof ∷ some) some)
    by_owed true rest = ap (λ (more : List Claim). proof.claim ∷ more) rest
    by_owed false rest = rest

checked : (monitor : MonitorParts) (placed : PlacedPlan) (counted : CountedPlan) → IsEasyCounting monitor placed counted
    → AreChecked monitor counted.plan.kept (owed_proofs monitor (counted_report_of placed counted))
checked monitor placed counted is =
    subst (λ (own : List Candidate). All (Checked monitor own) (owed_proofs monitor (counted_report_of placed counted))) (sym is.counting.from.kept)
    (subst (λ (wanted : List Claim). All (Checked monitor kept) (zip wanted (map (λ proof. proof.cert) some)))
    (sym (still_owed_claims counted.columns placed.proofs) ∙ same_claims monitor placed counted is.counting)
    (zipped (Checked monitor kept) some (λ place other low. (proved place other low, within _ (each place other low)))))
  where
    kept : List Candidate
    kept = placed.plan.kept

    some : List Proof
    some = still_owed_proofs counted.columns placed.proofs

    owed : All (IsNoOpenClaim monitor kept) (map (λ proof. proof.claim) some)
    owed =
        subst (All (IsNoOpenClaim monitor kept)) (sym (sym (still_owed_claims counted.columns placed.proofs) ∙ same_claims monitor placed counted is.counting)) is.owes.claims

    each : All (λ proof. IsNoOpenClaim monitor kept proof.claim) some
    each = all_mapped (IsNoOpenClaim monitor kept) (λ (proof : Proof). proof.claim) some owed

    proved : All (λ proof. IsProof monitor kept (pair proof.claim proof.cert)) some
    proved =
        All-filter (λ proof. is_still_owed counted.columns proof.claim) (λ proof. IsProof monitor kept (pair proof.claim proof.cert)) placed.proofs
        (λ i other low. is.proofs.certificates i other low)

    within : (claim : Claim) → IsNoOpenClaim monitor kept claim → is_query_within monitor (query_of monitor kept claim) ≡ true
    within claim none = query_limits monitor (query_of monitor kept claim) none

-- ---- answers

zip_both : (P : Question × Cert → Type 0) (asked more : List Question) (certs later : List Cert) → length asked ≡ length certs
    → All P (zip asked certs) → All P (zip more later) → All P (zip (asked ++ more) (certs ++ later))
zip_both P [] more [] later same first rest = rest
zip_both P [] more (cert ∷ certs) later same first rest = absurd (omega (arith, same))
zip_both P (question ∷ asked) more [] later same first rest = absurd (omega (arith, same))
zip_both P (question ∷ asked) more (cert ∷ certs) later same first rest =
    All-cons P (question, cert) (zip (asked ++ more) (certs ++ later)) (All-head P (question, cert) (zip asked certs) first)
    (zip_both P asked more certs later (omega (arith, same)) (All-tail P (question, cert) (zip asked certs) first) rest)

told_answers : (monitor : MonitorParts) (kept : List Candidate) (condition row block : ℕ) (told : Told) → IsBacked monitor kept condition row block told
    → All (IsAnswer monitor kept) (zip (told_questions condition row block told) (told_certs told))
told_answers monitor kept condition row block (telling.Nothing counts) backed =
    All-cons (IsAnswer monitor kept) (questions.Counts condition row block, counts) [] backed (All-nil (IsAnswer monitor kept))
told_answers monitor kept condition row block (telling.Signal gives first) backed =
    All-cons (IsAnswer monitor kept) (questions.Gives condition row block, gives) ((questions.First condition row block, first) ∷ []) backed.0
    (All-cons (IsAnswer monitor kept) (questions.First condition row block, first) [] backed.1 (All-nil (IsAnswer monitor kept)))
told_answers monitor kept condition row block telling.Broadcast backed = All-nil (IsAnswer monitor kept)

column_answers : (monitor : MonitorParts) (kept : List Candidate) (condition row first : ℕ) (column : List Told)
    → All (λ one. IsBacked monitor kept condition row one.0 one.1) (enumerate_from first column)
    → All (IsAnswer monitor kept) (zip (flat_map (λ one. told_questions condition row one.0 one.1) (enumerate_from first column)) (flat_map told_certs column))
column_answers monitor kept condition row first [] each = All-nil (IsAnswer monitor kept)
column_answers monitor kept condition row first (told ∷ column) each =
    let P : ℕ × Told → Type 0 = λ one. IsBacked monitor kept condition row one.0 one.1 in
    zip_both (IsAnswer monitor kept) (told_questions condition row first told) (flat_map (λ one. told_questions condition row one.0 one.1) (enumerate_from (first + 1) column))
    (told_certs told) (flat_map told_certs column) (told_many condition row first told)
    (told_answers monitor kept condition row first told (All-head P (first, told) (enumerate_from (first + 1) column) each))
    (column_answers monitor kept condition row (first + 1) column (All-tail P (first, told) (enumerate_from (first + 1) column) each))

condition_answers : (monitor : MonitorParts) (kept : List Candidate) (condition : ℕ) (column : Option Column) → IsColumnBacked monitor kept condition column
    → All (IsAnswer monitor kept) (zip (column_questions condition column) (column_certs column))
condition_answers monitor kept condition None backed = All-nil (IsAnswer monitor kept)
condition_answers monitor kept condition (Some column) backed = column_answers monitor kept condition column.row 0 column.told backed.each

columns_answers : (monitor : MonitorParts) (kept : List Candidate) (first : ℕ) (columns : List (Option Column))
    → All (λ one. IsColumnBacked monitor kept one.0 one.1) (enumerate_from first columns)
    → All (IsAnswer monitor kept) (zip (flat_map (λ one. column_questions one.0 one.1) (enumerate_from first columns)) (flat_map column_certs columns))
columns_answers monitor kept first [] each = All-nil (IsAnswer monitor kept)
columns_answers monitor kept first (column ∷ columns) each =
    let P : ℕ × Option Column → Type 0 = λ one. IsColumnBacked monitor kept one.0 one.1 in
    zip_both (IsAnswer monitor kept) (column_questions first column) (flat_map (λ one. column_questions one.0 one.1) (enumerate_from (first + 1) columns))
    (column_certs column) (flat_map column_certs columns) (condition_many first column)
    (condition_answers monitor kept first column (All-head P (first, column) (enumerate_from (first + 1) columns) each))
    (columns_answers monitor kept (first + 1) columns (All-tail P (first, column) (enumerate_from (first + 1) columns) each))

-- no question may stay open, and the certificate of each answers it
zip_within : (monitor : MonitorParts) (kept : List Candidate) (asked : List Question) (certs : List Cert)
    → All (IsNoOpenQuestion monitor kept) asked → All (IsAnswer monitor kept) (zip asked certs) → All (IsAnswered monitor kept) (zip asked certs)
zip_within monitor kept [] certs none answers = All-nil (IsAnswered monitor kept)
zip_within monitor kept (question ∷ asked) [] none answers = All-nil (IsAnswered monitor kept)
zip_within monitor kept (question ∷ asked) (cert ∷ certs) none answers =
    All-cons (IsAnswered monitor kept) (question, cert) (zip asked certs) (
      All-head (IsAnswer monitor kept) (question, cert) (zip asked certs) answers,
      query_limits monitor (question_query monitor kept question) (All-head (IsNoOpenQuestion monitor kept) question asked none),
    )
    (zip_within monitor kept asked certs (All-tail (IsNoOpenQuestion monitor kept) question asked none) (All-tail (IsAnswer monitor kept) (question, cert) (zip asked certs) answers))

answered : (monitor : MonitorParts) (placed : PlacedPlan) (counted : CountedPlan) → IsEasyCounting monitor placed counted
    → All (IsAnswered monitor counted.plan.kept) (answers_of monitor (counted_report_of placed counted))
answered monitor placed counted is =
    subst (λ (own : List Candidate). All (IsAnswered monitor own) (answers_of monitor (counted_report_of placed counted))) (sym is.counting.from.kept)
    (zip_within monitor kept asked (flat_map column_certs counted.columns) is.owes.questions
    (subst (λ (all : List Question). All (IsAnswer monitor kept) (zip all (flat_map column_certs counted.columns))) (same_questions monitor placed counted is.counting)
    (columns_answers monitor kept 1 counted.columns is.counting.backed.each)))
  where
    kept : List Candidate
    kept = placed.plan.kept

    asked : List Question
    asked = owed_questions monitor counted.plan (map column_row counted.columns)

-- ---- the verdict

no_open : (monitor : MonitorParts) (kept : List Candidate) (proofs : List (Claim × Cert)) (place : ℕ) → All (Checked monitor kept) proofs
    → IsSomeAnd (slice_get proofs place) (IsOpen monitor kept) → ⊥
no_open monitor kept proofs place all here = by_found (slice_get proofs place) refl here
  where
    by_found : (found : Option (Claim × Cert)) → slice_get proofs place ≡ found → IsSomeAnd found (IsOpen monitor kept) → ⊥
    by_found None is here = here
    by_found (Some one) is (inl unproved) = unproved (all_at (Checked monitor kept) proofs place one is all).0
    by_found (Some one) is (inr beyond) = true≢false (sym (all_at (Checked monitor kept) proofs place one is all).1 ∙ beyond)

none_unanswered : (monitor : MonitorParts) (kept : List Candidate) (answers : List (Question × Cert)) (place : ℕ) → All (IsAnswered monitor kept) answers
    → IsSomeAnd (slice_get answers place) (IsUnanswered monitor kept) → ⊥
none_unanswered monitor kept answers place all here = by_found (slice_get answers place) refl here
  where
    by_found : (found : Option (Question × Cert)) → slice_get answers place ≡ found → IsSomeAnd found (IsUnanswered monitor kept) → ⊥
    by_found None is here = here
    by_found (Some one) is (inl fails) = fails (all_at (IsAnswered monitor kept) answers place one is all).0
    by_found (Some one) is (inr beyond) = true≢false (sym (all_at (IsAnswered monitor kept) answers place one is all).1 ∙ beyond)

-- a report whose plan is lawful at sight and whose certificates are checked has no verdict but that it is accepted
pub accepted_only : (monitor : MonitorParts) (report : CountedReport) (verdict : Verdict) → IsLawfulAtSight monitor report.plan
    → AreChecked monitor report.plan.kept (owed_proofs monitor report) → All (IsAnswered monitor report.plan.kept) (answers_of monitor report)
    → IsCountedVerdict monitor report verdict → verdict ≡ verdicts.Accepted (length report.proofs + length report.answers)
accepted_only monitor report (verdicts.Accepted certs) lawful proofs answers (accepted, many) = ap verdicts.Accepted many
accepted_only monitor report verdicts.Unlawful lawful proofs answers unlawful = absurd (unlawful lawful)
accepted_only monitor report (verdicts.Unproved line) lawful proofs answers (sight, inl claim) =
    absurd (no_open monitor report.plan.kept (owed_proofs monitor report) claim.place proofs claim.here)
accepted_only monitor report (verdicts.Unproved line) lawful proofs answers (sight, inr question) =
    absurd (none_unanswered monitor report.plan.kept (answers_of monitor report) question.place answers question.here)

pub counted_accepted_again : (monitor : MonitorParts) (placed : PlacedPlan) (counted : CountedPlan) (verdict : Verdict) (report : CountedReport) → IsEasyCounting monitor placed counted
    → report ≡ counted_report_of placed counted → IsCountedVerdict monitor report verdict → verdict ≡ verdicts.Accepted (length report.proofs + length report.answers)
counted_accepted_again monitor placed counted verdict report is same judged =
    accepted_only monitor (counted_report_of placed counted) verdict (sight_of monitor placed counted is) (checked monitor placed counted is) (answered monitor placed counted is)
    (subst (λ (one : CountedReport). IsCountedVerdict monitor one verdict) same judged)
    ∙ ap (λ (one : CountedReport). verdicts.Accepted (length one.proofs + length one.answers)) (sym same)

-- ---- read again

column_typed : (column : List Told) → All IsTypedTold column → All HasTypedNumbers (flat_map told_certs column)
column_typed [] all = All-nil HasTypedNumbers
column_typed (told ∷ column) all =
    All-append HasTypedNumbers (told_certs told) (flat_map told_certs column) (All-head IsTypedTold told column all) (column_typed column (All-tail IsTypedTold told column all))

condition_typed : (column : Option Column) → HasTypedColumn column → All HasTypedNumbers (column_certs column)
condition_typed None typed = All-nil HasTypedNumbers
condition_typed (Some column) typed = column_typed column.told typed.told

rows_typed : (columns : List (Option Column)) → All HasTypedColumn columns → All IsTypedRow (map column_row columns)
rows_typed [] all = All-nil IsTypedRow
rows_typed (column ∷ columns) all =
    All-cons IsTypedRow (column_row column) (map column_row columns) (by_column column (All-head HasTypedColumn column columns all)) (rows_typed columns (All-tail HasTypedColumn column columns all))
  where
    by_column : (column : Option Column) → HasTypedColumn column → IsTypedRow (column_row column)
    by_column None typed = tt
    by_column (Some column) typed = typed.row

columns_typed : (columns : List (Option Column)) → All HasTypedColumn columns → All HasTypedNumbers (flat_map column_certs columns)
columns_typed [] all = All-nil HasTypedNumbers
columns_typed (column ∷ columns) all =
    All-append HasTypedNumbers (column_certs column) (flat_map column_certs columns) (condition_typed column (All-head HasTypedColumn column columns all))
    (columns_typed columns (All-tail HasTypedColumn column columns all))

readable : (monitor : MonitorParts) (placed : PlacedPlan) (counted : CountedPlan) → IsEasyCounting monitor placed counted → IsReadableReport monitor (counted_report_of placed counted)
readable monitor placed counted is = record {
  is = report_of monitor placed counted is.counting;
  rows = rows_typed counted.columns is.typed_columns;
  proofs = All-map IsReadable (λ (proof : Proof). proof.cert) (still_owed_proofs counted.columns placed.proofs)
      (All-filter (λ proof. is_still_owed counted.columns proof.claim) (λ proof. HasTypedNumbers proof.cert) placed.proofs is.typed);
  answers = columns_typed counted.columns is.typed_columns;
}

pub counted_read_again : (monitor : MonitorParts) (placed : PlacedPlan) (counted : CountedPlan) (read : Option CountedReport) → IsEasyCounting monitor placed counted
    → IsCountedRead monitor (counted_text monitor placed counted) read → read ≡ Some (counted_report_of placed counted)
counted_read_again monitor placed counted None is told =
    absurd (told (counted_report_of placed counted) (readable monitor placed counted is) (sym (text_of monitor placed counted is.counting)))
counted_read_again monitor placed counted (Some report) is told =
    ap {B = Option CountedReport} Some (sym (told.only (counted_report_of placed counted) (readable monitor placed counted is) (sym (text_of monitor placed counted is.counting))))
