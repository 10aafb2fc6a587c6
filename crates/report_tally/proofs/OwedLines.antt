-- The lines of what a counted plan rests on, read. Bytes: 99 is `c`, 102 `f`, 103 `g`, 107 `k`,
-- 111 `o`, 112 `p`.
use Rattle.std.proofs.Common.{◌≡◌, ℕ, zero, suc, ◌+◌, ◌-◌, ◌^◌, ◌<◌, Bool, true, false, not, List, [], ◌∷◌, ◌++◌, map, length, take, drop, Option, Some, None, Result, Ok, Err, codes, refl, sym, ap, ap₂, subst, ◌∙◌, append-nil, length-append, arith}
use Rattle.std.specs.Prelude.{All, IfOk, MatchOption, is_some, slice_get, unwrap_or}
use Rattle.std.specs.List.{enumerate_from, flat_map}
use Rattle.std.specs.declared.alloc.AllocError.{AllocError}
use Rattle.std.proofs.lemmas.List.{length-map, nil_from_length, take-append-drop, length-take-le, length-drop}
use Rattle.std.proofs.lemmas.List.Elements.{All-nil, All-cons, All-append, All-take, All-drop}
use Rattle.std.proofs.lemmas.Option.{none-some, same_Some}
use Rattle.lang_base.proofs.Cuts.{same_first}
use Rattle.logic_cert.specs.declared.cert.Cert.{Cert}
use Rattle.logic_cert.specs.CertText.{cert_text}
use Rattle.lang_monitor.specs.declared.claim.Claim.{Claim}
use Rattle.lang_monitor.specs.declared.claim.Claim.TheVariants as claims
use Rattle.lang_monitor.specs.MonitorParts.{MonitorParts, IsMonitor}
use Rattle.machine_events.specs.declared.plan.Plan.{Plan}
use Rattle.machine_events.specs.PlanText.{plan_text}
use Rattle.plan_claims.specs.Backing.{backed_claims}
use Rattle.plan_count.specs.declared.question.Question.{Question}
use Rattle.plan_count.specs.declared.question.Question.TheVariants as questions
use Rattle.report_questions.specs.QuestionText.{question_text}
use Rattle.report_proofs.specs.Fronts.{Anything, AreFor, IsAfterKept, IsFront, IsNoFront}
use Rattle.report_proofs.specs.Readings.{IsReadable}
use Rattle.report_proofs.specs.ReportTexts.{claim_text, proofs_text}
use Rattle.report_verdict.specs.Reports.{IsPlanOf}
use Rattle.report_verdict.proofs.Pairs.{all_at}
use Rattle.report_tally.specs.declared.report.CountedReport.{CountedReport}
use Rattle.report_tally.specs.CountedReadings.{IsCountedRead, IsReadableReport, IsTypedRow}
use Rattle.report_tally.specs.CountedReports.{answers_text, condition_questions, is_counted, is_owed, owed_claims, owed_questions, owed_text}
use Rattle.report_tally.specs.inner.Lines.{Answers, AreAllAnswers, AreFound, AreMarked, AreRead, AreSignals, IsAfterOnes, IsReportWith, IsRowIf, IsRowOf, IsWithAnswers, IsWithLines, IsNoRestFront, all_text, answer_certs, answer_rows, answers_with, condition_text, left_out}
use Rattle.report_tally.proofs.AnswerLines.{zipped}
use Rattle.report_tally.proofs.Marks.{left_out_signals, mark_is, marks_are}
use Rattle.report_tally.proofs.OneLines.{kind_byte}
use Rattle.report_tally.proofs.StillOwed.{same_filter}

-- ---- lines of questions

-- no line of a question is a claim's
after_answers : (monitor : MonitorParts) (asked : List Question) (certs : List Cert) → IsAfterOnes (answers_text monitor asked certs)
after_answers monitor [] certs more same = absurd (omega (arith, ap {B = ℕ} length same))
after_answers monitor (question ∷ asked) [] more same = absurd (omega (arith, ap {B = ℕ} length same))
after_answers monitor (questions.Counts condition row block ∷ asked) (cert ∷ certs) more same = absurd (omega (arith, ap {B = ℕ} kind_byte same))
after_answers monitor (questions.Gives condition row block ∷ asked) (cert ∷ certs) more same = absurd (omega (arith, ap {B = ℕ} kind_byte same))
after_answers monitor (questions.First condition row block ∷ asked) (cert ∷ certs) more same = absurd (omega (arith, ap {B = ℕ} kind_byte same))

-- no line of a question is a candidate's
after_asked : (monitor : MonitorParts) (asked : List Question) (answers : List Cert) → IsAfterKept (answers_text monitor asked answers)
after_asked monitor [] answers more same = absurd (omega (arith, ap {B = ℕ} length same))
after_asked monitor (question ∷ asked) [] more same = absurd (omega (arith, ap {B = ℕ} length same))
after_asked monitor (question ∷ asked) (cert ∷ answers) more same =
    absurd (omega (arith, same_first 112 107 (codes "roof " ++ question_text monitor question ++ codes ": " ++ cert_text cert ++ codes "\n" ++ answers_text monitor asked answers) (codes "eep " ++ more) same))

-- no line of a claim or a question is a candidate's
after_lines : (monitor : MonitorParts) (wanted : List Claim) (certs : List Cert) (asked : List Question) (answers : List Cert)
    → IsAfterKept (proofs_text monitor wanted certs ++ answers_text monitor asked answers)
after_lines monitor [] certs asked answers more same = after_asked monitor asked answers more same
after_lines monitor (claim ∷ wanted) [] asked answers more same = after_asked monitor asked answers more same
after_lines monitor (claim ∷ wanted) (cert ∷ certs) asked answers more same =
    absurd (omega (arith, same_first 112 107 (codes "roof " ++ claim_text monitor claim ++ codes ": " ++ cert_text cert ++ codes "\n" ++ proofs_text monitor wanted certs ++ answers_text monitor asked answers) (codes "eep " ++ more) same))

after_owed : (monitor : MonitorParts) (report : CountedReport) → IsAfterKept (owed_text monitor report)
after_owed monitor report = after_lines monitor (owed_claims monitor report.plan report.counted) report.proofs (owed_questions monitor report.plan report.counted) report.answers

-- ---- which conditions are counted

pub marked_are : (monitor : MonitorParts) (plan : Plan) (bytes : List ℕ) (all found : List Claim) (marked : List (Option ℕ)) → IsMonitor monitor
    → IsPlanOf monitor plan → all ≡ backed_claims monitor plan → AreFound monitor all bytes found → marked ≡ left_out found plan.kinds
    → AreMarked monitor plan bytes marked
marked_are monitor plan bytes all found marked rule fits whole are is = record {
  are = subst (AreSignals plan) (sym is) (left_out_signals plan found);
  only = λ report with same. sym (ap (map is_some) is ∙ by_plan report with.own with.readable same);
}
  where
    told : AreFound monitor (backed_claims monitor plan) bytes found
    told = subst (λ (some : List Claim). AreFound monitor some bytes found) whole are

    by_plan : (report : CountedReport) → report.plan ≡ plan → IsReadableReport monitor report → owed_text monitor report ≡ bytes
        → map is_some (left_out found plan.kinds) ≡ map is_some report.counted
    by_plan report own readable same =
        let there : AreFound monitor (backed_claims monitor report.plan) bytes found = subst (λ (one : Plan). AreFound monitor (backed_claims monitor one) bytes found) (sym own) told in
        let claims = there report.counted report.proofs (answers_text monitor (owed_questions monitor report.plan report.counted) report.answers)
        (record { count = readable.is.proofs; each = readable.proofs }) (after_answers monitor (owed_questions monitor report.plan report.counted) report.answers) same in
        ap (λ (one : Plan). map is_some (left_out found one.kinds)) (sym own) ∙ marks_are monitor report.plan report.counted found rule readable.is.plan readable.is.counted claims

-- the same claims are owed where the same conditions are counted
same_owed : (monitor : MonitorParts) (plan : Plan) (counted others : List (Option ℕ)) → map is_some counted ≡ map is_some others
    → owed_claims monitor plan counted ≡ owed_claims monitor plan others
same_owed monitor plan counted others same = same_filter (is_owed counted) (is_owed others) (backed_claims monitor plan) (each (backed_claims monitor plan))
  where
    one_same : (condition : ℕ) → is_counted counted condition ≡ is_counted others condition
    one_same condition =
        mark_is counted (condition - 1) ∙ ap (λ (marks : List Bool). unwrap_or (slice_get marks (condition - 1)) false) same ∙ sym (mark_is others (condition - 1))

    by_claim : (claim : Claim) → is_owed counted claim ≡ is_owed others claim
    by_claim (claims.Keeps candidate block) = refl
    by_claim (claims.NoNote block condition) = refl
    by_claim (claims.One condition block) = ap not (one_same condition)
    by_claim (claims.NoTest block condition) = refl

    each : (all : List Claim) → All (λ claim. is_owed counted claim ≡ is_owed others claim) all
    each [] = All-nil (λ claim. is_owed counted claim ≡ is_owed others claim)
    each (claim ∷ all) = All-cons (λ claim. is_owed counted claim ≡ is_owed others claim) claim all (by_claim claim) (each all)

-- ---- answers, and the rows and certificates that they are

-- the questions on conditions from this number on
abbrev questions_from : MonitorParts → Plan → ℕ → List (Option ℕ) → List Question
questions_from monitor plan number counted = flat_map (λ one. condition_questions monitor plan one.0 one.1) (enumerate_from number counted)

answers_many : (monitor : MonitorParts) (plan : Plan) (number : ℕ) (marks : List Bool) (all : List Answers) → AreAllAnswers monitor plan number marks all
    → length (answer_certs all) ≡ length (questions_from monitor plan number (answer_rows all))
answers_many monitor plan number [] [] are = refl
answers_many monitor plan number [] (one ∷ all) are = absurd are
answers_many monitor plan number (mark ∷ marks) [] are = absurd are
answers_many monitor plan number (mark ∷ marks) (one ∷ all) are =
    let asked = condition_questions monitor plan number one.row in
    let later = questions_from monitor plan (number + 1) (answer_rows all) in
    omega (arith, length-append one.certs (answer_certs all), length-append asked later, are.0.certs.count, answers_many monitor plan (number + 1) marks all are.1)

answers_lines : (monitor : MonitorParts) (plan : Plan) (number : ℕ) (marks : List Bool) (all : List Answers) → AreAllAnswers monitor plan number marks all
    → answers_text monitor (questions_from monitor plan number (answer_rows all)) (answer_certs all) ≡ all_text monitor plan number all
answers_lines monitor plan number [] [] are = refl
answers_lines monitor plan number [] (one ∷ all) are = absurd are
answers_lines monitor plan number (mark ∷ marks) [] are = absurd are
answers_lines monitor plan number (mark ∷ marks) (one ∷ all) are =
    zipped monitor (condition_questions monitor plan number one.row) (questions_from monitor plan (number + 1) (answer_rows all)) one.certs (answer_certs all) (sym are.0.certs.count)
    ∙ ap (λ (text : List ℕ). condition_text monitor plan number one ++ text) (answers_lines monitor plan (number + 1) marks all are.1)

answers_readable : (monitor : MonitorParts) (plan : Plan) (number : ℕ) (marks : List Bool) (all : List Answers) → AreAllAnswers monitor plan number marks all
    → All IsReadable (answer_certs all)
answers_readable monitor plan number [] [] are = All-nil IsReadable
answers_readable monitor plan number [] (one ∷ all) are = absurd are
answers_readable monitor plan number (mark ∷ marks) [] are = absurd are
answers_readable monitor plan number (mark ∷ marks) (one ∷ all) are =
    All-append IsReadable one.certs (answer_certs all) are.0.certs.each (answers_readable monitor plan (number + 1) marks all are.1)

row_marked : (monitor : MonitorParts) (plan : Plan) (condition : ℕ) (mark : Bool) (row : Option ℕ) → IsRowIf monitor plan condition mark row → is_some row ≡ mark
row_marked monitor plan condition true (Some row) is = refl
row_marked monitor plan condition true None is = absurd is
row_marked monitor plan condition false (Some row) is = absurd is
row_marked monitor plan condition false None is = refl

answers_marked : (monitor : MonitorParts) (plan : Plan) (number : ℕ) (marks : List Bool) (all : List Answers) → AreAllAnswers monitor plan number marks all
    → map is_some (answer_rows all) ≡ marks
answers_marked monitor plan number [] [] are = refl
answers_marked monitor plan number [] (one ∷ all) are = absurd are
answers_marked monitor plan number (mark ∷ marks) [] are = absurd are
answers_marked monitor plan number (mark ∷ marks) (one ∷ all) are =
    let here = row_marked monitor plan number mark one.row are.0.row in
    let later = answers_marked monitor plan (number + 1) marks all are.1 in
    λ i. here i ∷ later i

row_is : (monitor : MonitorParts) (plan : Plan) (condition : ℕ) (mark : Bool) (own : Option ℕ) (row : ℕ) → IsRowIf monitor plan condition mark own → own ≡ Some row → IsRowOf monitor plan condition row
row_is monitor plan condition true (Some own) row is same = subst (IsRowOf monitor plan condition) (same_Some own row same) is
row_is monitor plan condition true None row is same = absurd is
row_is monitor plan condition false (Some own) row is same = absurd is
row_is monitor plan condition false None row is same = absurd (none-some row same)

rows_there : (monitor : MonitorParts) (plan : Plan) (number : ℕ) (marks : List Bool) (all : List Answers) → AreAllAnswers monitor plan number marks all
    → (k row : ℕ) → slice_get (answer_rows all) k ≡ Some (Some row) → IsRowOf monitor plan (number + k) row
rows_there monitor plan number [] [] are k row there = absurd (none-some (Some row) there)
rows_there monitor plan number [] (one ∷ all) are k row there = absurd are
rows_there monitor plan number (mark ∷ marks) [] are k row there = absurd are
rows_there monitor plan number (mark ∷ marks) (one ∷ all) are zero row there =
    let here : number ≡ number + 0 = omega arith in
    subst (λ (condition : ℕ). IsRowOf monitor plan condition row) here (row_is monitor plan number mark one.row row are.0.row (same_Some one.row (Some row) there))
rows_there monitor plan number (mark ∷ marks) (one ∷ all) are (suc k) row there =
    let far : number + 1 + k ≡ number + suc k = omega arith in
    subst (λ (condition : ℕ). IsRowOf monitor plan condition row) far (rows_there monitor plan (number + 1) marks all are.1 k row there)

typed_row : (monitor : MonitorParts) (plan : Plan) (condition : ℕ) (mark : Bool) (row : Option ℕ) → IsRowIf monitor plan condition mark row → IsTypedRow row
typed_row monitor plan condition true (Some row) is = is.typed
typed_row monitor plan condition true None is = absurd is
typed_row monitor plan condition false (Some row) is = absurd is
typed_row monitor plan condition false None is = tt

answers_typed : (monitor : MonitorParts) (plan : Plan) (number : ℕ) (marks : List Bool) (all : List Answers) → AreAllAnswers monitor plan number marks all
    → All IsTypedRow (answer_rows all)
answers_typed monitor plan number [] [] are = All-nil IsTypedRow
answers_typed monitor plan number [] (one ∷ all) are = absurd are
answers_typed monitor plan number (mark ∷ marks) [] are = absurd are
answers_typed monitor plan number (mark ∷ marks) (one ∷ all) are =
    All-cons IsTypedRow one.row (answer_rows all) (typed_row monitor plan number mark one.row are.0.row) (answers_typed monitor plan (number + 1) marks all are.1)

-- ---- rows and certificates, as answers

abbrev cut_at : MonitorParts → Plan → ℕ → List (Option ℕ) → List Cert → List Answers
cut_at monitor plan number [] certs = []
cut_at monitor plan number (row ∷ counted) certs =
    answers_with row (take (length (condition_questions monitor plan number row)) certs)
    ∷ cut_at monitor plan (number + 1) counted (drop (length (condition_questions monitor plan number row)) certs)

cut_rows : (monitor : MonitorParts) (plan : Plan) (number : ℕ) (counted : List (Option ℕ)) (certs : List Cert) → answer_rows (cut_at monitor plan number counted certs) ≡ counted
cut_rows monitor plan number [] certs = refl
cut_rows monitor plan number (row ∷ counted) certs =
    ap (λ (rows : List (Option ℕ)). row ∷ rows) (cut_rows monitor plan (number + 1) counted (drop (length (condition_questions monitor plan number row)) certs))

-- a row is the one that it should be
row_if : (monitor : MonitorParts) (plan : Plan) (condition : ℕ) (own : Option ℕ) → ((row : ℕ) → own ≡ Some row → IsRowOf monitor plan condition row)
    → IsRowIf monitor plan condition (is_some own) own
row_if monitor plan condition None are = tt
row_if monitor plan condition (Some row) are = are row refl

-- as many certificates as there are questions on conditions from this number on
record AreCut (monitor : MonitorParts) (plan : Plan) (number : ℕ) (counted : List (Option ℕ)) (certs : List Cert) : Type 0 where
  many : length certs ≡ length (questions_from monitor plan number counted)
  readable : All IsReadable certs
  rows : (k row : ℕ) → slice_get counted k ≡ Some (Some row) → IsRowOf monitor plan (number + k) row

cut_later : (monitor : MonitorParts) (plan : Plan) (number : ℕ) (row : Option ℕ) (counted : List (Option ℕ)) (certs : List Cert) → AreCut monitor plan number (row ∷ counted) certs
    → AreCut monitor plan (number + 1) counted (drop (length (condition_questions monitor plan number row)) certs)
cut_later monitor plan number row counted certs are =
    let asked = condition_questions monitor plan number row in record {
      many = omega (arith, are.many, length-append asked (questions_from monitor plan (number + 1) counted), length-drop (length asked) certs);
      readable = All-drop IsReadable (length asked) certs are.readable;
      rows = λ k own there.
          let far : number + suc k ≡ number + 1 + k = omega arith in
          subst (λ (condition : ℕ). IsRowOf monitor plan condition own) far (are.rows (suc k) own there);
    }

cut_certs : (monitor : MonitorParts) (plan : Plan) (number : ℕ) (counted : List (Option ℕ)) (certs : List Cert) → AreCut monitor plan number counted certs
    → answer_certs (cut_at monitor plan number counted certs) ≡ certs
cut_certs monitor plan number [] certs are = sym (nil_from_length certs are.many)
cut_certs monitor plan number (row ∷ counted) certs are =
    let many = length (condition_questions monitor plan number row) in
    ap (λ (later : List Cert). take many certs ++ later) (cut_certs monitor plan (number + 1) counted (drop many certs) (cut_later monitor plan number row counted certs are))
    ∙ take-append-drop many certs

cut_answers : (monitor : MonitorParts) (plan : Plan) (number : ℕ) (counted : List (Option ℕ)) (certs : List Cert) → AreCut monitor plan number counted certs
    → AreAllAnswers monitor plan number (map is_some counted) (cut_at monitor plan number counted certs)
cut_answers monitor plan number [] certs are = tt
cut_answers monitor plan number (row ∷ counted) certs are =
    let asked = condition_questions monitor plan number row in
    let here : number + 0 ≡ number = omega arith in (
      record {
        row = row_if monitor plan number row (λ own same. subst (λ (condition : ℕ). IsRowOf monitor plan condition own) here
            (are.rows 0 own (ap {B = Option (Option ℕ)} (λ (one : Option ℕ). Some one) same)));
        certs = record {
          count = length-take-le (length asked) certs (omega (arith, are.many, length-append asked (questions_from monitor plan (number + 1) counted)));
          each = All-take IsReadable (length asked) certs are.readable;
        };
      },
      cut_answers monitor plan (number + 1) counted (drop (length asked) certs) (cut_later monitor plan number row counted certs are),
    )

-- ---- with the answers

pub with_answers : (monitor : MonitorParts) (plan : Plan) (marks : List Bool) (proofs : List Cert) (bytes : List ℕ) (counted : List (Option ℕ)) (answers : List Cert)
    (left : List ℕ) (answer : Option CountedReport) → AreRead monitor plan marks bytes counted answers left
    → MatchOption answer (left ≡ [] → ⊥)
    (λ report. (report ≡ record { plan = plan; counted = counted; proofs = proofs; answers = answers }) × (left ≡ []))
    → IsWithAnswers monitor plan marks proofs bytes answer
with_answers monitor plan marks proofs bytes counted answers left None read some = λ others are same.
    some (sym (read.front.only others [] are tt (append-nil (all_text monitor plan 1 others) ∙ same)).1)
with_answers monitor plan marks proofs bytes counted answers left (Some report) read is = (
  read.all,
  is.0 ∙ (λ i. record { plan = plan; counted = read.rows_are i; proofs = proofs; answers = read.certs_are i }),
  read.front.holds,
  sym (append-nil (all_text monitor plan 1 read.all)) ∙ ap (λ (text : List ℕ). all_text monitor plan 1 read.all ++ text) (sym is.1) ∙ read.front.begins,
  λ others are same. (read.front.only others [] are tt (append-nil (all_text monitor plan 1 others) ∙ same)).0,
)

pub without_answers : (monitor : MonitorParts) (plan : Plan) (marks : List Bool) (proofs : List Cert) (bytes : List ℕ) → IsNoRestFront monitor plan 1 marks bytes
    → IsWithAnswers monitor plan marks proofs bytes None
without_answers monitor plan marks proofs bytes none others are same = none others [] are tt (append-nil (all_text monitor plan 1 others) ∙ same)

-- ---- with the claims

-- whatever report has these lines counts the conditions that are marked
record IsSettled (monitor : MonitorParts) (plan : Plan) (marked : List (Option ℕ)) (bytes : List ℕ) (report : CountedReport) : Type 0 where
  is : report ≡ record { plan = plan; counted = report.counted; proofs = report.proofs; answers = report.answers }
  proofs : AreFor (owed_claims monitor plan marked) IsReadable report.proofs
  all : List Answers
  are : AreAllAnswers monitor plan 1 (map is_some marked) all
  rows : answer_rows all ≡ report.counted
  certs : answer_certs all ≡ report.answers
  text : proofs_text monitor (owed_claims monitor plan marked) report.proofs ++ all_text monitor plan 1 all ≡ bytes

settle : (monitor : MonitorParts) (plan : Plan) (marked : List (Option ℕ)) (bytes : List ℕ) (report : CountedReport) → AreMarked monitor plan bytes marked
    → IsReportWith monitor plan report → owed_text monitor report ≡ bytes → IsSettled monitor plan marked bytes report
settle monitor plan marked bytes report marks with same = record {
  is = own;
  proofs = record { count = readable.is.proofs ∙ ap {B = ℕ} length claims_are; each = readable.proofs };
  all = all;
  are = subst (λ (some : List Bool). AreAllAnswers monitor plan 1 some all) same_marks (cut_answers monitor plan 1 report.counted report.answers cut);
  rows = cut_rows monitor plan 1 report.counted report.answers;
  certs = cut_certs monitor plan 1 report.counted report.answers cut;
  text = ap₂ (λ (one two : List ℕ). one ++ two) (ap (λ (wanted : List Claim). proofs_text monitor wanted report.proofs) (sym claims_are)) (sym lines)
      ∙ subst (λ (one : CountedReport). owed_text monitor one ≡ bytes) own same;
}
  where
    own : report ≡ record { plan = plan; counted = report.counted; proofs = report.proofs; answers = report.answers }
    own = λ i. record { plan = with.own i; counted = report.counted; proofs = report.proofs; answers = report.answers }

    readable : IsReadableReport monitor (record { plan = plan; counted = report.counted; proofs = report.proofs; answers = report.answers })
    readable = subst (IsReadableReport monitor) own with.readable

    same_marks : map is_some report.counted ≡ map is_some marked
    same_marks = marks.only report with same

    claims_are : owed_claims monitor plan report.counted ≡ owed_claims monitor plan marked
    claims_are = same_owed monitor plan report.counted marked same_marks

    typed : (k row : ℕ) → slice_get report.counted k ≡ Some (Some row) → row < 2 ^ 32
    typed k row there = all_at IsTypedRow report.counted k (Some row) there readable.rows

    cut : AreCut monitor plan 1 report.counted report.answers
    cut = record {
      many = readable.is.answers;
      readable = readable.answers;
      rows = λ k row there. record { may = readable.is.counted.each k row there; typed = typed k row there };
    }

    all : List Answers
    all = cut_at monitor plan 1 report.counted report.answers

    lines : answers_text monitor (owed_questions monitor plan report.counted) report.answers ≡ all_text monitor plan 1 all
    lines =
        ap₂ (λ (counted : List (Option ℕ)) (certs : List Cert). answers_text monitor (owed_questions monitor plan counted) certs)
        (sym (cut_rows monitor plan 1 report.counted report.answers)) (sym (cut_certs monitor plan 1 report.counted report.answers cut))
        ∙ answers_lines monitor plan 1 (map is_some report.counted) all (cut_answers monitor plan 1 report.counted report.answers cut)

pub with_none : (monitor : MonitorParts) (plan : Plan) (marked : List (Option ℕ)) (wanted : List Claim) (bytes : List ℕ) → AreMarked monitor plan bytes marked
    → wanted ≡ owed_claims monitor plan marked
    → IsNoFront (List Cert) (AreFor wanted IsReadable) Anything (proofs_text monitor wanted) bytes
    → IsWithLines monitor plan bytes None
with_none monitor plan marked wanted bytes marks are none report with same =
    let own = settle monitor plan marked bytes report marks with same in
    none report.proofs (all_text monitor plan 1 own.all)
    (subst (λ (all : List Claim). AreFor all IsReadable report.proofs) (sym are) own.proofs) tt
    (ap (λ (all : List Claim). proofs_text monitor all report.proofs ++ all_text monitor plan 1 own.all) are ∙ own.text)

pub with_some : (monitor : MonitorParts) (plan : Plan) (marked : List (Option ℕ)) (wanted : List Claim) (bytes : List ℕ) (proofs : List Cert) (left : List ℕ)
    (answer : Result (Option CountedReport) AllocError) → IsPlanOf monitor plan → AreMarked monitor plan bytes marked
    → wanted ≡ owed_claims monitor plan marked
    → IsFront (List Cert) (AreFor wanted IsReadable) Anything (proofs_text monitor wanted) bytes proofs left
    → IfOk answer (IsWithAnswers monitor plan (map is_some marked) proofs left) → IfOk answer (IsWithLines monitor plan bytes)
with_some monitor plan marked wanted bytes proofs left (Err fault) fits marks are front told = tt
with_some monitor plan marked wanted bytes proofs left (Ok answer) fits marks are front told = by_answer answer told
  where
    also : IsFront (List Cert) (AreFor (owed_claims monitor plan marked) IsReadable) Anything (proofs_text monitor (owed_claims monitor plan marked)) bytes proofs left
    also = subst (λ (all : List Claim). IsFront (List Cert) (AreFor all IsReadable) Anything (proofs_text monitor all) bytes proofs left) are front

    parts : (report : CountedReport) (own : IsSettled monitor plan marked bytes report) → (report.proofs ≡ proofs) × (all_text monitor plan 1 own.all ≡ left)
    parts report own = also.only report.proofs (all_text monitor plan 1 own.all) own.proofs tt own.text

    by_answer : (answer : Option CountedReport) → IsWithAnswers monitor plan (map is_some marked) proofs left answer → IsWithLines monitor plan bytes answer
    by_answer None none = λ report with same.
        let own = settle monitor plan marked bytes report marks with same in
        none own.all own.are (parts report own).1
    by_answer (Some report) (all, is, answers, text, only) = (
      record { own = ap (λ (one : CountedReport). one.plan) is; readable = subst (IsReadableReport monitor) (sym is) readable },
      ap (owed_text monitor) is
          ∙ ap₂ (λ (one two : List ℕ). one ++ two) (ap (λ (some : List Claim). proofs_text monitor some proofs) claims_are) (answers_lines monitor plan 1 (map is_some marked) all answers ∙ text)
          ∙ also.begins,
      λ other with same.
          let own = settle monitor plan marked bytes other marks with same in
          let both = parts other own in
          let found = only own.all own.are both.1 in
          let rows_are : other.counted ≡ answer_rows all = sym own.rows ∙ ap answer_rows found in
          let certs_are : other.answers ≡ answer_certs all = sym own.certs ∙ ap answer_certs found in
          own.is ∙ (λ i. record { plan = plan; counted = rows_are i; proofs = both.0 i; answers = certs_are i }) ∙ sym is,
    )
      where
        claims_are : owed_claims monitor plan (answer_rows all) ≡ owed_claims monitor plan marked
        claims_are = same_owed monitor plan (answer_rows all) marked (answers_marked monitor plan 1 (map is_some marked) all answers)

        readable : IsReadableReport monitor (record { plan = plan; counted = answer_rows all; proofs = proofs; answers = answer_certs all })
        readable = record {
          is = record {
            plan = fits;
            counted = record {
              many = sym (length-map (answer_rows all) is_some) ∙ ap {B = ℕ} length (answers_marked monitor plan 1 (map is_some marked) all answers)
                  ∙ length-map marked is_some ∙ marks.are.many;
              each = λ k row there. (rows_there monitor plan 1 (map is_some marked) all answers k row there).may;
            };
            proofs = also.holds.count ∙ ap {B = ℕ} length (sym claims_are);
            answers = answers_many monitor plan 1 (map is_some marked) all answers;
          };
          rows = answers_typed monitor plan 1 (map is_some marked) all answers;
          proofs = also.holds.each;
          answers = answers_readable monitor plan 1 (map is_some marked) all answers;
        }

-- ---- with the plan

pub report_answer : (monitor : MonitorParts) (bytes left : List ℕ) (plan : Plan) (answer : Result (Option CountedReport) AllocError)
    → IsFront Plan (IsPlanOf monitor) IsAfterKept (plan_text monitor) bytes plan left
    → IfOk answer (IsWithLines monitor plan left) → IfOk answer (IsCountedRead monitor bytes)
report_answer monitor bytes left plan (Err fault) front told = tt
report_answer monitor bytes left plan (Ok None) front none = λ report readable same.
    let found = front.only report.plan (owed_text monitor report) readable.is.plan (after_owed monitor report) same in
    none report (record { own = found.0; readable = readable }) found.1
report_answer monitor bytes left plan (Ok (Some report)) front told = record {
  is = told.0.readable;
  text = ap (λ (one : Plan). plan_text monitor one ++ owed_text monitor report) told.0.own ∙ ap (λ text. plan_text monitor plan ++ text) told.1 ∙ front.begins;
  only = λ other readable same.
      let found = front.only other.plan (owed_text monitor other) readable.is.plan (after_owed monitor other) same in
      told.2 other (record { own = found.0; readable = readable }) found.1;
}

pub report_none : (monitor : MonitorParts) (bytes : List ℕ) → IsNoFront Plan (IsPlanOf monitor) IsAfterKept (plan_text monitor) bytes
    → IsCountedRead monitor bytes None
report_none monitor bytes none report readable same = none report.plan (owed_text monitor report) readable.is.plan (after_owed monitor report) same
