-- For private contracts: what is known of the lines of what a plan rests on while they are read.
use Rattle.std.specs.Prelude.{◌≡◌, ◌==◌, ◌⊎◌, ℕ, ◌+◌, ◌<◌, ◌^◌, Bool, true, false, not, ◌&&◌, List}
use Rattle.std.specs.Prelude.{[], ◌∷◌, ◌≤◌, ◌++◌, map, length, Option, Some, None, is_some}
use Rattle.std.specs.Prelude.{slice_get}
use Rattle.std.specs.Prelude.{codes}
use Rattle.std.specs.List.{filter, flat_map, enumerate_from, list_any}
use Rattle.lang_base.specs.Limits.{BLOCKS}
use Rattle.logic_cert.specs.declared.cert.Cert.{Cert}
use Rattle.lang_monitor.specs.declared.claim.Claim.{Claim}
use Rattle.lang_monitor.specs.declared.claim.Claim.TheVariants as claims
use Rattle.lang_monitor.specs.MonitorParts.{MonitorParts}
use Rattle.machine_events.specs.declared.plan.CondKind.{CondKind}
use Rattle.machine_events.specs.declared.plan.CondKind.TheVariants as kinds
use Rattle.machine_events.specs.declared.plan.Plan.{Plan}
use Rattle.plan_count.specs.declared.question.Question.{Question}
use Rattle.plan_count.specs.declared.question.Question.TheVariants as questions
use Rattle.plan_count.specs.Questions.{HasRowAt}
use Rattle.plan_counted.specs.declared.counted.Column.{Column}
use Rattle.report_questions.specs.QuestionText.{question_text}
use Rattle.report_proofs.specs.Fronts.{Anything, AreFor, IsFront, IsNoFront}
use Rattle.report_proofs.specs.Readings.{IsReadable}
use Rattle.report_proofs.specs.ReportTexts.{proof_text, proofs_text}
use Rattle.report_tally.specs.declared.report.CountedReport.{CountedReport}
use Rattle.report_tally.specs.CountedReadings.{IsReadableReport}
use Rattle.report_tally.specs.CountedReports.{MayBeCounted, answers_text, block_questions}
use Rattle.report_tally.specs.CountedReports.{condition_questions}
use Rattle.report_tally.specs.CountedReports.{is_owed, owed_text}

-- ---- which conditions are counted

-- the bytes don't go on with a claim that one waiter is enough
abbrev pub IsAfterOnes : List ℕ → Type 0
IsAfterOnes text = (more : List ℕ) → text ≡ codes "proof one " ++ more → ⊥

-- Of these claims the ones were found whose lines stand at the front of the bytes, whichever
-- conditions are counted, in lines that are those of all claims that are owed then.
abbrev pub AreFound : MonitorParts → List Claim → List ℕ → List Claim → Type 0
AreFound monitor all bytes found =
    (counted : List (Option ℕ)) (certs : List Cert) (more : List ℕ)
    → AreFor (filter (is_owed counted) all) IsReadable certs → IsAfterOnes more
    → proofs_text monitor (filter (is_owed counted) all) certs ++ more ≡ bytes
    → found ≡ filter (is_owed counted) all

-- The claim was added to those before, since its line stands at the front of the bytes; or nothing
-- was, since it doesn't.
abbrev pub IsLineTurn : MonitorParts → Claim → List ℕ → List ℕ → List Claim → List Claim → Type 0
IsLineTurn monitor claim bytes rest before now =
    ((cert : Cert) × IsFront Cert IsReadable Anything (proof_text monitor claim) bytes cert rest
    × (now ≡ before ++ claim ∷ []))
    ⊎ (IsNoFront Cert IsReadable Anything (proof_text monitor claim) bytes × (rest ≡ bytes)
    × (now ≡ before))

-- a claim that one waiter is enough at the condition
abbrev pub is_one_at : ℕ → Claim → Bool
is_one_at number (claims.One condition block) = condition == number
is_one_at number claim = false

abbrev pub is_signal : CondKind → Bool
is_signal kinds.Signal = true
is_signal kinds.Broadcast = false

-- of kind signal, and none of the claims is that one waiter is enough at it
abbrev pub is_left_out : List Claim → ℕ → CondKind → Bool
is_left_out found number kind = is_signal kind && not (list_any (is_one_at number) found)

-- the first row, where a condition is so
abbrev pub first_row_if : Bool → Option ℕ
first_row_if true = Some 1
first_row_if false = None

-- of each condition
abbrev pub left_out : List Claim → List CondKind → List (Option ℕ)
left_out found all_kinds =
    map (λ one. first_row_if (is_left_out found one.0 one.1)) (enumerate_from 1 all_kinds)

-- ---- the lines after those of the plan

-- a readable report of this plan
pub record IsReportWith (monitor : MonitorParts) (plan : Plan) (report : CountedReport) : Type 0
  where
    pub own : report.plan ≡ plan
    pub readable : IsReadableReport monitor report

-- of each condition a row, if it is counted; then it is of kind signal
pub record AreSignals (plan : Plan) (marked : List (Option ℕ)) : Type 0 where
  pub many : length marked ≡ length plan.kinds
  pub signals : (place : ℕ) (row : Option ℕ) → slice_get marked place ≡ Some row
      → is_some row ≡ true → slice_get plan.kinds place ≡ Some kinds.Signal

-- whatever report of the plan has these lines, counts just these conditions, by these rows or by
-- others
pub record AreMarked (monitor : MonitorParts) (plan : Plan) (bytes : List ℕ)
    (marked : List (Option ℕ)) : Type 0 where
  pub are : AreSignals plan marked
  pub only : (report : CountedReport) → IsReportWith monitor plan report
      → owed_text monitor report ≡ bytes → map is_some report.counted ≡ map is_some marked

-- ---- the lines of the questions on one condition

-- the question on the same condition and block by this row
abbrev pub by_row : ℕ → Question → Question
by_row row (questions.Counts condition other block) = questions.Counts condition row block
by_row row (questions.Gives condition other block) = questions.Gives condition row block
by_row row (questions.First condition other block) = questions.First condition row block

-- the condition may be counted by this row, which is a number of its type
pub record IsRowOf (monitor : MonitorParts) (plan : Plan) (condition row : ℕ) : Type 0 where
  pub may : MayBeCounted monitor plan condition row
  pub typed : row < 2 ^ 32

-- what stands in a question's line before its certificate
abbrev pub head_text : MonitorParts → Question → List ℕ
head_text monitor question = codes "proof " ++ question_text monitor question ++ codes ": "

-- the row of the guard that the line of a question names, with which the bytes begin; there is none
abbrev pub IsNamedRow : MonitorParts → ℕ → Question → List ℕ → Option ℕ → Type 0
IsNamedRow monitor condition question bytes (Some row) =
    HasRowAt monitor condition row × (row < 2 ^ 32)
    × ((other : ℕ) (more : List ℕ) → HasRowAt monitor condition other → other < 2 ^ 32
    → head_text monitor (by_row other question) ++ more ≡ bytes → other ≡ row)
IsNamedRow monitor condition question bytes None =
    (other : ℕ) (more : List ℕ) → HasRowAt monitor condition other → other < 2 ^ 32
    → head_text monitor (by_row other question) ++ more ≡ bytes → ⊥

-- the row by which the condition is counted where the lines of its questions begin the bytes, and
-- no other is; there is none
abbrev pub IsShownRow : MonitorParts → Plan → ℕ → List ℕ → Option ℕ → Type 0
IsShownRow monitor plan condition bytes (Some row) =
    IsRowOf monitor plan condition row
    × ((other : ℕ) (certs : List Cert) (more : List ℕ) → IsRowOf monitor plan condition other
    → AreFor (block_questions monitor plan condition other) IsReadable certs
    → answers_text monitor (block_questions monitor plan condition other) certs ++ more ≡ bytes
    → other ≡ row)
IsShownRow monitor plan condition bytes None =
    (other : ℕ) (certs : List Cert) (more : List ℕ) → IsRowOf monitor plan condition other
    → AreFor (block_questions monitor plan condition other) IsReadable certs
    → answers_text monitor (block_questions monitor plan condition other) certs ++ more ≡ bytes → ⊥

-- a condition with the lines of its questions: the row by which it is counted, if it is, and a
-- certificate for each question
pub record Answers : Type 0 where
  pub row : Option ℕ
  pub certs : List Cert

abbrev pub answers_with : Option ℕ → List Cert → Answers
answers_with row certs = record { row = row; certs = certs }

-- the row of a condition that is counted, or none
abbrev pub IsRowIf : MonitorParts → Plan → ℕ → Bool → Option ℕ → Type 0
IsRowIf monitor plan condition true (Some row) = IsRowOf monitor plan condition row
IsRowIf monitor plan condition false None = Unit {0}
IsRowIf monitor plan condition marked row = ⊥

-- a condition that is counted, or isn't, with as many readable certificates as it has questions
pub record AreAnswers (monitor : MonitorParts) (plan : Plan) (condition : ℕ) (marked : Bool)
    (answers : Answers) : Type 0 where
  pub row : IsRowIf monitor plan condition marked answers.row
  pub certs : AreFor (condition_questions monitor plan condition answers.row) IsReadable
      answers.certs

abbrev pub condition_text : MonitorParts → Plan → ℕ → Answers → List ℕ
condition_text monitor plan condition answers =
    answers_text monitor (condition_questions monitor plan condition answers.row) answers.certs

-- such answers of each condition from this number on
abbrev pub AreAllAnswers : MonitorParts → Plan → ℕ → List Bool → List Answers → Type 0
AreAllAnswers monitor plan number [] [] = Unit {0}
AreAllAnswers monitor plan number (mark ∷ marks) (answers ∷ more) =
    AreAnswers monitor plan number mark answers × AreAllAnswers monitor plan (number + 1) marks more
AreAllAnswers monitor plan number marks all = ⊥

abbrev pub all_text : MonitorParts → Plan → ℕ → List Answers → List ℕ
all_text monitor plan number [] = []
all_text monitor plan number (answers ∷ more) =
    condition_text monitor plan number answers ++ all_text monitor plan (number + 1) more

-- the rows, and the certificates one after the other, of answers
abbrev pub answer_rows : List Answers → List (Option ℕ)
answer_rows all = map (λ answers. answers.row) all

abbrev pub answer_certs : List Answers → List Cert
answer_certs all = flat_map (λ answers. answers.certs) all

-- the lines of what is asked of the condition stand at the front of the bytes, with what is read
abbrev pub IsConditionFront : MonitorParts → Plan → ℕ → Bool → List ℕ → Answers → List ℕ → Type 0
IsConditionFront monitor plan condition marked =
    IsFront Answers (AreAnswers monitor plan condition marked) Anything
    (condition_text monitor plan condition)

abbrev pub IsNoConditionFront : MonitorParts → Plan → ℕ → Bool → List ℕ → Type 0
IsNoConditionFront monitor plan condition marked =
    IsNoFront Answers (AreAnswers monitor plan condition marked) Anything
    (condition_text monitor plan condition)

-- those of each condition from this number on
abbrev pub IsRestFront : MonitorParts → Plan → ℕ → List Bool → List ℕ → List Answers → List ℕ
    → Type 0
IsRestFront monitor plan number marks =
    IsFront (List Answers) (AreAllAnswers monitor plan number marks) Anything
    (all_text monitor plan number)

abbrev pub IsNoRestFront : MonitorParts → Plan → ℕ → List Bool → List ℕ → Type 0
IsNoRestFront monitor plan number marks =
    IsNoFront (List Answers) (AreAllAnswers monitor plan number marks) Anything
    (all_text monitor plan number)

-- those of each condition, read as these rows and certificates
pub record AreRead (monitor : MonitorParts) (plan : Plan) (marks : List Bool) (bytes : List ℕ)
    (counted : List (Option ℕ)) (certs : List Cert) (rest : List ℕ) : Type 0 where
  pub all : List Answers
  pub rows_are : counted ≡ answer_rows all
  pub certs_are : certs ≡ answer_certs all
  pub front : IsRestFront monitor plan 1 marks bytes all rest

-- ---- all lines

-- the report of the plan, with conditions marked that are counted and the proofs of the claims, the
-- lines of whose questions the bytes are, and those of no others; there is none
abbrev pub IsWithAnswers : MonitorParts → Plan → List Bool → List Cert → List ℕ
    → Option CountedReport → Type 0
IsWithAnswers monitor plan marks proofs bytes (Some report) =
    (all : List Answers)
    × (report ≡ record {
      plan = plan;
      counted = answer_rows all;
      proofs = proofs;
      answers = answer_certs all;
    })
    × AreAllAnswers monitor plan 1 marks all
    × (all_text monitor plan 1 all ≡ bytes)
    × ((others : List Answers) → AreAllAnswers monitor plan 1 marks others
    → all_text monitor plan 1 others ≡ bytes → others ≡ all)
IsWithAnswers monitor plan marks proofs bytes None =
    (others : List Answers) → AreAllAnswers monitor plan 1 marks others
    → all_text monitor plan 1 others ≡ bytes → ⊥

-- the report of the plan whose lines the bytes are, and no other's; there is none
abbrev pub IsWithLines : MonitorParts → Plan → List ℕ → Option CountedReport → Type 0
IsWithLines monitor plan bytes (Some report) =
    IsReportWith monitor plan report × (owed_text monitor report ≡ bytes)
    × ((other : CountedReport) → IsReportWith monitor plan other
    → owed_text monitor other ≡ bytes → other ≡ report)
IsWithLines monitor plan bytes None =
    (report : CountedReport) → IsReportWith monitor plan report
    → owed_text monitor report ≡ bytes → ⊥

-- ---- columns

-- a column has no more blocks than a monitor may have
abbrev pub IsShortColumn : Option Column → Type 0
IsShortColumn None = Unit {0}
IsShortColumn (Some column) = length column.told ≤ BLOCKS
