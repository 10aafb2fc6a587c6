-- Reports of counted plans: a plan, by which of its rows each counted condition is counted, and one
-- certificate for each claim and each question that it rests on.
use Rattle.std.specs.Prelude.{◌≡◌, ℕ, ◌-◌, ◌+◌, Bool, true, false, not, List, [], ◌∷◌, ◌++◌, length}
use Rattle.std.specs.Prelude.{Option, Some, None, is_some, slice_get, unwrap_or, codes}
use Rattle.std.specs.List.{filter, flat_map, zip, enumerate_from}
use Rattle.logic_cert.specs.declared.cert.Cert.{Cert}
use Rattle.logic_cert.specs.CertText.{cert_text}
use Rattle.lang_monitor.specs.declared.claim.Claim.{Claim}
use Rattle.lang_monitor.specs.declared.claim.Claim.TheVariants as claims
use Rattle.lang_monitor.specs.MonitorParts.{MonitorParts}
use Rattle.machine_events.specs.declared.plan.CondKind.TheVariants as kinds
use Rattle.machine_events.specs.declared.plan.Note.{Note}
use Rattle.machine_events.specs.declared.plan.Plan.{Plan}
use Rattle.machine_events.specs.Plans.{notes_at}
use Rattle.machine_events.specs.PlanText.{plan_text}
use Rattle.plan_claims.specs.Backing.{backed_claims, block_numbers}
use Rattle.plan_place.specs.Relayed.{note_on}
use Rattle.plan_count.specs.declared.question.Question.{Question}
use Rattle.plan_count.specs.declared.question.Question.TheVariants as questions
use Rattle.plan_count.specs.Questions.{HasRowAt}
use Rattle.logic_wp.specs.PlainClaims.{ReadsNone}
use Rattle.report_questions.specs.QuestionText.{question_text}
use Rattle.report_proofs.specs.ReportTexts.{proofs_text}
use Rattle.report_verdict.specs.Reports.{IsPlanOf}
use Rattle.report_tally.specs.declared.report.CountedReport.{CountedReport}

-- ---- what a counted plan rests on

-- Of each condition, the first of which has number 1, the row of its guard by which it is counted,
-- if it is. Rows are numbered from 1 too.
abbrev pub row_at : List (Option ℕ) → ℕ → Option ℕ
row_at counted condition = unwrap_or (slice_get counted (condition - 1)) None

abbrev pub is_counted : List (Option ℕ) → ℕ → Bool
is_counted counted condition = is_some (row_at counted condition)

-- the claim isn't that one waiter is enough at a condition that is counted
abbrev pub is_owed : List (Option ℕ) → Claim → Bool
is_owed counted (claims.One condition block) = not (is_counted counted condition)
is_owed counted claim = true

-- the claims that any plan rests on, but for those
abbrev pub owed_claims : MonitorParts → Plan → List (Option ℕ) → List Claim
owed_claims monitor plan counted = filter (is_owed counted) (backed_claims monitor plan)

-- the questions on a block that has a broadcast, or a signal, on a condition counted by a row
abbrev pub given_questions : ℕ → ℕ → ℕ → Bool → List Question
given_questions condition row block true = []
given_questions condition row block false =
    questions.Gives condition row block ∷ questions.First condition row block ∷ []

-- those on a block that has this note, or none
abbrev pub note_questions : ℕ → ℕ → ℕ → Option Note → List Question
note_questions condition row block None = questions.Counts condition row block ∷ []
note_questions condition row block (Some note) = given_questions condition row block note.all

-- those on each block
abbrev pub block_questions : MonitorParts → Plan → ℕ → ℕ → List Question
block_questions monitor plan condition row =
    flat_map
    (λ block. note_questions condition row block (note_on (notes_at plan block) condition))
    (block_numbers monitor)

-- those on a condition, if it is counted
abbrev pub condition_questions : MonitorParts → Plan → ℕ → Option ℕ → List Question
condition_questions monitor plan condition None = []
condition_questions monitor plan condition (Some row) =
    block_questions monitor plan condition row

-- those on each condition that is counted
abbrev pub owed_questions : MonitorParts → Plan → List (Option ℕ) → List Question
owed_questions monitor plan counted =
    flat_map (λ one. condition_questions monitor plan one.0 one.1) (enumerate_from 1 counted)

-- ---- reports

-- The condition may be counted by this row of its guard. A row that no question names is the first.
pub record MayBeCounted (monitor : MonitorParts) (plan : Plan) (condition row : ℕ) : Type 0 where
  pub kind : slice_get plan.kinds (condition - 1) ≡ Some kinds.Signal
  pub reads_none : ReadsNone monitor condition
  pub has : HasRowAt monitor condition row
  pub named : block_questions monitor plan condition row ≡ [] → row ≡ 1

-- each condition that is counted may be, by its row
pub record AreCounted (monitor : MonitorParts) (plan : Plan) (counted : List (Option ℕ)) : Type 0
  where
    pub many : length counted ≡ length plan.kinds
    pub each : (place row : ℕ) → slice_get counted place ≡ Some (Some row)
        → MayBeCounted monitor plan (1 + place) row

-- the plan is one of the monitor, and each claim and each question that it rests on has one
-- certificate
pub record IsCountedReport (monitor : MonitorParts) (report : CountedReport) : Type 0 where
  pub plan : IsPlanOf monitor report.plan
  pub counted : AreCounted monitor report.plan report.counted
  pub proofs : length report.proofs ≡ length (owed_claims monitor report.plan report.counted)
  pub answers : length report.answers ≡ length (owed_questions monitor report.plan report.counted)

-- each question with its certificate, in the order of the questions
abbrev pub answers_of : MonitorParts → CountedReport → List (Question × Cert)
answers_of monitor report =
    zip (owed_questions monitor report.plan report.counted) report.answers

-- each claim with its certificate, in the order of the claims
abbrev pub owed_proofs : MonitorParts → CountedReport → List (Claim × Cert)
owed_proofs monitor report = zip (owed_claims monitor report.plan report.counted) report.proofs

-- ---- the text of a report

-- `proof counts 2 put: clash 0 1` and a line feed
abbrev pub answer_text : MonitorParts → Question → Cert → List ℕ
answer_text monitor question cert =
    codes "proof " ++ question_text monitor question ++ codes ": " ++ cert_text cert ++ codes "\n"

-- a line for each question with its certificate
abbrev pub answers_text : MonitorParts → List Question → List Cert → List ℕ
answers_text monitor asked certs =
    flat_map (λ one. answer_text monitor one.0 one.1) (zip asked certs)

-- the lines of the claims, then those of the questions
abbrev pub owed_text : MonitorParts → CountedReport → List ℕ
owed_text monitor report =
    proofs_text monitor (owed_claims monitor report.plan report.counted) report.proofs
    ++ answers_text monitor (owed_questions monitor report.plan report.counted) report.answers

-- the text of the plan, then the lines of what it rests on
abbrev pub counted_report_text : MonitorParts → CountedReport → List ℕ
counted_report_text monitor report = plan_text monitor report.plan ++ owed_text monitor report
