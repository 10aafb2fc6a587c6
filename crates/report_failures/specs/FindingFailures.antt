-- Why what a finding names has no certificate.
use Rattle.std.specs.Prelude.{◌≡◌, ◌⊎◌, ℕ, List, Option, None}
use Rattle.lang_monitor.specs.declared.candidate.Candidate.{Candidate}
use Rattle.lang_monitor.specs.MonitorParts.{MonitorParts}
use Rattle.lang_monitor.specs.Queries.{one_enough_query, query_of}
use Rattle.machine_events.specs.declared.plan.Plan.{Plan}
use Rattle.plan_count.specs.declared.question.Question.{Question}
use Rattle.plan_count.specs.declared.question.Question.TheVariants as questions
use Rattle.plan_count.specs.Questions.{HasRowAt, question_query}
use Rattle.plan_why.specs.declared.failing.Failure.{Failure}
use Rattle.plan_why.specs.Failures.{IsFailureOf}
use Rattle.report_audit.specs.declared.finding.Finding.{Finding}
use Rattle.report_audit.specs.declared.finding.Finding.TheVariants as findings

-- What was found is a failure of the question's query; or the guard has no such row, and it is one
-- of the query that one waiter is enough after the block. Where nothing was found that query is
-- valid, if it is plain.
abbrev pub IsFailureByRow : MonitorParts → List Candidate → Question → ℕ → ℕ → ℕ → Option Failure
    → Type 0
IsFailureByRow monitor kept question condition row block found =
    (HasRowAt monitor condition row
    × IsFailureOf monitor (question_query monitor kept question) found)
    ⊎ ((HasRowAt monitor condition row → ⊥)
    × IsFailureOf monitor (one_enough_query monitor kept condition block) found)

-- so for the condition, the row and the block of the question
abbrev pub IsQuestionFailure : MonitorParts → List Candidate → Question → Option Failure → Type 0
IsQuestionFailure monitor kept (questions.Counts condition row block) found =
    IsFailureByRow monitor kept (questions.Counts condition row block) condition row block found
IsQuestionFailure monitor kept (questions.Gives condition row block) found =
    IsFailureByRow monitor kept (questions.Gives condition row block) condition row block found
IsQuestionFailure monitor kept (questions.First condition row block) found =
    IsFailureByRow monitor kept (questions.First condition row block) condition row block found

-- what was found is right of the claim or the question that the finding names, under the lines that
-- the plan keeps; of other findings there is nothing
abbrev pub IsFindingFailure : MonitorParts → Plan → Finding → Option Failure → Type 0
IsFindingFailure monitor plan findings.Lawful found = found ≡ None
IsFindingFailure monitor plan (findings.Start kept) found = found ≡ None
IsFindingFailure monitor plan (findings.Kind condition) found = found ≡ None
IsFindingFailure monitor plan (findings.Unproved claim) found =
    IsFailureOf monitor (query_of monitor plan.kept claim) found
IsFindingFailure monitor plan (findings.Uncounted question) found =
    IsQuestionFailure monitor plan.kept question found
