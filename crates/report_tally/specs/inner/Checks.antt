-- For private contracts: what is known of questions once their certificates were checked.
use Rattle.std.specs.Prelude.{ℕ, Bool, true, false, List, take, All, Option, Some, None}
use Rattle.std.specs.Prelude.{IsSomeAnd, slice_get}
use Rattle.logic_cert.specs.declared.cert.Cert.{Cert}
use Rattle.lang_monitor.specs.declared.candidate.Candidate.{Candidate}
use Rattle.lang_monitor.specs.MonitorParts.{MonitorParts}
use Rattle.plan_count.specs.declared.question.Question.{Question}
use Rattle.report_tally.specs.CountedVerdicts.{IsAnswered, IsUnanswered}

-- a question with its certificate
abbrev pub with_cert : Question → Cert → Question × Cert
with_cert question cert = (question, cert)

-- whether the certificate answers the question, whose query is negated within the limits
abbrev pub IsCheckOf : MonitorParts → List Candidate → Question → Cert → Bool → Type 0
IsCheckOf monitor kept question cert true = IsAnswered monitor kept (with_cert question cert)
IsCheckOf monitor kept question cert false = IsUnanswered monitor kept (with_cert question cert)

-- the first question that is unanswered is at this place; none is
abbrev pub IsFirstUnanswered : MonitorParts → List Candidate → List (Question × Cert) → Option ℕ
    → Type 0
IsFirstUnanswered monitor kept answers None = All (IsAnswered monitor kept) answers
IsFirstUnanswered monitor kept answers (Some place) =
    All (IsAnswered monitor kept) (take place answers)
    × IsSomeAnd (slice_get answers place) (IsUnanswered monitor kept)
