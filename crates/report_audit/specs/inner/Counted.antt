-- For private contracts: what is known of questions and conditions once the prover was asked.
use Rattle.std.specs.Prelude.{◌≡◌, ℕ, ◌<◌, ◌≤◌, Bool, true, false, List, take, All, Option}
use Rattle.std.specs.Prelude.{Some, None, slice_get}
use Rattle.lang_monitor.specs.declared.candidate.Candidate.{Candidate}
use Rattle.lang_monitor.specs.declared.claim.Claim.{Claim}
use Rattle.lang_monitor.specs.MonitorParts.{MonitorParts}
use Rattle.machine_events.specs.declared.plan.CondKind.TheVariants as kinds
use Rattle.machine_events.specs.declared.plan.Plan.{Plan}
use Rattle.machine_events.specs.Plans.{condition_kind}
use Rattle.logic_wp.specs.PlainClaims.{IsConditionNumber}
use Rattle.plan_count.specs.declared.question.Question.{Question}
use Rattle.plan_count.specs.Questions.{IsSo}
use Rattle.plan_counted.specs.Counted.{IsOpen, IsTried}
use Rattle.report_audit.specs.CountedFindings.{IsCertified, IsNamed, IsNotCountedBy, IsNotPassedOn}
use Rattle.report_audit.specs.CountedFindings.{IsProvedCounted, IsSignalProved, IsUncounted}
use Rattle.report_audit.specs.CountedFindings.{counting_questions}

-- what a question asks is so only where its query may stay open
abbrev pub IsUnanswered : MonitorParts → List Candidate → Question → Type 0
IsUnanswered monitor kept question = IsSo monitor kept question → IsOpen monitor kept question

-- the question has a certificate, or is unanswered
abbrev pub IsReply : MonitorParts → List Candidate → Question → Bool → Type 0
IsReply monitor kept question true = IsCertified monitor kept question
IsReply monitor kept question false = IsUnanswered monitor kept question

-- the first question by the row without a certificate, or none
abbrev pub IsByRow : MonitorParts → Plan → ℕ → ℕ → Option Question → Type 0
IsByRow monitor plan condition row None =
    All (IsCertified monitor plan.kept) (counting_questions monitor plan condition row)
IsByRow monitor plan condition row (Some question) =
    IsNotCountedBy monitor plan condition row question

-- this question is the first of these without a certificate
pub record IsUnansweredAt (monitor : MonitorParts) (kept : List Candidate)
    (questions : List Question) (question : Question) : Type 0 where
  pub place : ℕ
  pub here : slice_get questions place ≡ Some question
  pub before : All (IsCertified monitor kept) (take place questions)
  pub unproved : IsUnanswered monitor kept question

-- the first of these questions without a certificate, or none
abbrev pub IsFirstUnanswered : MonitorParts → List Candidate → List Question → Option Question
    → Type 0
IsFirstUnanswered monitor kept questions None = All (IsCertified monitor kept) questions
IsFirstUnanswered monitor kept questions (Some question) =
    IsUnansweredAt monitor kept questions question

-- the condition is counted by a row after the first, or by none that is tried
abbrev pub IsByOthers : MonitorParts → Plan → ℕ → Bool → Type 0
IsByOthers monitor plan condition true = IsProvedCounted monitor plan condition
IsByOthers monitor plan condition false =
    (row : ℕ) → 1 < row → IsTried monitor condition row
    → (question : Question) × IsNotCountedBy monitor plan condition row question

-- the condition, which is not passed on, as this claim says, is counted, or this question is named
abbrev pub IsByRows : MonitorParts → Plan → ℕ → Claim → Option Question → Type 0
IsByRows monitor plan condition claim None = IsProvedCounted monitor plan condition
IsByRows monitor plan condition claim (Some question) =
    IsUncounted monitor plan condition × IsNamed monitor plan condition claim question

-- the condition is of kind signal, neither passed on nor counted, and this question is named of it
pub record IsUncountedBy (monitor : MonitorParts) (plan : Plan) (condition : ℕ)
    (question : Question) : Type 0 where
  pub kind : condition_kind plan condition ≡ Some kinds.Signal
  pub claim : Claim
  pub other_way : IsNotPassedOn monitor plan condition claim
  pub uncounted : IsUncounted monitor plan condition
  pub named : IsNamed monitor plan condition claim question

abbrev pub IsUncountedAt : MonitorParts → Plan → ℕ → Option Question → Type 0
IsUncountedAt monitor plan condition None =
    condition_kind plan condition ≡ Some kinds.Signal → IsSignalProved monitor plan condition
IsUncountedAt monitor plan condition (Some question) =
    IsUncountedBy monitor plan condition question

-- each condition below this one of kind signal is passed on or counted
abbrev pub AreSignalsProved : MonitorParts → Plan → ℕ → Type 0
AreSignalsProved monitor plan end =
    (condition : ℕ) → 1 ≤ condition → condition < end
    → condition_kind plan condition ≡ Some kinds.Signal → IsSignalProved monitor plan condition

-- the first such condition that is uncounted
pub record IsFirstUncountedBy (monitor : MonitorParts) (plan : Plan) (question : Question) : Type 0
  where
    pub condition : ℕ
    pub there : IsConditionNumber monitor condition
    pub earlier : AreSignalsProved monitor plan condition
    pub here : IsUncountedBy monitor plan condition question

abbrev pub IsFirstFound : MonitorParts → Plan → Option Question → Type 0
IsFirstFound monitor plan None =
    (condition : ℕ) → IsConditionNumber monitor condition
    → condition_kind plan condition ≡ Some kinds.Signal → IsSignalProved monitor plan condition
IsFirstFound monitor plan (Some question) = IsFirstUncountedBy monitor plan question
