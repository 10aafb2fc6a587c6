-- What an audit by counting says of a plan: a condition of kind signal that is not passed on by
-- each of its blocks may be counted.
use Rattle.std.specs.Prelude.{◌≡◌, ◌==◌, ◌⊎◌, ℕ, ◌<◌, ◌≤◌, Bool, true, false, not, ◌&&◌, List}
use Rattle.std.specs.Prelude.{[], ◌∷◌, take, All, slice_get, Some, if◌then◌else◌}
use Rattle.std.specs.List.{filter, flat_map}
use Rattle.logic_cert.specs.declared.cert.Cert.{Cert}
use Rattle.lang_monitor.specs.declared.candidate.Candidate.{Candidate}
use Rattle.lang_monitor.specs.declared.claim.Claim.{Claim}
use Rattle.lang_monitor.specs.declared.claim.Claim.TheVariants as claims
use Rattle.lang_monitor.specs.declared.monitor.Condition.{Condition}
use Rattle.lang_monitor.specs.MonitorParts.{MonitorParts}
use Rattle.lang_monitor.specs.Inputs.{reads_inputs}
use Rattle.lang_monitor.specs.Triples.{Holds, IsInductive}
use Rattle.machine_events.specs.declared.plan.CondKind.TheVariants as kinds
use Rattle.machine_events.specs.declared.plan.Plan.{Plan}
use Rattle.machine_events.specs.Plans.{EachNoteOn, IsCondition, WakesAll, condition_kind}
use Rattle.machine_events.specs.Plans.{has_broadcast, has_note, notes_at}
use Rattle.machine_events.specs.CountClaims.{AreNoted}
use Rattle.machine_events.specs.Counts.{IsLawfulByCounting, IsPassedOn}
use Rattle.logic_wp.specs.PlainClaims.{IsConditionNumber}
use Rattle.plan_claims.specs.Backing.{HasCertificate, backed_claims, block_numbers, waits_at}
use Rattle.plan_place.specs.Exact.{IsOpenUnder}
use Rattle.plan_count.specs.declared.question.Question.{Question}
use Rattle.plan_count.specs.declared.question.Question.TheVariants as questions
use Rattle.plan_count.specs.Questions.{AreToldRight, HasRowAt, IsSo}
use Rattle.plan_counted.specs.Counted.{Certifies, IsOpen, IsTried}
use Rattle.report_verdict.specs.Verdicts.{IsLawfulAtSight}
use Rattle.report_audit.specs.declared.finding.Finding.{Finding}
use Rattle.report_audit.specs.declared.finding.Finding.TheVariants as findings
use Rattle.report_audit.specs.Findings.{IsFinding, IsFirstFalse, IsFirstUnsuited}

-- ---- claims that are asked of any plan

-- that a block keeps a candidate, or needs no note
abbrev pub is_common : Claim → Bool
is_common (claims.Keeps candidate block) = true
is_common (claims.NoNote block condition) = true
is_common (claims.One condition block) = false
is_common (claims.NoTest block condition) = false

-- each kept candidate with each block; each block with each condition on which it has no note
abbrev pub common_claims : MonitorParts → Plan → List Claim
common_claims monitor plan = filter is_common (backed_claims monitor plan)

-- ---- conditions of kind signal: passed on, or counted

-- that one waiter is enough for this condition after a block that has no note on it
abbrev pub is_passing : Plan → ℕ → Claim → Bool
is_passing plan condition (claims.Keeps candidate block) = false
is_passing plan condition (claims.NoNote block other) = false
is_passing plan condition (claims.One other block) =
    (other == condition) && not (has_note (notes_at plan block) condition)
is_passing plan condition (claims.NoTest block other) = false

-- a condition of kind signal with each block that waits at it and has no note on it
abbrev pub passing_claims : MonitorParts → Plan → ℕ → List Claim
passing_claims monitor plan condition =
    filter (is_passing plan condition) (backed_claims monitor plan)

-- whether the block's note is enough, were it a signal; one that waits at the condition can't run
-- where its guard is false
abbrev pub note_questions : MonitorParts → ℕ → ℕ → ℕ → List Question
note_questions monitor condition row block =
    questions.Gives condition row block
    ∷ (if waits_at monitor condition block then [] else questions.First condition row block ∷ [])

-- of a block with a broadcast on the condition nothing is asked
abbrev pub block_questions : MonitorParts → Plan → ℕ → ℕ → ℕ → List Question
block_questions monitor plan condition row block =
    if has_broadcast (notes_at plan block) condition then []
    else if has_note (notes_at plan block) condition
    then note_questions monitor condition row block
    else questions.Counts condition row block ∷ []

-- whether the condition is counted by a row of its guard: of each block in order
abbrev pub counting_questions : MonitorParts → Plan → ℕ → ℕ → List Question
counting_questions monitor plan condition row =
    flat_map (block_questions monitor plan condition row) (block_numbers monitor)

-- what the question asks has a certificate
abbrev pub IsCertified : MonitorParts → List Candidate → Question → Type 0
IsCertified monitor kept question = (cert : Cert) × Certifies monitor kept question cert

-- certificates show that the condition is counted by a row that is tried
pub record IsProvedCounted (monitor : MonitorParts) (plan : Plan) (condition : ℕ) : Type 0 where
  pub row : ℕ
  pub tried : IsTried monitor condition row
  pub certified : All (IsCertified monitor plan.kept)
      (counting_questions monitor plan condition row)

-- they show that, or that it is passed on
abbrev pub IsSignalProved : MonitorParts → Plan → ℕ → Type 0
IsSignalProved monitor plan condition =
    All (HasCertificate monitor plan.kept) (passing_claims monitor plan condition)
    ⊎ IsProvedCounted monitor plan condition

-- ---- what is found

-- nothing is wrong at sight, and this is the first claim without a certificate of those that are
-- asked of any plan
pub record IsFirstCommon (monitor : MonitorParts) (plan : Plan) (claim : Claim) : Type 0 where
  pub sight : IsLawfulAtSight monitor plan
  pub place : ℕ
  pub here : slice_get (common_claims monitor plan) place ≡ Some claim
  pub before : All (HasCertificate monitor plan.kept) (take place (common_claims monitor plan))
  pub unproved : Holds monitor plan.kept claim → IsOpenUnder monitor plan claim

-- this is the first claim without a certificate by which the condition is passed on: it doesn't
-- hold that one waiter is enough after a block that has no note on it, or that query may stay open
pub record IsNotPassedOn (monitor : MonitorParts) (plan : Plan) (condition : ℕ) (claim : Claim) :
    Type 0 where
  pub place : ℕ
  pub here : slice_get (passing_claims monitor plan condition) place ≡ Some claim
  pub before : All (HasCertificate monitor plan.kept)
      (take place (passing_claims monitor plan condition))
  pub unproved : Holds monitor plan.kept claim → IsOpenUnder monitor plan claim

-- this is the first question without a certificate by which the row counts: what it asks is not so,
-- or its query may stay open
pub record IsNotCountedBy (monitor : MonitorParts) (plan : Plan) (condition row : ℕ)
    (question : Question) : Type 0 where
  pub place : ℕ
  pub here : slice_get (counting_questions monitor plan condition row) place ≡ Some question
  pub before : All (IsCertified monitor plan.kept)
      (take place (counting_questions monitor plan condition row))
  pub unproved : IsSo monitor plan.kept question → IsOpen monitor plan.kept question

-- by no row that is tried the condition is counted
abbrev pub IsUncounted : MonitorParts → Plan → ℕ → Type 0
IsUncounted monitor plan condition =
    (row : ℕ) → IsTried monitor condition row
    → (question : Question) × IsNotCountedBy monitor plan condition row question

abbrev pub block_of : Claim → ℕ
block_of (claims.Keeps candidate block) = block
block_of (claims.NoNote block condition) = block
block_of (claims.One condition block) = block
block_of (claims.NoTest block condition) = block

-- the question that is named of a condition that is not passed on, as this claim says: the first
-- without a certificate by the first row; where the guard has none, of the block of the claim
abbrev pub IsNamed : MonitorParts → Plan → ℕ → Claim → Question → Type 0
IsNamed monitor plan condition claim question =
    (HasRowAt monitor condition 1 × IsNotCountedBy monitor plan condition 1 question)
    ⊎ ((HasRowAt monitor condition 1 → ⊥)
    × (question ≡ questions.Counts condition 1 (block_of claim)))

-- nothing else is wrong, and this question is named of the first condition of kind signal that is
-- neither passed on nor counted
pub record IsFirstUncounted (monitor : MonitorParts) (plan : Plan) (question : Question) : Type 0
  where
    pub sight : IsLawfulAtSight monitor plan
    pub common : All (HasCertificate monitor plan.kept) (common_claims monitor plan)
    pub condition : ℕ
    pub there : IsConditionNumber monitor condition
    pub kind : condition_kind plan condition ≡ Some kinds.Signal
    pub earlier : (other : ℕ) → 1 ≤ other → other < condition
        → condition_kind plan other ≡ Some kinds.Signal → IsSignalProved monitor plan other
    pub claim : Claim
    pub other_way : IsNotPassedOn monitor plan condition claim
    pub uncounted : IsUncounted monitor plan condition
    pub named : IsNamed monitor plan condition claim question

-- by a row that is tried the blocks' notes are as many as the clients that they let pass
pub record IsCountedByTried (monitor : MonitorParts) (plan : Plan) (condition : ℕ) : Type 0 where
  pub row : ℕ
  pub tried : IsTried monitor condition row
  pub told : AreToldRight monitor plan condition row

-- lawful by valid triples alone, where a condition of kind signal may also be counted by a row of
-- its guard that is tried
pub record IsLawfulByRows (monitor : MonitorParts) (plan : Plan) : Type 0 where
  pub inductive : IsInductive monitor plan.kept
  pub noted : AreNoted monitor plan
  pub reading : (number : ℕ) (condition : Condition) → IsCondition monitor number condition
      → reads_inputs condition.guard ≡ true → WakesAll plan number
  pub broadcasts : (condition : ℕ) → condition_kind plan condition ≡ Some kinds.Broadcast
      → EachNoteOn plan condition (λ note. note.all ≡ true)
  pub signals : (number : ℕ) (condition : Condition) → IsCondition monitor number condition
      → condition_kind plan number ≡ Some kinds.Signal
      → IsPassedOn monitor plan number ⊎ IsCountedByTried monitor plan number

-- the plan is lawful by counting, as certificates show
pub record IsProvedByCounting (monitor : MonitorParts) (plan : Plan) : Type 0 where
  pub lawful : IsLawfulByRows monitor plan
  pub counting : IsLawfulByCounting monitor plan
  pub common : All (HasCertificate monitor plan.kept) (common_claims monitor plan)
  pub signals : (condition : ℕ) → IsConditionNumber monitor condition
      → condition_kind plan condition ≡ Some kinds.Signal → IsSignalProved monitor plan condition

-- what a finding says of a plan whose signals may be counted
abbrev pub IsCountedFinding : MonitorParts → Plan → Finding → Type 0
IsCountedFinding monitor plan findings.Lawful = IsProvedByCounting monitor plan
IsCountedFinding monitor plan (findings.Start kept) = IsFirstFalse monitor plan kept
IsCountedFinding monitor plan (findings.Kind condition) = IsFirstUnsuited monitor plan condition
IsCountedFinding monitor plan (findings.Unproved claim) = IsFirstCommon monitor plan claim
IsCountedFinding monitor plan (findings.Uncounted question) =
    IsFirstUncounted monitor plan question

-- whether signals may be counted
abbrev pub IsFindingBy : Bool → MonitorParts → Plan → Finding → Type 0
IsFindingBy false = IsFinding
IsFindingBy true = IsCountedFinding
