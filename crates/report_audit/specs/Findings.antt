-- What an audit of a plan says.
use Rattle.std.specs.Prelude.{◌≡◌, ℕ, ◌<◌, ◌≤◌, Bool, true, false, not, List, take, All, slice_get}
use Rattle.std.specs.Prelude.{IsSomeAnd, Some}
use Rattle.std.specs.List.{filter}
use Rattle.lang_monitor.specs.declared.claim.Claim.{Claim}
use Rattle.lang_monitor.specs.declared.claim.Claim.TheVariants as claims
use Rattle.lang_monitor.specs.declared.monitor.Condition.{Condition}
use Rattle.lang_monitor.specs.Inputs.{reads_inputs}
use Rattle.lang_monitor.specs.MonitorParts.{MonitorParts}
use Rattle.lang_monitor.specs.Triples.{HoldAtStart, Holds, IsFalseAtStart}
use Rattle.machine_events.specs.declared.plan.CondKind.TheVariants as kinds
use Rattle.machine_events.specs.declared.plan.Plan.{Plan}
use Rattle.machine_events.specs.Plans.{EachNoteOn, IsCondition, IsLawful, WakesAll, condition_kind}
use Rattle.machine_events.specs.Plans.{has_note, notes_at}
use Rattle.logic_wp.specs.PlainClaims.{IsConditionNumber}
use Rattle.plan_claims.specs.Backing.{HasCertificate, backed_claims}
use Rattle.plan_place.specs.Exact.{IsOpenUnder}
use Rattle.report_verdict.specs.Verdicts.{IsLawfulAtSight}
use Rattle.report_audit.specs.declared.finding.Finding.{Finding}
use Rattle.report_audit.specs.declared.finding.Finding.TheVariants as findings

-- ---- faults that are seen without a proof

-- the kept candidate at this place, counted from 0, is the first that is false at some start
pub record IsFirstFalse (monitor : MonitorParts) (plan : Plan) (place : ℕ) : Type 0 where
  pub here : IsSomeAnd (slice_get plan.kept place) (IsFalseAtStart monitor)
  pub before : HoldAtStart monitor (take place plan.kept)

-- what a lawful plan owes at a condition without a proof: its kind and the notes on it suit it
pub record IsSuited (monitor : MonitorParts) (plan : Plan) (number : ℕ) : Type 0 where
  -- where its guard reads inputs it is of kind broadcast, and has only untested broadcasts
  pub reading : (condition : Condition) → IsCondition monitor number condition
      → reads_inputs condition.guard ≡ true → WakesAll plan number
  -- where it is of kind broadcast it has only broadcasts
  pub broadcasts : condition_kind plan number ≡ Some kinds.Broadcast
      → EachNoteOn plan number (λ note. note.all ≡ true)

-- what is kept is true at the start, and this is the first condition that isn't suited
pub record IsFirstUnsuited (monitor : MonitorParts) (plan : Plan) (number : ℕ) : Type 0 where
  pub starts : HoldAtStart monitor plan.kept
  pub there : IsConditionNumber monitor number
  pub here : IsSuited monitor plan number → ⊥
  pub before : (other : ℕ) → 1 ≤ other → other < number → IsSuited monitor plan other

-- ---- claims

-- a claim of a plan is asked, unless it is of an untested note, or of a block with a note on the
-- condition at which it waits: those notes are always allowed
abbrev pub is_asked : Plan → Claim → Bool
is_asked plan (claims.Keeps candidate block) = true
is_asked plan (claims.NoNote block condition) = true
is_asked plan (claims.One condition block) = not (has_note (notes_at plan block) condition)
is_asked plan (claims.NoTest block condition) = false

-- The claims that are asked of a plan, in the order of those that it rests on: each kept candidate
-- with each block; each block with each condition on which it has no note; each condition of kind
-- signal with each block that waits at it and has no note on it.
abbrev pub asked_claims : MonitorParts → Plan → List Claim
asked_claims monitor plan = filter (is_asked plan) (backed_claims monitor plan)

-- nothing is wrong at sight, and this is the first claim without a certificate: it does not hold,
-- or its query may stay open under what the plan keeps
pub record IsFirstUnproved (monitor : MonitorParts) (plan : Plan) (claim : Claim) : Type 0 where
  pub sight : IsLawfulAtSight monitor plan
  pub place : ℕ
  pub here : slice_get (asked_claims monitor plan) place ≡ Some claim
  pub before : All (HasCertificate monitor plan.kept) (take place (asked_claims monitor plan))
  pub unproved : Holds monitor plan.kept claim → IsOpenUnder monitor plan claim

-- the plan is lawful, and each claim that is asked of it has a certificate
pub record IsProved (monitor : MonitorParts) (plan : Plan) : Type 0 where
  pub lawful : IsLawful monitor plan
  pub claims : All (HasCertificate monitor plan.kept) (asked_claims monitor plan)

-- ---- findings

-- what a finding says of a plan; where signals aren't counted no question is asked
abbrev pub IsFinding : MonitorParts → Plan → Finding → Type 0
IsFinding monitor plan findings.Lawful = IsProved monitor plan
IsFinding monitor plan (findings.Start kept) = IsFirstFalse monitor plan kept
IsFinding monitor plan (findings.Kind condition) = IsFirstUnsuited monitor plan condition
IsFinding monitor plan (findings.Unproved claim) = IsFirstUnproved monitor plan claim
IsFinding monitor plan (findings.Uncounted question) = ⊥
