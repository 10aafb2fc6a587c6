-- Exact plans, and licensed plans, which fall short of exact only where a query may stay open under
-- what they keep.
use Rattle.std.specs.Prelude.{◌≡◌, ◌↔◌, ℕ, true, Some, All}
use Rattle.lang_monitor.specs.declared.claim.Claim.{Claim}
use Rattle.lang_monitor.specs.declared.claim.Claim.TheVariants as claims
use Rattle.lang_monitor.specs.MonitorParts.{MonitorParts}
use Rattle.lang_monitor.specs.Queries.{query_of}
use Rattle.lang_monitor.specs.Triples.{NoneNeeded, OneEnough, NoTestNeeded}
use Rattle.machine_events.specs.declared.plan.CondKind.TheVariants as kinds
use Rattle.machine_events.specs.declared.plan.Note.{Note}
use Rattle.machine_events.specs.declared.plan.Plan.{Plan}
use Rattle.machine_events.specs.PlanText.{note_kind}
use Rattle.machine_events.specs.Plans.{condition_kind, has_note, notes_at}
use Rattle.logic_wp.specs.PlainClaims.{IsBlockNumber, IsConditionNumber, ReadsNone, WaitsAt}
use Rattle.plan_prune.specs.Hardness.{MayStayOpen}
use Rattle.plan_prune.specs.Invariants.{ContainsEasy, IsGreatest}

-- each note has its condition's kind
abbrev pub HaveTheirKinds : Plan → Type 0
HaveTheirKinds plan = (block : ℕ)
    → All (λ note. condition_kind plan note.condition
    ≡ Some (note_kind note.all)) (notes_at plan block)

-- the condition's guard reads no inputs, and one waiter is enough after each block that waits at it
pub record MaySignal (monitor : MonitorParts) (plan : Plan) (condition : ℕ) : Type 0 where
  pub reads_none : ReadsNone monitor condition
  pub enough : (block : ℕ) → WaitsAt monitor block condition
      → OneEnough monitor plan.kept condition block

-- the condition of the note reads no inputs, and a test is needed
pub record NeedsTest (monitor : MonitorParts) (plan : Plan) (block : ℕ) (note : Note) : Type 0 where
  pub reads_none : ReadsNone monitor note.condition
  pub needed : NoTestNeeded monitor plan.kept block note.condition → ⊥

pub record IsExact (monitor : MonitorParts) (plan : Plan) : Type 0 where
  -- the greatest invariant is kept
  pub greatest : IsGreatest monitor plan.kept
  -- a block has a note on a condition exactly where one is needed
  pub noted : (block condition : ℕ) → IsBlockNumber monitor block
      → IsConditionNumber monitor condition
      → (has_note (notes_at plan block) condition
      ≡ true) ↔ (NoneNeeded monitor plan.kept block condition → ⊥)
  -- a condition is of kind signal exactly where it may be
  pub signals : (condition : ℕ) → IsConditionNumber monitor condition
      → (condition_kind plan condition ≡ Some kinds.Signal) ↔ MaySignal monitor plan condition
  pub kinds : HaveTheirKinds plan
  -- a note is tested exactly where it needs a test
  pub tested : (block : ℕ) → All (λ note. (note.tested
      ≡ true) ↔ NeedsTest monitor plan block note) (notes_at plan block)

-- the prover may leave the query of the claim open, under what the plan keeps
abbrev pub IsOpenUnder : MonitorParts → Plan → Claim → Type 0
IsOpenUnder monitor plan claim = MayStayOpen monitor (query_of monitor plan.kept claim)

-- some block waits at the condition whose query of one waiter may stay open
pub record HasOpenBlock (monitor : MonitorParts) (plan : Plan) (condition : ℕ) : Type 0 where
  pub block : ℕ
  pub waits : WaitsAt monitor block condition
  pub stays_open : IsOpenUnder monitor plan (claims.One condition block)

pub record IsLicensed (monitor : MonitorParts) (plan : Plan) : Type 0 where
  -- each invariant none of whose queries may stay open is kept
  pub easy_kept : ContainsEasy monitor plan.kept
  -- a note that isn't needed stands only where that query may stay open
  pub noted : (block condition : ℕ) → has_note (notes_at plan block) condition ≡ true
      → NoneNeeded monitor plan.kept block condition
      → IsOpenUnder monitor plan (claims.NoNote block condition)
  -- a condition that may be of kind signal is of kind broadcast only where a query of its blocks
  -- may stay open
  pub broadcasts : (condition : ℕ) → condition_kind plan condition ≡ Some kinds.Broadcast
      → MaySignal monitor plan condition → HasOpenBlock monitor plan condition
  pub kinds : HaveTheirKinds plan
  -- a note that needs no test is tested only where that query may stay open
  pub tested : (block : ℕ) → All (λ note. note.tested ≡ true
      → NoTestNeeded monitor plan.kept block note.condition
      → IsOpenUnder monitor plan (claims.NoTest block note.condition)) (notes_at plan block)
