-- What is known of a plan once the prover has answered.
use Rattle.std.specs.Prelude.{◌≡◌, ℕ, ◌-◌, ◌≤◌, true, not, List, ◌∷◌, [], ◌++◌, map, length, Option}
use Rattle.std.specs.Prelude.{Some, None, slice_get, All}
use Rattle.std.specs.List.{list_all, filter, enumerate_from, range_with_len}
use Rattle.lang_monitor.specs.declared.candidate.Candidate.{Candidate}
use Rattle.lang_monitor.specs.declared.claim.Claim.{Claim}
use Rattle.lang_monitor.specs.declared.claim.Claim.TheVariants as claims
use Rattle.lang_monitor.specs.MonitorParts.{MonitorParts}
use Rattle.lang_monitor.specs.Queries.{query_of}
use Rattle.lang_monitor.specs.Triples.{Holds}
use Rattle.machine_events.specs.declared.plan.CondKind.{CondKind}
use Rattle.machine_events.specs.declared.plan.CondKind.TheVariants as kinds
use Rattle.machine_events.specs.declared.plan.Note.{Note}
use Rattle.machine_events.specs.declared.plan.Plan.{Plan}
use Rattle.machine_events.specs.PlanText.{note_kind}
use Rattle.machine_events.specs.Plans.{has_note}
use Rattle.machine_events.specs.Rising.{AreRising}
use Rattle.logic_wp.specs.Expressible.{is_expressible}
use Rattle.logic_wp.specs.PlainClaims.{IsConditionNumber, ReadsNone, WaitsAt}
use Rattle.plan_prune.specs.Hardness.{HasNoHardClaim, MayStayOpen}
use Rattle.plan_prune.specs.Invariants.{ContainsEasy, IsGreatest, IsInvariant}
use Rattle.plan_prune.specs.declared.kept.Kept.{Kept}
use Rattle.plan_claims.specs.declared.placed.Proof.{Proof}
use Rattle.plan_claims.specs.Backing.{AreProofs, Certifies, IsBacked, kind_claims}

-- ---- one claim

-- the claim holds only where its query may stay open
abbrev pub IsUnproved : MonitorParts → List Candidate → Claim → Type 0
IsUnproved monitor kept claim =
    Holds monitor kept claim → MayStayOpen monitor (query_of monitor kept claim)

-- a proof of the claim, or none
abbrev pub IsAnswerTo : MonitorParts → List Candidate → Claim → Option Proof → Type 0
IsAnswerTo monitor kept claim (Some proof) =
    (proof.claim ≡ claim) × Certifies monitor kept proof.claim proof.cert
IsAnswerTo monitor kept claim None = IsUnproved monitor kept claim

-- candidates of which queries are made
pub record AreAskable (kept : List Candidate) : Type 0 where
  pub expressible : list_all is_expressible kept ≡ true

-- proofs of these claims were added to those that were there
abbrev pub Adds : MonitorParts → List Candidate → List Claim → List Proof → List Proof → Type 0
Adds monitor kept added before now =
    (wanted : List Claim) → AreProofs monitor kept wanted before
    → AreProofs monitor kept (wanted ++ added) now

-- ---- kinds

-- some block that waits at the condition isn't proved to leave one waiter enough
pub record HasUnproved (monitor : MonitorParts) (kept : List Candidate) (condition : ℕ) : Type 0
  where
    pub block : ℕ
    pub waits : WaitsAt monitor block condition
    pub unproved : IsUnproved monitor kept (claims.One condition block)

-- a condition is of this kind; where it is signal, the claims are proved beside it
abbrev pub IsKindOf : MonitorParts → List Candidate → ℕ → CondKind → Type 0
IsKindOf monitor kept condition kinds.Signal = ReadsNone monitor condition
IsKindOf monitor kept condition kinds.Broadcast =
    ReadsNone monitor condition → HasUnproved monitor kept condition

-- proofs that one waiter is enough after each block that waits at the condition, or one that has
-- none
abbrev pub AreOfClass : MonitorParts → List Candidate → ℕ → Option (List Proof) → Type 0
AreOfClass monitor kept condition (Some proofs) =
    AreProofs monitor kept (kind_claims monitor condition kinds.Signal) proofs
AreOfClass monitor kept condition None = HasUnproved monitor kept condition

-- ---- notes

-- a tested note is on a condition that reads no inputs, and isn't proved to need no test
pub record IsTested (monitor : MonitorParts) (kept : List Candidate) (block condition : ℕ) : Type 0
  where
    pub reads_none : ReadsNone monitor condition
    pub unproved : IsUnproved monitor kept (claims.NoTest block condition)

-- a note of a block, where conditions are of these kinds
pub record IsNote (monitor : MonitorParts) (kept : List Candidate) (all_kinds : List CondKind)
    (block : ℕ) (note : Note) : Type 0 where
  pub on : IsConditionNumber monitor note.condition
  pub kind : slice_get all_kinds (note.condition - 1) ≡ Some (note_kind note.all)
  pub needed : IsUnproved monitor kept (claims.NoNote block note.condition)
  pub tests : note.tested ≡ true → IsTested monitor kept block note.condition

-- a note that was made for a condition, before it is known to be needed
pub record IsMade (monitor : MonitorParts) (kept : List Candidate) (all_kinds : List CondKind)
    (block condition : ℕ) (note : Note) : Type 0 where
  pub on : note.condition ≡ condition
  pub kind : slice_get all_kinds (condition - 1) ≡ Some (note_kind note.all)
  pub tests : note.tested ≡ true → IsTested monitor kept block condition

-- the notes of a block on so many conditions, the first ones
pub record AreNotes (monitor : MonitorParts) (kept : List Candidate) (all_kinds : List CondKind)
    (block count : ℕ) (notes : List Note) : Type 0 where
  pub rising : AreRising notes
  pub below : All (λ note. note.condition ≤ count) notes
  pub each : All (IsNote monitor kept all_kinds block) notes

-- a block with each of so many conditions, the first ones, on which it has no note
abbrev pub unnoted_up_to : ℕ → ℕ → List Note → List Claim
unnoted_up_to block count notes =
    map (claims.NoNote block)
    (filter (λ condition. not (has_note notes condition)) (range_with_len 1 count))

-- a block with a condition, where there is no note
abbrev pub unnoted_claim : ℕ → ℕ → Option Note → List Claim
unnoted_claim block condition None = claims.NoNote block condition ∷ []
unnoted_claim block condition (Some note) = []

-- ---- plans

-- the kinds of conditions, the first of which has number 1
abbrev pub AreKinds : MonitorParts → List Candidate → List CondKind → Type 0
AreKinds monitor kept all_kinds =
    All (λ one. IsKindOf monitor kept one.0 one.1) (enumerate_from 1 all_kinds)

-- the notes of blocks, the first of which has number 0
abbrev pub AreNotesOfEach : MonitorParts → List Candidate → List CondKind → List (List Note)
    → Type 0
AreNotesOfEach monitor kept all_kinds lists =
    All (λ one. AreNotes monitor kept all_kinds one.0 (length monitor.conditions) one.1)
    (enumerate_from 0 lists)

-- what the answers make of a plan
pub record IsAnswered (monitor : MonitorParts) (plan : Plan) : Type 0 where
  pub invariant : IsInvariant monitor plan.kept
  pub easy_kept : ContainsEasy monitor plan.kept
  pub greatest : HasNoHardClaim monitor → IsGreatest monitor plan.kept
  pub many_kinds : length plan.kinds ≡ length monitor.conditions
  pub many_notes : length plan.notes ≡ length monitor.blocks
  pub kinds : AreKinds monitor plan.kept plan.kinds
  pub notes : AreNotesOfEach monitor plan.kept plan.kinds plan.notes
  pub backed : IsBacked monitor plan

-- the proof that a block keeps a candidate
abbrev pub proof_of_kept : Kept → Proof
proof_of_kept kept = record { claim = claims.Keeps kept.candidate kept.block; cert = kept.cert }
