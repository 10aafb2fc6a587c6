-- What is asked of blocks, and what is found.
use Rattle.std.specs.Prelude.{◌≡◌, ℕ, ◌<◌, Bool, true, false, List, map, length, All, Option}
use Rattle.std.specs.Prelude.{Some, None}
use Rattle.std.specs.List.{list_all, range_with_len}
use Rattle.lang_monitor.specs.declared.candidate.Candidate.{Candidate}
use Rattle.lang_monitor.specs.declared.claim.Claim.TheVariants as claims
use Rattle.lang_monitor.specs.MonitorParts.{MonitorParts}
use Rattle.lang_monitor.specs.Queries.{keeps_query}
use Rattle.lang_monitor.specs.Triples.{Keeps}
use Rattle.logic_wp.specs.Expressible.{is_expressible}
use Rattle.plan_prune.specs.declared.kept.Kept.{Kept}
use Rattle.plan_prune.specs.Hardness.{MayStayOpen}
use Rattle.plan_prune.specs.Invariants.{Proves, claim_of}

-- ---- what may be asked

-- a candidate with a formula
pub record IsAskable (candidate : Candidate) : Type 0 where
  pub expressible : is_expressible candidate ≡ true

pub record AreAskable (hyps : List Candidate) : Type 0 where
  pub expressible : list_all is_expressible hyps ≡ true

-- ---- of one block

-- the query may not stay open
pub record IsEasyAt (monitor : MonitorParts) (hyps : List Candidate) (candidate : Candidate)
    (block : ℕ) : Type 0 where
  pub closed : MayStayOpen monitor (keeps_query monitor hyps candidate block) → ⊥

-- the proof that the block keeps the candidate under the others
pub record IsProofAt (monitor : MonitorParts) (hyps : List Candidate) (candidate : Candidate)
    (block : ℕ) (proof : Kept) : Type 0 where
  pub claim : claim_of proof ≡ claims.Keeps candidate block
  pub proves : Proves monitor hyps proof
  pub keeps : Keeps monitor hyps candidate block

-- there is none only where the query may stay open, or the block does not keep the candidate
abbrev pub IsFoundAt : MonitorParts → List Candidate → Candidate → ℕ → Option Kept → Type 0
IsFoundAt monitor hyps candidate block (Some proof) = IsProofAt monitor hyps candidate block proof
IsFoundAt monitor hyps candidate block None =
    IsEasyAt monitor hyps candidate block → Keeps monitor hyps candidate block → ⊥

-- ---- of each block

-- the proofs of the first blocks
pub record AreProofsBelow (monitor : MonitorParts) (hyps : List Candidate) (candidate : Candidate)
    (count : ℕ) (proofs : List Kept) : Type 0 where
  pub claims : map claim_of proofs ≡ map (claims.Keeps candidate) (range_with_len 0 count)
  pub each : All (Proves monitor hyps) proofs
  pub keep : (block : ℕ) → block < count → Keeps monitor hyps candidate block

-- each block keeps the candidate
abbrev pub AllKeep : MonitorParts → List Candidate → Candidate → Type 0
AllKeep monitor hyps candidate =
    (block : ℕ) → block < length monitor.blocks → Keeps monitor hyps candidate block

-- each block keeps the candidate, and its query may not stay open
pub record MustStay (monitor : MonitorParts) (hyps : List Candidate) (candidate : Candidate) : Type
    0 where
  pub keep : AllKeep monitor hyps candidate
  pub easy : (block : ℕ) → block < length monitor.blocks → IsEasyAt monitor hyps candidate block

-- the proofs that each block keeps the candidate; there are none only where it need not stay
abbrev pub AreFound : MonitorParts → List Candidate → Candidate → Option (List Kept) → Type 0
AreFound monitor hyps candidate (Some proofs) =
    AreProofsBelow monitor hyps candidate (length monitor.blocks) proofs
AreFound monitor hyps candidate None = MustStay monitor hyps candidate → ⊥

-- ---- what stands

-- a claim that does not stand may stay open, or does not hold
abbrev pub StandsAt : MonitorParts → List Candidate → Candidate → ℕ → Bool → Type 0
StandsAt monitor hyps candidate block true = Unit {0}
StandsAt monitor hyps candidate block false =
    IsEasyAt monitor hyps candidate block → Keeps monitor hyps candidate block → ⊥

-- a candidate that does not stand need not stay
abbrev pub Stands : MonitorParts → List Candidate → Candidate → Bool → Type 0
Stands monitor hyps candidate true = Unit {0}
Stands monitor hyps candidate false = MustStay monitor hyps candidate → ⊥
