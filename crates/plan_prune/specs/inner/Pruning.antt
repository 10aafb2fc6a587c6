-- Rounds: what stays of the candidates, and what is known of those that are left.
use Rattle.std.specs.Prelude.{◌≡◌, List, [], ◌∷◌, ◌++◌, length, All}
use Rattle.std.specs.List.{Contains}
use Rattle.lang_monitor.specs.declared.candidate.Candidate.{Candidate}
use Rattle.lang_monitor.specs.Candidates.{AreSomeOf, candidates_of}
use Rattle.lang_monitor.specs.MonitorParts.{MonitorParts}
use Rattle.lang_monitor.specs.Triples.{HoldAtStart}
use Rattle.plan_prune.specs.declared.kept.Kept.{Kept}
use Rattle.plan_prune.specs.declared.rounds.Round.{Round}
use Rattle.plan_prune.specs.Invariants.{AreProofs, ContainsEasy}
use Rattle.plan_prune.specs.inner.Asking.{AllKeep, MustStay}

-- what a round has kept of the candidates before, under these, with its proofs
pub record IsRoundOf (monitor : MonitorParts) (hyps before kept : List Candidate)
    (proofs : List Kept) : Type 0 where
  pub candidates : AreSomeOf kept before
  pub proven : AreProofs monitor hyps kept proofs
  pub keep : All (AllKeep monitor hyps) kept
  pub stay : All (λ candidate. MustStay monitor hyps candidate → Contains kept candidate) before

abbrev pub IsRound : MonitorParts → List Candidate → List Candidate → Round → Type 0
IsRound monitor hyps before round =
    IsRoundOf monitor hyps before round.kept.items round.proofs.items

-- one more candidate is asked for
abbrev pub IsTurn : MonitorParts → List Candidate → Candidate → Round → Round → Type 0
IsTurn monitor hyps candidate round next = (before : List Candidate)
    → IsRound monitor hyps before round → IsRound monitor hyps (before ++ candidate ∷ []) next

-- what is known of the candidates that are left
pub record IsLeft (monitor : MonitorParts) (kept : List Candidate) : Type 0 where
  pub candidates : AreSomeOf kept (candidates_of monitor)
  pub starts : HoldAtStart monitor kept
  pub easy : ContainsEasy monitor kept

-- candidates that are left, with as many lists of grounds
pub record IsSieve {G : Type 0} (monitor : MonitorParts) (kept : List Candidate)
    (grounds : List G) : Type 0 where
  pub left : IsLeft monitor kept
  pub many : length grounds ≡ length kept

-- what is left when a round drops none
pub record IsPruned (monitor : MonitorParts) (round : Round) : Type 0 where
  pub left : IsLeft monitor round.kept.items
  pub last : IsRound monitor round.kept.items round.kept.items round
