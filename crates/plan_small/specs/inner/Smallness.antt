-- For private contracts: what is asked of, and which claims of blocks and conditions are plain.
use Rattle.std.specs.Prelude.{◌≡◌, ℕ, ◌<◌, ◌≤◌, true, length, List, All}
use Rattle.std.specs.List.{list_all}
use Rattle.lang_monitor.specs.declared.candidate.Candidate.{Candidate}
use Rattle.lang_monitor.specs.declared.claim.Claim.TheVariants as claims
use Rattle.lang_monitor.specs.Candidates.{candidates_of}
use Rattle.lang_monitor.specs.MonitorParts.{MonitorParts}
use Rattle.logic_wp.specs.Expressible.{is_expressible}
use Rattle.logic_wp.specs.PlainClaims.{ReadsNone, WaitsAt}
use Rattle.plan_small.specs.Plain.{IsPlainClaim}

-- all candidates of the monitor, each of which has a formula
pub record AreCandidates (monitor : MonitorParts) (all : List Candidate) : Type 0 where
  pub each : all ≡ candidates_of monitor
  pub expressible : list_all is_expressible all ≡ true

-- the claims that the block keeps the candidates
abbrev pub ArePlainToKeep : MonitorParts → ℕ → List Candidate → Type 0
ArePlainToKeep monitor block =
    All (λ candidate. IsPlainClaim monitor (claims.Keeps candidate block))

-- the claims of a block and a condition
pub record IsPlainPair (monitor : MonitorParts) (block condition : ℕ) : Type 0 where
  pub none_needed : IsPlainClaim monitor (claims.NoNote block condition)
  pub no_test : ReadsNone monitor condition → IsPlainClaim monitor (claims.NoTest block condition)
  pub one_enough : ReadsNone monitor condition → WaitsAt monitor block condition
      → IsPlainClaim monitor (claims.One condition block)

-- those of a block and of the first conditions
abbrev pub ArePlainUpTo : MonitorParts → ℕ → ℕ → Type 0
ArePlainUpTo monitor block count =
    (condition : ℕ) → 1 ≤ condition → condition ≤ count → IsPlainPair monitor block condition

-- the claims of a block
pub record IsPlainBlock (monitor : MonitorParts) (block : ℕ) : Type 0 where
  pub keeps : ArePlainToKeep monitor block (candidates_of monitor)
  pub pairs : ArePlainUpTo monitor block (length monitor.conditions)

-- those of the first blocks
abbrev pub ArePlainBelow : MonitorParts → ℕ → Type 0
ArePlainBelow monitor count = (block : ℕ) → block < count → IsPlainBlock monitor block
