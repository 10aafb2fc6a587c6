-- Hard claims, whose query the prover may leave open, and small monitors, whose claims have none.
use Rattle.std.specs.Prelude.{◌≡◌, pos, ◌≤ℤ◌, true, false, List}
use Rattle.std.specs.List.{list_all, AllByRecursion as Each}
use Rattle.logic_linear.specs.declared.formula.Formula.{Formula}
use Rattle.logic_linear.specs.Fractions.{HasFractionalSolution}
use Rattle.logic_linear.specs.LightCubes.{IsLightCube}
use Rattle.logic_linear.specs.Linear.{Linear}
use Rattle.logic_linear.specs.Truth.{Valuation, value_of}
use Rattle.logic_cert.specs.declared.cert.Literal.{Literal}
use Rattle.logic_solve.specs.Cubes.{HasGeneral, HasNoClash, IsCubeOf, rows_of_literals}
use Rattle.lang_monitor.specs.declared.candidate.Candidate.{Candidate}
use Rattle.lang_monitor.specs.declared.claim.Claim.{Claim}
use Rattle.lang_monitor.specs.declared.query.Query.{Query}
use Rattle.lang_monitor.specs.Candidates.{AreSomeOf, candidates_of}
use Rattle.lang_monitor.specs.MonitorParts.{MonitorParts}
use Rattle.lang_monitor.specs.Queries.{query_of}
use Rattle.lang_monitor.specs.Triples.{HoldAtStart}
use Rattle.logic_wp.specs.PlainClaims.{IsClaimOf, is_simple_block, is_within_limits}
use Rattle.logic_wp.specs.NegatedQueries.{negated_query}

-- ---- cubes that the prover may leave open

-- a row that is no difference row, in a cube without a clash that isn't light
pub record HasHeavyCube (formula : Formula) : Type 0 where
  pub cube : List Literal
  pub is_cube : IsCubeOf formula cube
  pub no_clash : HasNoClash cube
  pub general : HasGeneral cube
  pub heavy : IsLightCube (rows_of_literals cube) → ⊥

-- each row holds where each variable is this whole number
abbrev pub HoldInWhole : List Linear → Valuation → Type 0
HoldInWhole rows v = Each (λ (row : Linear). value_of v row ≤ℤ pos 0) rows

-- a row that is no difference row, in a light cube without a clash that has a solution in fractions
-- and none in whole numbers
pub record HasFractionalCube (formula : Formula) : Type 0 where
  pub cube : List Literal
  pub is_cube : IsCubeOf formula cube
  pub no_clash : HasNoClash cube
  pub general : HasGeneral cube
  pub light : IsLightCube (rows_of_literals cube)
  pub fractions : HasFractionalSolution (rows_of_literals cube)
  pub none_whole : (v : Valuation) → HoldInWhole (rows_of_literals cube) v → ⊥

-- ---- queries and claims

-- why the prover may leave a query open, by its own hypotheses
pub data MayStayOpen (monitor : MonitorParts) (query : Query) : Type 0 where
  limits : is_within_limits monitor query ≡ false → MayStayOpen monitor query
  heavy : HasHeavyCube (negated_query monitor query) → MayStayOpen monitor query
  fractions : HasFractionalCube (negated_query monitor query) → MayStayOpen monitor query

-- some of the monitor's candidates, all true at the start, whatever it is opened with
pub record MayBeKept (monitor : MonitorParts) (kept : List Candidate) : Type 0 where
  pub candidates : AreSomeOf kept (candidates_of monitor)
  pub starts : HoldAtStart monitor kept

-- why a claim is hard: candidates may be kept with which its query may stay open
pub data IsHard (monitor : MonitorParts) (claim : Claim) : Type 0 where
  -- with all candidates kept, its query is not negated within the limits
  beyond_limits : is_within_limits monitor (query_of monitor (candidates_of monitor) claim) ≡ false
      → IsHard monitor claim
  -- with some that may be kept, its negated query has a heavy cube
  heavy_cube : (kept : List Candidate) → MayBeKept monitor kept
      → HasHeavyCube (negated_query monitor (query_of monitor kept claim))
      → IsHard monitor claim
  -- with some that may be kept, its negated query has a cube with a solution in fractions alone
  fractional_cube : (kept : List Candidate) → MayBeKept monitor kept
      → HasFractionalCube (negated_query monitor (query_of monitor kept claim))
      → IsHard monitor claim

-- ---- monitors

-- no claim of the monitor is hard
abbrev pub HasNoHardClaim : MonitorParts → Type 0
HasNoHardClaim monitor = (claim : Claim) → IsClaimOf monitor claim → IsHard monitor claim → ⊥

-- with these candidates kept, no query of a claim of the monitor may stay open
abbrev pub HasNoOpenClaim : MonitorParts → List Candidate → Type 0
HasNoOpenClaim monitor kept = (claim : Claim) → IsClaimOf monitor claim
    → MayStayOpen monitor (query_of monitor kept claim) → ⊥

-- blocks are simple, and no claim is hard
pub record IsSmall (monitor : MonitorParts) : Type 0 where
  pub simple : list_all is_simple_block monitor.blocks ≡ true
  pub easy : HasNoHardClaim monitor
