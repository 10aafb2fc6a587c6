-- Queries that may stay open are of hard claims, and easy queries are not.
use Rattle.std.proofs.Common.{◌≡◌, Bool, true, false, List, refl}
use Rattle.std.proofs.lemmas.Bool.{and_parts}
use Rattle.logic_linear.specs.Differences.{has_difference_rows}
use Rattle.lang_monitor.specs.declared.candidate.Candidate.{Candidate}
use Rattle.lang_monitor.specs.declared.claim.Claim.{Claim}
use Rattle.lang_monitor.specs.Candidates.{candidates_of}
use Rattle.lang_monitor.specs.MonitorParts.{MonitorParts}
use Rattle.lang_monitor.specs.Queries.{query_of}
use Rattle.logic_solve.proofs.CubeLemmas.{no_general_cube}
use Rattle.logic_wp.specs.PlainClaims.{is_plain, is_within_limits}
use Rattle.logic_wp.specs.NegatedQueries.{negated_query}
use Rattle.logic_wp.proofs.FewerKept.{fewer_no_harder, fewer_within}
use Rattle.plan_prune.specs.Hardness.{HasNoHardClaim, HasNoOpenClaim, IsHard, MayBeKept, MayStayOpen, limits, heavy, fractions, beyond_limits, heavy_cube, fractional_cube}

pub open_hard : (monitor : MonitorParts) (claim : Claim) (kept : List Candidate) → MayBeKept monitor kept
    → MayStayOpen monitor (query_of monitor kept claim) → IsHard monitor claim
open_hard monitor claim kept may (limits beyond) = beyond_limits (by_test (is_within_limits monitor (query_of monitor (candidates_of monitor) claim)) refl)
  where
    by_test : (within : Bool) → is_within_limits monitor (query_of monitor (candidates_of monitor) claim) ≡ within → within ≡ false
    by_test false is = refl
    by_test true is = let fewer = fewer_within monitor claim kept (candidates_of monitor) may.candidates is in absurd cc
open_hard monitor claim kept may (heavy has) = heavy_cube kept may has
open_hard monitor claim kept may (fractions has) = fractional_cube kept may has

pub none_open : (monitor : MonitorParts) (kept : List Candidate) → MayBeKept monitor kept → HasNoHardClaim monitor → HasNoOpenClaim monitor kept
none_open monitor kept may none = λ claim is open_query. none claim is (open_hard monitor claim kept may open_query)

plain_parts : (monitor : MonitorParts) (claim : Claim) (kept : List Candidate) → is_plain monitor (query_of monitor kept claim) ≡ true
    → (is_within_limits monitor (query_of monitor kept claim) ≡ true) × (has_difference_rows (negated_query monitor (query_of monitor kept claim)) ≡ true)
plain_parts monitor claim kept e =
    and_parts (is_within_limits monitor (query_of monitor kept claim)) (has_difference_rows (negated_query monitor (query_of monitor kept claim))) e

pub plain_not_hard : (monitor : MonitorParts) (claim : Claim) → is_plain monitor (query_of monitor (candidates_of monitor) claim) ≡ true → IsHard monitor claim → ⊥
plain_not_hard monitor claim easy (beyond_limits beyond) = let parts = plain_parts monitor claim (candidates_of monitor) easy in let within = parts.0 in cc
plain_not_hard monitor claim easy (heavy_cube kept may has) =
    no_general_cube (negated_query monitor (query_of monitor kept claim)) has.cube
    (plain_parts monitor claim kept (fewer_no_harder monitor claim kept (candidates_of monitor) may.candidates easy)).1 has.is_cube has.general
plain_not_hard monitor claim easy (fractional_cube kept may has) =
    no_general_cube (negated_query monitor (query_of monitor kept claim)) has.cube
    (plain_parts monitor claim kept (fewer_no_harder monitor claim kept (candidates_of monitor) may.candidates easy)).1 has.is_cube has.general
