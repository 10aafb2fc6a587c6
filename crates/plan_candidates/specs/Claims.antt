-- What is claimed of candidates that are kept.
use Rattle.std.specs.Prelude.{List, map, length}
use Rattle.std.specs.List.{flat_map, range_with_len}
use Rattle.lang_monitor.specs.declared.candidate.Candidate.{Candidate}
use Rattle.lang_monitor.specs.declared.claim.Claim.{Claim}
use Rattle.lang_monitor.specs.declared.claim.Claim.TheVariants as claims
use Rattle.lang_monitor.specs.MonitorParts.{MonitorParts}

-- the claims that each block keeps each of the candidates: candidates in order, and of each the
-- blocks
abbrev pub keeps_claims : MonitorParts → List Candidate → List Claim
keeps_claims monitor kept =
    flat_map (λ candidate. map (claims.Keeps candidate) (range_with_len 0 (length monitor.blocks)))
    kept
