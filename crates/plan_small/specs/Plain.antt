-- Plain monitors, of which no claim is hard.
use Rattle.std.specs.Prelude.{◌≡◌, true}
use Rattle.std.specs.List.{list_all}
use Rattle.lang_monitor.specs.declared.claim.Claim.{Claim}
use Rattle.lang_monitor.specs.Candidates.{candidates_of}
use Rattle.lang_monitor.specs.MonitorParts.{MonitorParts}
use Rattle.lang_monitor.specs.Queries.{query_of}
use Rattle.logic_wp.specs.PlainClaims.{IsClaimOf, is_plain, is_simple_block}

-- the query of the claim is plain, with all candidates kept
abbrev pub IsPlainClaim : MonitorParts → Claim → Type 0
IsPlainClaim monitor claim =
    is_plain monitor (query_of monitor (candidates_of monitor) claim) ≡ true

-- blocks are simple, and each claim that is asked is plain
pub record IsPlain (monitor : MonitorParts) : Type 0 where
  pub simple : list_all is_simple_block monitor.blocks ≡ true
  pub claims : (claim : Claim) → IsClaimOf monitor claim → IsPlainClaim monitor claim
