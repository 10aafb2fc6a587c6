-- For private contracts: what is asked of a block, and what was asked of those before.
use Rattle.std.specs.Prelude.{◌≡◌, ℕ, ◌<◌, true, Option, Some, None}
use Rattle.lang_monitor.specs.MonitorParts.{MonitorParts}
use Rattle.lang_monitor.specs.Triples.{IsValidQuery}
use Rattle.machine_events.specs.declared.plan.Plan.{Plan}
use Rattle.logic_wp.specs.PlainClaims.{is_plain}
use Rattle.plan_why.specs.declared.reason.Answer.{Answer}
use Rattle.plan_why.specs.declared.reason.Thing.{Thing}
use Rattle.plan_why.specs.Reasons.{IsAnswered}
use Rattle.plan_why.specs.Things.{sparing_query, IsBlockOf}

-- the claim that would spare the thing after the block is valid, if its query is plain
abbrev pub IsSpared : MonitorParts → Plan → Thing → ℕ → Type 0
IsSpared monitor plan thing block =
    is_plain monitor (sparing_query monitor plan thing block) ≡ true
    → IsValidQuery monitor (sparing_query monitor plan thing block)

-- the answer that was found, or the claim is so
abbrev pub IsBroken : MonitorParts → Plan → Thing → ℕ → Option Answer → Type 0
IsBroken monitor plan thing block (Some answer) = IsAnswered monitor plan thing answer
IsBroken monitor plan thing block None = IsSpared monitor plan thing block

-- the answer that was found, or the claim is so where the thing is about the block
abbrev pub IsAsked : MonitorParts → Plan → Thing → ℕ → Option Answer → Type 0
IsAsked monitor plan thing block (Some answer) = IsAnswered monitor plan thing answer
IsAsked monitor plan thing block None =
    IsBlockOf monitor thing block → IsSpared monitor plan thing block

-- the claims after the blocks before this number are so, where the thing is about them
abbrev pub AreSpared : MonitorParts → Plan → Thing → ℕ → Type 0
AreSpared monitor plan thing count =
    (block : ℕ) → block < count → IsBlockOf monitor thing block → IsSpared monitor plan thing block
