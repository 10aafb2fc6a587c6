-- Why a thing of a plan is needed.
use Rattle.std.specs.Prelude.{◌≡◌, ℕ, true, Option}
use Rattle.lang_monitor.specs.MonitorParts.{MonitorParts}
use Rattle.lang_monitor.specs.Triples.{IsValidQuery}
use Rattle.machine_events.specs.declared.plan.Plan.{Plan}
use Rattle.logic_solve.specs.declared.valuation.Solution.{Solution}
use Rattle.logic_solve.specs.Solutions.{valuation_of}
use Rattle.logic_wp.specs.PlainClaims.{is_plain}
use Rattle.plan_why.specs.declared.reason.Answer.{Answer}
use Rattle.plan_why.specs.declared.reason.Answer.TheVariants.{Shown, Undecided}
use Rattle.plan_why.specs.declared.reason.Reason.{Reason}
use Rattle.plan_why.specs.declared.reason.Thing.{Thing}
use Rattle.plan_why.specs.Failures.{Breaks, IsAfter}
use Rattle.plan_why.specs.Things.{sparing_query, IsBlockOf}

-- The thing is about the block, and the triple of the claim that would spare it fails at the
-- valuation before its body.
pub record IsShown (monitor : MonitorParts) (plan : Plan) (thing : Thing) (block : ℕ)
    (before : Solution) (after : Option Solution) : Type 0 where
  pub about : IsBlockOf monitor thing block
  pub breaks : Breaks monitor (sparing_query monitor plan thing block) (valuation_of before)
  pub ends : IsAfter monitor block (valuation_of before) after

-- Each claim that would spare the thing is valid, if its query is plain.
abbrev pub IsUndecided : MonitorParts → Plan → Thing → Type 0
IsUndecided monitor plan thing = (block : ℕ) → IsBlockOf monitor thing block
    → is_plain monitor (sparing_query monitor plan thing block) ≡ true
    → IsValidQuery monitor (sparing_query monitor plan thing block)

-- the answer is right for the thing
abbrev pub IsAnswered : MonitorParts → Plan → Thing → Answer → Type 0
IsAnswered monitor plan thing (Shown block before after) =
    IsShown monitor plan thing block before after
IsAnswered monitor plan thing Undecided = IsUndecided monitor plan thing

-- what a reason answers is right for its thing
abbrev pub IsReason : MonitorParts → Plan → Reason → Type 0
IsReason monitor plan reason = IsAnswered monitor plan reason.thing reason.answer
