-- Why the things of a counted plan are needed.
use Rattle.std.specs.Prelude.{ℕ, ◌<◌, Option, None}
use Rattle.lang_monitor.specs.MonitorParts.{MonitorParts}
use Rattle.logic_solve.specs.declared.valuation.Solution.{Solution}
use Rattle.plan_counted.specs.declared.counted.CountedPlan.{CountedPlan}
use Rattle.plan_why.specs.declared.reason.Answer.{Answer}
use Rattle.plan_why.specs.declared.reason.Answer.TheVariants.{Shown, Undecided}
use Rattle.plan_why.specs.declared.reason.Reason.{Reason}
use Rattle.plan_why.specs.declared.reason.Thing.{Thing}
use Rattle.plan_why.specs.Failures.{IsFailureAmong, IsFailureIn}
use Rattle.plan_why.specs.Things.{IsBlockOf}
use Rattle.plan_needs.specs.declared.broadcasts.BroadcastReason.{BroadcastReason}
use Rattle.plan_needs.specs.Needs.{counted_row, signal_queries, sparing_queries}

-- after the block the triples that would have to be valid to spare the thing are valid, where their
-- queries are plain
abbrev pub IsSparedAt : MonitorParts → CountedPlan → Thing → ℕ → Type 0
IsSparedAt monitor counted thing block =
    IsFailureAmong monitor (sparing_queries monitor counted thing block) None

-- the thing is about the block, and a triple fails that would have to be valid to spare it; after
-- each earlier block that it is about these are valid, where their queries are plain
pub record IsCountedShown (monitor : MonitorParts) (counted : CountedPlan) (thing : Thing)
    (block : ℕ) (before : Solution) (after : Option Solution) : Type 0 where
  pub about : IsBlockOf monitor thing block
  pub fails : IsFailureIn monitor (sparing_queries monitor counted thing block)
      (record { before = before; after = after })
  pub earlier : (other : ℕ) → other < block → IsBlockOf monitor thing other
      → IsSparedAt monitor counted thing other

-- after each block that the thing is about the triples that would have to be valid to spare it are
-- valid, where their queries are plain
abbrev pub IsCountedUndecided : MonitorParts → CountedPlan → Thing → Type 0
IsCountedUndecided monitor counted thing =
    (block : ℕ) → IsBlockOf monitor thing block → IsSparedAt monitor counted thing block

-- the answer is right for the thing
abbrev pub IsCountedAnswer : MonitorParts → CountedPlan → Thing → Answer → Type 0
IsCountedAnswer monitor counted thing (Shown block before after) =
    IsCountedShown monitor counted thing block before after
IsCountedAnswer monitor counted thing Undecided =
    IsCountedUndecided monitor counted thing

-- what a reason answers is right for its thing
abbrev pub IsCountedReason : MonitorParts → CountedPlan → Reason → Type 0
IsCountedReason monitor counted reason =
    IsCountedAnswer monitor counted reason.thing reason.answer

-- one of the triples fails that would have to be valid for a signal in place of the broadcast, or
-- these are valid, where their queries are plain
abbrev pub IsBroadcastReason : MonitorParts → CountedPlan → BroadcastReason → Type 0
IsBroadcastReason monitor counted reason =
    IsFailureAmong monitor
    (signal_queries monitor counted.plan.kept
    (counted_row counted.columns reason.broadcast.condition) reason.broadcast.condition
    reason.broadcast.block)
    reason.failure
