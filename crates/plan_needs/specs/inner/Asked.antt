-- For private contracts: what is asked of a block, and what was asked of those before.
use Rattle.std.specs.Prelude.{◌≡◌, ℕ, ◌<◌, List, Option, Some, None, IfSome}
use Rattle.lang_monitor.specs.MonitorParts.{MonitorParts}
use Rattle.plan_count.specs.Questions.{MayBeAsked}
use Rattle.plan_counted.specs.declared.counted.Column.{Column}
use Rattle.plan_counted.specs.declared.counted.CountedPlan.{CountedPlan}
use Rattle.plan_why.specs.declared.reason.Answer.{Answer}
use Rattle.plan_why.specs.declared.reason.Answer.TheVariants.{Shown, Undecided}
use Rattle.plan_why.specs.declared.reason.Thing.{Thing}
use Rattle.plan_why.specs.Failures.{IsFailureIn}
use Rattle.plan_why.specs.Things.{IsBlockOf}
use Rattle.plan_needs.specs.declared.broadcasts.BlockBroadcast.{BlockBroadcast}
use Rattle.plan_needs.specs.CountedReasons.{IsSparedAt}
use Rattle.plan_needs.specs.Needs.{counted_row, sparing_queries}

-- questions can be asked of the block and the condition by the row by which it is counted
abbrev pub IsAskable : MonitorParts → List (Option Column) → BlockBroadcast → Type 0
IsAskable monitor columns broadcast =
    IfSome (counted_row columns broadcast.condition)
    (λ row. MayBeAsked monitor broadcast.condition row broadcast.block)

-- the answer shows by this block that the thing is needed
abbrev pub IsShownAt : MonitorParts → CountedPlan → Thing → ℕ → Answer → Type 0
IsShownAt monitor counted thing block (Shown own before after) =
    (own ≡ block) × IsBlockOf monitor thing block
    × IsFailureIn monitor (sparing_queries monitor counted thing block)
    (record { before = before; after = after })
IsShownAt monitor counted thing block Undecided = ⊥

-- the answer that was found, or the triples that would spare the thing are valid after the block,
-- where it is about this block and their queries are plain
abbrev pub IsAskedOf : MonitorParts → CountedPlan → Thing → ℕ → Option Answer → Type 0
IsAskedOf monitor counted thing block (Some answer) = IsShownAt monitor counted thing block answer
IsAskedOf monitor counted thing block None =
    IsBlockOf monitor thing block → IsSparedAt monitor counted thing block

-- they are so after the blocks before this number, where the thing is about them
abbrev pub AreSparedBefore : MonitorParts → CountedPlan → Thing → ℕ → Type 0
AreSparedBefore monitor counted thing count =
    (block : ℕ) → block < count → IsBlockOf monitor thing block
    → IsSparedAt monitor counted thing block
