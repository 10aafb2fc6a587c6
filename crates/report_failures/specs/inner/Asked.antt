-- For private contracts: what a question is about.
use Rattle.std.specs.Prelude.{ℕ}
use Rattle.lang_monitor.specs.MonitorParts.{MonitorParts}
use Rattle.logic_wp.specs.PlainClaims.{IsBlockNumber, ReadsNone}
use Rattle.plan_count.specs.declared.question.Question.{Question}
use Rattle.plan_count.specs.declared.question.Question.TheVariants as questions

-- the monitor has the block, and the condition, whose guard reads no inputs
pub record AreThere (monitor : MonitorParts) (condition block : ℕ) : Type 0 where
  pub is_block : IsBlockNumber monitor block
  pub reads_none : ReadsNone monitor condition

-- those of the question
abbrev pub IsAbout : MonitorParts → Question → Type 0
IsAbout monitor (questions.Counts condition row block) = AreThere monitor condition block
IsAbout monitor (questions.Gives condition row block) = AreThere monitor condition block
IsAbout monitor (questions.First condition row block) = AreThere monitor condition block
