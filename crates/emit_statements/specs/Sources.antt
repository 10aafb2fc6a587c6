-- What a module is printed of.
use Rattle.std.specs.Prelude.{Option, Some, None, Bool, false, ◌||◌, slice_get}
use Rattle.std.specs.Prelude.{ℕ, ◌-◌, ◌==◌, List}
use Rattle.std.specs.Option.{option_map_or}
use Rattle.lang_base.specs.declared.kind.Kind.{Kind}
use Rattle.lang_base.specs.declared.kind.Kind.TheVariants as kinds
use Rattle.lang_tree.specs.declared.tree.MonitorTree.{MonitorTree}
use Rattle.lang_monitor.specs.declared.monitor.Ret.{Ret}
use Rattle.lang_monitor.specs.declared.monitor.Ret.TheVariants as rets
use Rattle.lang_monitor.specs.MonitorParts.{MonitorParts}
use Rattle.machine_events.specs.declared.plan.Plan.{Plan}
use Rattle.emit_code.specs.LivePlans.{live_plan}
use Rattle.emit_statements.specs.declared.source.Source.{Source}

-- a monitor as it is written and as it was checked, and a plan of it
pub record SourceParts : Type 0 where
  -- the text that the tree was read from
  pub text : List ℕ
  pub tree : MonitorTree
  pub monitor : MonitorParts
  -- without the notes that nobody hears
  pub plan : Plan
  -- with all of them
  pub given : Plan
  -- of each block, whether it is known that no number of it leaves 64 bits
  pub whole : List Bool

-- the parts of a module's source
abbrev pub source_of : List ℕ → MonitorTree → MonitorParts → Plan → List Bool → SourceParts
source_of text tree monitor plan whole = record {
  text = text;
  tree = tree;
  monitor = monitor;
  plan = live_plan monitor plan;
  given = plan;
  whole = whole;
}

-- a source of the code, as contracts see it
abbrev pub seen : Source → SourceParts
seen source =
    source_of source.text.now source.tree.now source.monitor.now source.plan.now source.whole.now

-- the guard of a condition reads inputs or locals
abbrev pub reads_inputs : MonitorParts → ℕ → Bool
reads_inputs monitor condition =
    option_map_or (λ which. which.reads_inputs) (slice_get monitor.conditions (condition - 1)) false

-- each block of the condition has a test of its own: the guard reads inputs or locals, or there is
-- no condition, as of blocks that assert
abbrev pub tests_alone : MonitorParts → ℕ → Bool
tests_alone monitor condition = condition == 0 || reads_inputs monitor condition

-- no number of the block of this number leaves 64 bits
abbrev pub is_whole : SourceParts → ℕ → Bool
is_whole source block = option_map_or (λ is. is) (slice_get source.whole block) false

-- ---- what a block answers

-- the kind of what is answered
abbrev pub kind_answered : Ret → Option Kind
kind_answered rets.Nothing = None
kind_answered (rets.Int form) = Some kinds.Int
kind_answered (rets.Bool formula) = Some kinds.Bool

-- the kind of what the block of this number answers
abbrev pub answer_of : MonitorParts → ℕ → Option Kind
answer_of monitor block =
    option_map_or (λ held. kind_answered held.result) (slice_get monitor.blocks block) None
