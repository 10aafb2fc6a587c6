-- Conditions: one for each guard that is waited for, numbered from 1 in the order of their first
-- blocks. A block that asserts has none, and the number 0.
use Rattle.std.specs.Prelude.{◌≡◌, ◌≢◌, ◌↔◌, ℕ, ◌-◌, ◌<◌, ◌≤◌, true, List, All, IsSomeAnd}
use Rattle.std.specs.Prelude.{slice_get, take}
use Rattle.std.specs.List.{list_all}
use Rattle.lang_base.specs.Lines.{is_in_line}
use Rattle.lang_monitor.specs.declared.monitor.Block.{Block}
use Rattle.lang_monitor.specs.declared.monitor.Condition.{Condition}
use Rattle.lang_monitor.specs.Inputs.{reads_inputs}

-- where the block has a condition, that has its guard
abbrev pub HasCondition : List Condition → Block → Type 0
HasCondition conditions block =
    1 ≤ block.condition
    → IsSomeAnd (slice_get conditions (block.condition - 1))
    (λ condition. condition.guard ≡ block.guard)

-- it says exactly whether its guard reads inputs, and shows it in one line
pub record IsDescribed (condition : Condition) : Type 0 where
  pub inputs : condition.reads_inputs ≡ reads_inputs condition.guard
  pub line : list_all is_in_line condition.shown ≡ true

-- some block has this condition, and all blocks before it have conditions of lower numbers
pub record HasFirstBlock (blocks : List Block) (number : ℕ) : Type 0 where
  pub index : ℕ
  pub has : IsSomeAnd (slice_get blocks index) (λ block. block.condition ≡ number)
  pub lower : All (λ block. block.condition < number) (take index blocks)

-- of two blocks with conditions: they have one condition exactly where their guards are equal
abbrev pub ShareCondition : Block → Block → Type 0
ShareCondition block other =
    1 ≤ block.condition → 1 ≤ other.condition
    → (block.condition ≡ other.condition) ↔ (block.guard ≡ other.guard)

-- the block at this index is the first one with this condition
pub record IsFirstBlock (blocks : List Block) (number index : ℕ) : Type 0 where
  pub has : IsSomeAnd (slice_get blocks index) (λ block. block.condition ≡ number)
  pub none : All (λ block. block.condition ≢ number) (take index blocks)
