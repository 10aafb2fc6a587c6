-- What conditions are called in a module, and what a call hands on.
use Rattle.std.specs.Prelude.{ℕ, ◌+◌, ◌-◌, ◌==◌, Bool, List, [], ◌++◌, codes, length, slice_get}
use Rattle.std.specs.Prelude.{Option, if◌then◌else◌}
use Rattle.std.specs.List.{flat_map, enumerate_from, position}
use Rattle.std.specs.Option.{option_map_or}
use Rattle.lang_tree.specs.declared.tree.Decl.{Decl}
use Rattle.lang_tree.specs.declared.tree.InputTree.{InputTree}
use Rattle.lang_tree.specs.declared.tree.MethodTree.{MethodTree}
use Rattle.lang_tree.specs.Names.{declared_name}
use Rattle.lang_monitor.specs.declared.monitor.Block.{Block}
use Rattle.lang_monitor.specs.MonitorParts.{MonitorParts, first_in}
use Rattle.emit_expressions.specs.declared.scope.Reach.{Reach}
use Rattle.emit_names.specs.Names.{input_name}
use Rattle.emit_bodies.specs.Blocks.{block_name, lending_text}
use Rattle.emit_statements.specs.Sources.{SourceParts}

-- the block waits on this condition
abbrev pub is_of : ℕ → Block → Bool
is_of condition block = block.condition == condition

-- the first block of a condition
abbrev pub first_block : MonitorParts → ℕ → Option ℕ
first_block monitor condition = position (is_of condition) monitor.blocks

-- a block of the method of this number, by its own number in the monitor, after a word
abbrev pub name_in : SourceParts → List ℕ → ℕ → ℕ → List ℕ
name_in source word block number =
    option_map_or (λ method. block_name source.tree method word
    (block + 1 - first_in (slice_get source.monitor.methods number)))
    (slice_get source.tree.methods number) []

-- the same of any block
abbrev pub name_of : SourceParts → List ℕ → ℕ → List ℕ
name_of source word block =
    option_map_or (λ held. name_in source word block held.method)
    (slice_get source.monitor.blocks block) []

-- what is called after the first block of a condition, after a word
abbrev pub word_name : SourceParts → List ℕ → ℕ → List ℕ
word_name source word condition =
    option_map_or (name_of source word) (first_block source.monitor condition) []

-- `can_put`: the variable of a condition, and the test of its guard
abbrev pub condition_name : SourceParts → ℕ → List ℕ
condition_name source condition = word_name source (codes "can") condition

-- `asleep_put`: how many sleep on it
abbrev pub count_name : SourceParts → ℕ → List ℕ
count_name source condition = word_name source (codes "asleep") condition

-- the name of a condition between two texts
abbrev pub around_name : SourceParts → List ℕ → ℕ → List ℕ → List ℕ
around_name source before condition after = before ++ condition_name source condition ++ after

-- that of its count
abbrev pub around_count : SourceParts → List ℕ → ℕ → List ℕ → List ℕ
around_count source before condition after = before ++ count_name source condition ++ after

-- ---- what a call hands on: parameters, and locals, which are lent to a body

-- before each but the first
abbrev pub comma_text : ℕ → List ℕ
comma_text before = if before == 0 then [] else codes ", "

-- a parameter, after so many arguments
abbrev pub handed_parameter : MethodTree → ℕ → InputTree → List ℕ
handed_parameter method before input = comma_text before ++ input_name method input.name

-- a local, after all parameters and so many locals
abbrev pub handed_local : MethodTree → Reach → ℕ → Decl → List ℕ
handed_local method reach before local =
    comma_text (length method.inputs + before) ++ lending_text reach
    ++ input_name method (declared_name local)

-- `amount, &mut seen`
abbrev pub arguments_text : MethodTree → Reach → List ℕ
arguments_text method reach =
    flat_map (λ one. handed_parameter method one.0 one.1) (enumerate_from 0 method.inputs)
    ++ flat_map (λ one. handed_local method reach one.0 one.1) (enumerate_from 0 method.locals)
