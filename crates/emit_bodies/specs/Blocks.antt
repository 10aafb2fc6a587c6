-- What the functions of blocks are called, and what they take beside the state.
use Rattle.std.specs.Prelude.{ℕ, nat_le, List, [], ◌++◌, codes, decimal, if◌then◌else◌}
use Rattle.std.specs.List.{flat_map}
use Rattle.lang_base.specs.declared.kind.Kind.{Kind}
use Rattle.lang_base.specs.declared.kind.Kind.TheVariants as kinds
use Rattle.lang_tree.specs.declared.tree.Decl.{Decl}
use Rattle.lang_tree.specs.declared.tree.Decl.TheVariants as decls
use Rattle.lang_tree.specs.declared.tree.InputTree.{InputTree}
use Rattle.lang_tree.specs.declared.tree.MethodTree.{MethodTree}
use Rattle.lang_tree.specs.declared.tree.MonitorTree.{MonitorTree}
use Rattle.lang_tree.specs.Names.{declared_name}
use Rattle.emit_names.specs.declared.style.Style.TheVariants as styles
use Rattle.emit_expressions.specs.declared.scope.Reach.{Reach}
use Rattle.emit_expressions.specs.declared.scope.Reach.TheVariants as reaches
use Rattle.emit_names.specs.Names.{member_name, input_name}

abbrev pub kind_text : Kind → List ℕ
kind_text kinds.Int = codes "i64"
kind_text kinds.Bool = codes "bool"

-- the number, from 1, of a block among those of its method; nothing for the first
abbrev pub block_mark : ℕ → List ℕ
block_mark number = if nat_le number 1 then [] else decimal number

-- `can_put`, or `can2_pair`: what a block of a method is called, after a word
abbrev pub block_name : MonitorTree → MethodTree → List ℕ → ℕ → List ℕ
block_name tree method word number =
    word ++ block_mark number ++ codes "_" ++ member_name tree styles.Snake method.name

-- ---- what a function takes beside the state

-- a local that a body takes is lent to it
abbrev pub lending_text : Reach → List ℕ
lending_text reaches.Lent = codes "&mut "
lending_text reaches.Held = []
lending_text reaches.Unread = []

-- `, amount: i64`
abbrev pub taken_text : MethodTree → List ℕ → Kind → List ℕ → List ℕ
taken_text method name kind lending =
    codes ", " ++ input_name method name ++ codes ": " ++ lending ++ kind_text kind

abbrev pub parameter_text : MethodTree → InputTree → List ℕ
parameter_text method input = taken_text method input.name input.kind []

abbrev pub kind_declared : Decl → Kind
kind_declared (decls.Const at name value) = kinds.Int
kind_declared (decls.Param at name value limit) = kinds.Int
kind_declared (decls.Int at name value) = kinds.Int
kind_declared (decls.Copied at name source) = kinds.Int
kind_declared (decls.Flag at name value) = kinds.Bool

abbrev pub local_text : MethodTree → Reach → Decl → List ℕ
local_text method reach local =
    taken_text method (declared_name local) (kind_declared local) (lending_text reach)

abbrev pub all_inputs_text : MethodTree → Reach → List ℕ
all_inputs_text method reach =
    flat_map (parameter_text method) method.inputs
    ++ flat_map (local_text method reach) method.locals

-- parameters and locals, where they are reached
abbrev pub inputs_text : MethodTree → Reach → List ℕ
inputs_text method reaches.Unread = []
inputs_text method reaches.Held = all_inputs_text method reaches.Held
inputs_text method reaches.Lent = all_inputs_text method reaches.Lent
