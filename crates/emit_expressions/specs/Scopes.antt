-- What a name of an expression is written as, by where the expression stands.
use Rattle.std.specs.Prelude.{ℕ, Bool, true, false, List, [], ◌++◌, codes, if◌then◌else◌}
use Rattle.std.specs.List.{list_any}
use Rattle.std.specs.Str.{bytes_eq}
use Rattle.lang_tree.specs.declared.tree.Decl.{Decl}
use Rattle.lang_tree.specs.declared.tree.Decl.TheVariants as decls
use Rattle.lang_tree.specs.declared.tree.MethodTree.{MethodTree}
use Rattle.lang_tree.specs.declared.tree.MonitorTree.{MonitorTree}
use Rattle.lang_tree.specs.Names.{declared_name}
use Rattle.emit_names.specs.declared.style.Style.TheVariants as styles
use Rattle.emit_expressions.specs.declared.scope.Meaning.{Meaning}
use Rattle.emit_expressions.specs.declared.scope.Meaning.TheVariants as meanings
use Rattle.emit_expressions.specs.declared.scope.Reach.{Reach}
use Rattle.emit_expressions.specs.declared.scope.Reach.TheVariants as reaches
use Rattle.emit_expressions.specs.declared.scope.Scope.{Scope}
use Rattle.emit_names.specs.Names.{type_name, member_name, input_name}

-- where an expression stands: its monitor, its method, the word before fields, how inputs are
-- reached, and whether it is known that no value that is stored or answered there leaves 64 bits
pub record ScopeParts : Type 0 where
  pub tree : MonitorTree
  pub method : MethodTree
  pub receiver : List ℕ
  pub reach : Reach
  pub whole : Bool

abbrev pub seen : Scope → ScopeParts
seen scope = record {
  tree = scope.tree.now;
  method = scope.method.now;
  receiver = scope.receiver.now;
  reach = scope.reach;
  whole = scope.whole;
}

-- the constant of this name
abbrev pub is_constant : List ℕ → Decl → Bool
is_constant name (decls.Const at other value) = bytes_eq other name
is_constant name (decls.Param at other value limit) = false
is_constant name (decls.Int at other value) = false
is_constant name (decls.Copied at other source) = false
is_constant name (decls.Flag at other value) = false

-- it declares this name
abbrev pub declares : List ℕ → Decl → Bool
declares name declared = bytes_eq (declared_name declared) name

-- by whether it is that of a constant, of any declaration (a field, a parameter), and of a local
abbrev pub meaning_by : Bool → Bool → Bool → Meaning
meaning_by constant declared local =
    if constant then meanings.Constant
    else if declared then meanings.Field
    else if local then meanings.Local
    else meanings.Parameter

-- what a name in a method stands for
abbrev pub meaning_of : MonitorTree → MethodTree → List ℕ → Meaning
meaning_of tree method name =
    meaning_by (list_any (is_constant name) tree.decls) (list_any (declares name) tree.decls)
    (list_any (declares name) method.locals)

-- a local is lent to a body
abbrev pub lent_text : Reach → List ℕ
lent_text reaches.Lent = codes "*"
lent_text reaches.Held = []
lent_text reaches.Unread = []

-- `Buffer::CAP`
abbrev pub constant_name : MonitorTree → List ℕ → List ℕ
constant_name tree name = type_name tree ++ codes "::" ++ member_name tree styles.Upper name

abbrev pub meaning_text : ScopeParts → List ℕ → Meaning → List ℕ
meaning_text scope name meanings.Constant = constant_name scope.tree name
meaning_text scope name meanings.Field =
    scope.receiver ++ codes "." ++ member_name scope.tree styles.Snake name
meaning_text scope name meanings.Parameter = input_name scope.method name
meaning_text scope name meanings.Local =
    lent_text scope.reach ++ input_name scope.method name

-- `CAP` is `Buffer::CAP`, and `count` is `self.count`
abbrev pub name_text : ScopeParts → List ℕ → List ℕ
name_text scope name = meaning_text scope name (meaning_of scope.tree scope.method name)

abbrev pub reaches_inputs : Reach → Bool
reaches_inputs reaches.Lent = true
reaches_inputs reaches.Held = true
reaches_inputs reaches.Unread = false

abbrev pub is_reached : Reach → Meaning → Bool
is_reached reach meanings.Constant = true
is_reached reach meanings.Field = true
is_reached reach meanings.Parameter = reaches_inputs reach
is_reached reach meanings.Local = reaches_inputs reach

-- a guard that reads no inputs is written without their names: 0 stands for each of them
abbrev pub is_read : ScopeParts → List ℕ → Bool
is_read scope name = is_reached scope.reach (meaning_of scope.tree scope.method name)

abbrev pub varies : Meaning → Bool
varies meanings.Constant = false
varies meanings.Field = true
varies meanings.Parameter = true
varies meanings.Local = true

-- it is the name of a field, an argument or a local
abbrev pub is_variable_name : ScopeParts → List ℕ → Bool
is_variable_name scope name = varies (meaning_of scope.tree scope.method name)
