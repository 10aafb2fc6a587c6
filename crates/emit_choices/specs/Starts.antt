-- The state of a monitor at its start.
use Rattle.std.specs.Prelude.{ℕ, Bool, true, false, List, [], ◌++◌, codes}
use Rattle.std.specs.List.{flat_map, list_any}
use Rattle.lang_tree.specs.declared.tree.Decl.{Decl}
use Rattle.lang_tree.specs.declared.tree.Decl.TheVariants as decls
use Rattle.lang_tree.specs.declared.tree.MonitorTree.{MonitorTree}
use Rattle.lang_tree.specs.Names.{declared_name}
use Rattle.emit_names.specs.declared.style.Style.TheVariants as styles
use Rattle.emit_names.specs.Names.{has_parameters, member_name}
use Rattle.emit_expressions.specs.Scopes.{constant_name, is_constant}
use Rattle.emit_choices.specs.declared.lists.Form.TheVariants as forms
use Rattle.emit_choices.specs.Declarations.{is_field, start_text}
use Rattle.emit_choices.specs.Lists.{parameters_text}

-- ---- braces

-- a brace, with lines after it where there are fields
abbrev pub brace_by : Bool → List ℕ
brace_by true = codes "{\n"
brace_by false = codes "{"

-- the brace of this monitor
abbrev pub brace_text : MonitorTree → List ℕ
brace_text tree = brace_by (list_any is_field tree.decls)

-- the end of the fields, where there are any
abbrev pub starts_end_by : Bool → List ℕ
starts_end_by true = codes "    };\n"
starts_end_by false = codes "};\n"

-- the end of the fields of this monitor
abbrev pub starts_end : MonitorTree → List ℕ
starts_end tree = starts_end_by (list_any is_field tree.decls)

-- ---- fields

-- what is copied, by whether it is a constant: `Buffer::CAP`, or `cap`, which a parameter is
abbrev pub source_by : MonitorTree → List ℕ → Bool → List ℕ
source_by tree name true = constant_name tree name
source_by tree name false = member_name tree styles.Snake name

abbrev pub copied_value : MonitorTree → List ℕ → List ℕ
copied_value tree name =
    codes ": " ++ source_by tree name (list_any (is_constant name) tree.decls)

abbrev pub own_value : Decl → List ℕ
own_value declared = codes ": " ++ start_text declared

-- after the name of a field: a parameter has that for its value
abbrev pub value_text : MonitorTree → Decl → List ℕ
value_text tree (decls.Const at name value) = own_value (decls.Const at name value)
value_text tree (decls.Param at name value limit) = []
value_text tree (decls.Int at name value) = own_value (decls.Int at name value)
value_text tree (decls.Copied at name source) = copied_value tree source.name
value_text tree (decls.Flag at name value) = own_value (decls.Flag at name value)

-- `count: 0,` after an indent
abbrev pub field_start : List ℕ → MonitorTree → Decl → List ℕ
field_start indent tree declared =
    indent ++ member_name tree styles.Snake (declared_name declared) ++ value_text tree declared
    ++ codes ",\n"

-- by whether it is a field: nothing for a constant
abbrev pub line_by : List ℕ → MonitorTree → Decl → Bool → List ℕ
line_by indent tree declared true = field_start indent tree declared
line_by indent tree declared false = []

abbrev pub start_line : List ℕ → MonitorTree → Decl → List ℕ
start_line indent tree declared = line_by indent tree declared (is_field declared)

-- ---- the state

-- without parameters it is a constant
abbrev pub constant_starts : MonitorTree → List ℕ
constant_starts tree =
    codes "    const START: Self = Self " ++ brace_text tree
    ++ flat_map (start_line (codes "        ") tree) tree.decls ++ starts_end tree

abbrev pub chosen_starts : MonitorTree → List ℕ
chosen_starts tree =
    codes "    const fn start(" ++ parameters_text forms.Taken tree
    ++ codes ") -> Self {\n        Self {\n"
    ++ flat_map (start_line (codes "            ") tree) tree.decls ++ codes "        }\n    }\n"

-- by whether it has parameters
abbrev pub starts_by : MonitorTree → Bool → List ℕ
starts_by tree true = chosen_starts tree
starts_by tree false = constant_starts tree

-- that of this monitor
abbrev pub starts_text : MonitorTree → List ℕ
starts_text tree = starts_by tree (has_parameters tree)
