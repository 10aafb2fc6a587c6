-- The functions of a module that open its monitor.
use Rattle.std.specs.Prelude.{ℕ, Bool, true, false, List, [], ◌++◌, codes}
use Rattle.std.specs.List.{flat_map}
use Rattle.lang_tree.specs.declared.tree.Decl.{Decl}
use Rattle.lang_tree.specs.declared.tree.Decl.TheVariants as decls
use Rattle.lang_tree.specs.declared.tree.MonitorTree.{MonitorTree}
use Rattle.emit_comments.specs.Comments.{comment_docs, has_comments, line_of}
use Rattle.emit_names.specs.Names.{has_parameters, type_name}
use Rattle.emit_choices.specs.declared.lists.Form.TheVariants as forms
use Rattle.emit_choices.specs.Fixed.{NEW, WITH_DATA, PANICS, PANICS_END, ADMITS, ADMITS_HEAD}
use Rattle.emit_choices.specs.Fixed.{CHOSEN_NEW, CHOSEN_NEW_HEAD, CHOSEN_NEW_END, CHOSEN_DATA}
use Rattle.emit_choices.specs.Fixed.{CHOSEN_DATA_HEAD, CHOSEN_INNER}
use Rattle.emit_choices.specs.Lists.{parameters_text}

-- ---- what is said of parameters

-- by whether comments stand above the parameter in this line
abbrev pub said_by : List ℕ → ℕ → Bool → List ℕ
said_by text place true = codes "`:\n" ++ comment_docs (codes "    ") text place
said_by text place false = codes "`.\n"

-- a parameter of this name, by its line
abbrev pub parameter_said : List ℕ → ℕ → List ℕ → List ℕ
parameter_said text place name =
    codes "    ///\n    /// The parameter `" ++ name
    ++ said_by text place (has_comments text place)

-- nothing for other declarations
abbrev pub parameter_docs : List ℕ → Decl → List ℕ
parameter_docs text (decls.Const at name value) = []
parameter_docs text (decls.Param at name value limit) =
    parameter_said text (line_of text at) name
parameter_docs text (decls.Int at name value) = []
parameter_docs text (decls.Copied at name source) = []
parameter_docs text (decls.Flag at name value) = []

-- each of them, and when opening panics
abbrev pub choice_docs : List ℕ → MonitorTree → List ℕ
choice_docs text tree =
    flat_map (parameter_docs text) tree.decls ++ PANICS ++ parameters_text forms.Shown tree
    ++ PANICS_END

-- ---- which numbers they may have

abbrev pub admits_text : MonitorTree → List ℕ
admits_text tree =
    ADMITS ++ parameters_text forms.Shown tree ++ ADMITS_HEAD ++ parameters_text forms.Taken tree
    ++ codes ") -> bool {\n        " ++ parameters_text forms.Tested tree ++ codes "\n    }\n\n"

-- ---- the monitor with no data

abbrev pub chosen_new : List ℕ → MonitorTree → List ℕ
chosen_new text tree =
    CHOSEN_NEW ++ choice_docs text tree ++ CHOSEN_NEW_HEAD ++ parameters_text forms.Taken tree
    ++ codes ") -> Self {\n        Self::with_data(" ++ parameters_text forms.Given tree
    ++ CHOSEN_NEW_END

-- by whether it has parameters
abbrev pub new_by : List ℕ → MonitorTree → Bool → List ℕ
new_by text tree true = admits_text tree ++ chosen_new text tree
new_by text tree false = NEW

-- the functions that open it, and the end of their `impl`
abbrev pub new_text : List ℕ → MonitorTree → List ℕ
new_text text tree = new_by text tree (has_parameters tree)

-- ---- the monitor with data

-- A wrong number ends in a panic, which in a constant is an error of rustc.
abbrev pub assert_text : MonitorTree → List ℕ
assert_text tree =
    codes "        assert!(" ++ type_name tree ++ codes "::admits("
    ++ parameters_text forms.Given tree ++ codes "), \"" ++ type_name tree ++ codes " wants "
    ++ parameters_text forms.Shown tree ++ codes "\");\n"

abbrev pub chosen_data : List ℕ → MonitorTree → List ℕ
chosen_data text tree =
    CHOSEN_DATA ++ choice_docs text tree ++ CHOSEN_DATA_HEAD ++ parameters_text forms.Taken tree
    ++ codes ", data: D) -> Self {\n" ++ assert_text tree ++ CHOSEN_INNER
    ++ parameters_text forms.Given tree ++ codes "),\n"

abbrev pub with_data_by : List ℕ → MonitorTree → Bool → List ℕ
with_data_by text tree true = chosen_data text tree
with_data_by text tree false = WITH_DATA

-- the function that opens it, up to the counts at their start
abbrev pub with_data_text : List ℕ → MonitorTree → List ℕ
with_data_text text tree = with_data_by text tree (has_parameters tree)
