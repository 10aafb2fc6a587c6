-- The parameters of a monitor in a row, as its functions take them and are given them.
use Rattle.std.specs.Prelude.{ℕ, Bool, true, false, ◌||◌, List, [], ◌∷◌, ◌++◌, codes}
use Rattle.lang_tree.specs.declared.tree.Decl.{Decl}
use Rattle.lang_tree.specs.declared.tree.Decl.TheVariants as decls
use Rattle.lang_tree.specs.declared.tree.LimitTree.{LimitTree}
use Rattle.lang_tree.specs.declared.tree.MonitorTree.{MonitorTree}
use Rattle.lang_printer.specs.Canonical.{limit_sign_text, literal_text}
use Rattle.emit_names.specs.declared.style.Style.TheVariants as styles
use Rattle.emit_names.specs.Names.{is_parameter, member_name}
use Rattle.emit_choices.specs.declared.lists.Form.{Form}
use Rattle.emit_choices.specs.declared.lists.Form.TheVariants as forms

-- ` >= 1`
abbrev pub test_text : LimitTree → List ℕ
test_text limit = limit_sign_text limit.sign ++ literal_text limit.bound

-- a parameter with this limit: `cap: i64`, `cap`, `cap >= 1` or `CAP >= 1`
abbrev pub parameter_text : Form → MonitorTree → List ℕ → LimitTree → List ℕ
parameter_text forms.Taken tree name limit = member_name tree styles.Snake name ++ codes ": i64"
parameter_text forms.Given tree name limit = member_name tree styles.Snake name
parameter_text forms.Tested tree name limit =
    member_name tree styles.Snake name ++ test_text limit
parameter_text forms.Shown tree name limit = name ++ test_text limit

-- what stands between two of them
abbrev pub sign_between : Form → List ℕ
sign_between forms.Taken = codes ", "
sign_between forms.Given = codes ", "
sign_between forms.Tested = codes " && "
sign_between forms.Shown = codes " && "

-- what stands before one, by whether another does
abbrev pub sign_before : Form → Bool → List ℕ
sign_before form true = sign_between form
sign_before form false = []

-- nothing for other declarations
abbrev pub item_text : Form → MonitorTree → Bool → Decl → List ℕ
item_text form tree begun (decls.Const at name value) = []
item_text form tree begun (decls.Param at name value limit) =
    sign_before form begun ++ parameter_text form tree name limit
item_text form tree begun (decls.Int at name value) = []
item_text form tree begun (decls.Copied at name source) = []
item_text form tree begun (decls.Flag at name value) = []

-- the parameters among these declarations, by whether one stands before them
abbrev pub items_text : Form → MonitorTree → Bool → List Decl → List ℕ
items_text form tree begun [] = []
items_text form tree begun (one ∷ more) =
    item_text form tree begun one ++ items_text form tree (begun || is_parameter one) more

-- those of a monitor, in file order
abbrev pub parameters_text : Form → MonitorTree → List ℕ
parameters_text form tree = items_text form tree false tree.decls
