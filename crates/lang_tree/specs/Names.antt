-- The names in trees, in the order of the file: those that are declared and those that are used.
use Rattle.std.specs.Prelude.{ℕ, List, [], ◌∷◌, ◌++◌, map}
use Rattle.std.specs.List.{flat_map}
use Rattle.lang_tree.specs.declared.tree.Decl.{Decl}
use Rattle.lang_tree.specs.declared.tree.Decl.TheVariants as decls
use Rattle.lang_tree.specs.declared.tree.Expr.{Expr}
use Rattle.lang_tree.specs.declared.tree.Expr.TheOpen.{Expr-F, Addend-F, Factor-F, Number, Truth}
use Rattle.lang_tree.specs.declared.tree.Expr.TheOpen.{Named, Minus, Not, Product, Sum, Compare}
use Rattle.lang_tree.specs.declared.tree.Expr.TheOpen.{Both, Either}
use Rattle.lang_tree.specs.declared.tree.Expr.TheFolds.{fold-Expr}
use Rattle.lang_tree.specs.declared.tree.StmtTree.{StmtTree}
use Rattle.lang_tree.specs.declared.tree.StmtTree.TheOpen.{StmtTree-F, Set, If, Return}
use Rattle.lang_tree.specs.declared.tree.StmtTree.TheFolds.{fold-StmtTree}
use Rattle.lang_tree.specs.declared.tree.BlockTree.{BlockTree}
use Rattle.lang_tree.specs.declared.tree.MethodTree.{MethodTree}
use Rattle.lang_tree.specs.declared.tree.MonitorTree.{MonitorTree}
use Rattle.lang_tree.specs.declared.tree.Item.{Item}
use Rattle.lang_tree.specs.declared.tree.Item.TheOpen.{Item-F, Call, Repeat}
use Rattle.lang_tree.specs.declared.tree.Item.TheFolds.{fold-Item}
use Rattle.lang_tree.specs.declared.tree.ClientTree.{ClientTree}
use Rattle.lang_tree.specs.declared.tree.ClientsTree.{ClientsTree}

abbrev pub Names : Type 0
Names = List (List ℕ)

-- those of each part, one part after the other
abbrev pub all_names : List Names → Names
all_names parts = flat_map (λ names. names) parts

-- ---- monitor files

abbrev pub expression_names_step : Expr-F Names Names Names → Names
expression_names_step (Number at value) = []
expression_names_step (Truth at value) = []
expression_names_step (Named at name) = name ∷ []
expression_names_step (Minus at of) = of
expression_names_step (Not at of) = of
expression_names_step (Product first rest) = first ++ all_names rest
expression_names_step (Sum first rest) = first ++ all_names rest
expression_names_step (Compare op left right) = left ++ right
expression_names_step (Both parts) = all_names parts
expression_names_step (Either parts) = all_names parts

abbrev pub addend_names_step : Addend-F Names Names Names → Names
addend_names_step addend = addend.of

abbrev pub factor_names_step : Factor-F Names Names Names → Names
factor_names_step factor = factor.of

abbrev pub expression_names : Expr → Names
expression_names =
    fold-Expr Names Names Names expression_names_step addend_names_step factor_names_step

abbrev pub statement_names_step : StmtTree-F Names → Names
statement_names_step (Set at name value) = name ∷ expression_names value
statement_names_step (If at when body other) =
    expression_names when ++ (all_names body ++ all_names other)
statement_names_step (Return at value) = expression_names value

abbrev pub statement_names : StmtTree → Names
statement_names = fold-StmtTree Names statement_names_step

abbrev pub declared_name : Decl → List ℕ
declared_name (decls.Const at name value) = name
declared_name (decls.Param at name value limit) = name
declared_name (decls.Int at name value) = name
declared_name (decls.Copied at name source) = name
declared_name (decls.Flag at name value) = name

-- the names that a declaration uses
abbrev pub used_names : Decl → Names
used_names (decls.Const at name value) = []
used_names (decls.Param at name value limit) = limit.subject.name ∷ []
used_names (decls.Int at name value) = []
used_names (decls.Copied at name source) = source.name ∷ []
used_names (decls.Flag at name value) = []

abbrev pub declaration_names : Decl → Names
declaration_names declared = declared_name declared ∷ used_names declared

abbrev pub block_names : BlockTree → Names
block_names block = expression_names block.guard ++ flat_map statement_names block.body

abbrev pub method_names : MethodTree → Names
method_names method =
    method.name ∷ (map (λ input. input.name) method.inputs
    ++ (map declared_name method.locals ++ flat_map block_names method.blocks))

abbrev pub names_in : MonitorTree → Names
names_in tree =
    tree.name
    ∷ (flat_map declaration_names tree.decls ++ flat_map method_names tree.methods)

-- ---- client files

abbrev pub item_names_step : Item-F Names → Names
item_names_step (Call at tries place name args) = name ∷ []
item_names_step (Repeat at times items) = all_names items

abbrev pub item_names : Item → Names
item_names = fold-Item Names item_names_step

abbrev pub client_names : ClientTree → Names
client_names client = client.name ∷ flat_map item_names client.items

abbrev pub names_in_clients : ClientsTree → Names
names_in_clients tree = flat_map client_names tree.clients
