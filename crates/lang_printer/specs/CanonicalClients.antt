-- The canonical form of a client file: what its tree is printed as.
use Rattle.std.specs.Prelude.{ℕ, ◌+◌, Bool, true, false, List, [], ◌++◌, map, codes, decimal}
use Rattle.std.specs.List.{flat_map}
use Rattle.lang_tree.specs.declared.tree.Arg.{Arg}
use Rattle.lang_tree.specs.declared.tree.Arg.TheVariants as args
use Rattle.lang_tree.specs.declared.tree.Item.{Item}
use Rattle.lang_tree.specs.declared.tree.Item.TheOpen.{Item-F, Call, Repeat}
use Rattle.lang_tree.specs.declared.tree.Item.TheFolds.{fold-Item}
use Rattle.lang_tree.specs.declared.tree.ClientTree.{ClientTree}
use Rattle.lang_tree.specs.declared.tree.ClientsTree.{ClientsTree}
use Rattle.lang_printer.specs.Canonical.{joined, truth_text, literal_text, indent}

abbrev pub argument_text : Arg → List ℕ
argument_text (args.Int at value) = literal_text value
argument_text (args.Bool at value) = truth_text value

abbrev pub arguments_text : List Arg → List ℕ
arguments_text given = joined (codes ", ") (map argument_text given)

-- what stands before the name of a call
abbrev pub try_text : Bool → List ℕ
try_text true = codes "try "
try_text false = []

-- the lines of an item, by the depth where it stands
abbrev pub item_step : Item-F (ℕ → List ℕ) → ℕ → List ℕ
item_step (Call at tries place name given) depth =
    indent depth ++ try_text tries ++ name ++ codes "(" ++ arguments_text given ++ codes ");\n"
item_step (Repeat at times body) depth =
    indent depth ++ codes "repeat " ++ decimal times ++ codes " {\n"
    ++ flat_map (λ lines. lines (depth + 1)) body ++ indent depth ++ codes "}\n"

abbrev pub item_text : Item → ℕ → List ℕ
item_text = fold-Item (ℕ → List ℕ) item_step

abbrev pub client_text : ClientTree → List ℕ
client_text client =
    codes "client " ++ client.name ++ codes " {\n"
    ++ flat_map (λ item. item_text item 1) client.items ++ codes "}\n"

abbrev pub clients_text : ClientsTree → List ℕ
clients_text tree = flat_map client_text tree.clients
