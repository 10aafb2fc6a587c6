-- The scripts that the tree of a client file stands for: its calls, with each `repeat` written out.
use Rattle.std.specs.Prelude.{◌≡◌, ℕ, ◌*◌, ℤ, pos, neg_ℤ, Bool, if◌then◌else◌, List, [], ◌∷◌, map}
use Rattle.std.specs.Prelude.{◌||◌, replicate, slice_get, sum, Option, position, unwrap_or}
use Rattle.std.specs.List.{flat_map}
use Rattle.std.specs.Str.{bytes_eq}
use Rattle.lang_tree.specs.declared.tree.Lit.{Lit}
use Rattle.lang_tree.specs.declared.tree.Arg.{Arg}
use Rattle.lang_tree.specs.declared.tree.Arg.TheVariants as args
use Rattle.lang_tree.specs.declared.tree.Item.{Item}
use Rattle.lang_tree.specs.declared.tree.Item.TheOpen.{Item-F, Call, Repeat}
use Rattle.lang_tree.specs.declared.tree.Item.TheFolds.{fold-Item}
use Rattle.lang_tree.specs.declared.tree.ClientTree.{ClientTree}
use Rattle.lang_tree.specs.declared.tree.ClientsTree.{ClientsTree}
use Rattle.lang_base.specs.declared.value.Value.{Value}
use Rattle.lang_base.specs.declared.value.Value.TheVariants as values
use Rattle.lang_monitor.specs.MonitorParts.{MonitorParts, asserts_in}
use Rattle.machine_implicit.specs.declared.script.Call.{Call as ScriptCall}
use Rattle.machine_implicit.specs.declared.script.Client.{Client}

abbrev pub number_of : Lit → ℤ
number_of literal = if literal.minus then neg_ℤ (pos literal.digits) else pos literal.digits

abbrev pub value_of : Arg → Value
value_of (args.Int at value) = values.Int (number_of value)
value_of (args.Bool at value) = values.Bool value

-- the number of the first method of this name; no two methods of a monitor have the same
abbrev pub method_named : MonitorParts → List ℕ → Option ℕ
method_named monitor name = position (λ method. bytes_eq method.name name) monitor.methods

-- the number of that method, where there is one
abbrev pub method_called : MonitorParts → List ℕ → ℕ
method_called monitor name = unwrap_or (method_named monitor name) 0

-- the call of the method of this name with these arguments: it tries where its file says so, and
-- where its method asserts
abbrev pub call_of : MonitorParts → Bool → List ℕ → List Arg → ScriptCall
call_of monitor tries name arguments = record {
  method = method_called monitor name;
  inputs = map value_of arguments;
  tries = tries || asserts_in (slice_get monitor.methods (method_called monitor name));
}

-- one list after the other
abbrev pub joined : {X : Type 0} → List (List X) → List X
joined lists = flat_map (λ list. list) lists

-- a `repeat` is so many copies of what stands in it
abbrev pub calls_step : MonitorParts → Item-F (List ScriptCall) → List ScriptCall
calls_step monitor (Call at tries place name arguments) = call_of monitor tries name arguments ∷ []
calls_step monitor (Repeat at times inner) = joined (replicate times (joined inner))

abbrev pub calls_of_item : MonitorParts → Item → List ScriptCall
calls_of_item monitor = fold-Item (List ScriptCall) (calls_step monitor)

abbrev pub client_of : MonitorParts → ClientTree → Client
client_of monitor client = record {
  name = client.name;
  calls = flat_map (calls_of_item monitor) client.items;
}

abbrev pub clients_of : MonitorParts → ClientsTree → List Client
clients_of monitor tree = map (client_of monitor) tree.clients

-- the scripts are those of the tree
abbrev pub IsScripted : ClientsTree → MonitorParts → List Client → Type 0
IsScripted tree monitor clients = clients ≡ clients_of monitor tree

-- ---- how many calls an item is with each `repeat` written out: a whole number without a bound

abbrev pub count_step : Item-F ℕ → ℕ
count_step (Call at tries place name arguments) = 1
count_step (Repeat at times inner) = times * sum inner

abbrev pub call_count : Item → ℕ
call_count = fold-Item ℕ count_step
