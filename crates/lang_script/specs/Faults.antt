-- The faults of a client file's tree, as a list.
use Rattle.std.specs.Prelude.{ℕ, ◌+◌, Bool, true, false, ◌==◌, nat_lt, if◌then◌else◌, List, [], ◌∷◌}
use Rattle.std.specs.Prelude.{◌++◌, length, map, Option, Some, None, slice_get, zip}
use Rattle.std.specs.List.{flat_map, list_any}
use Rattle.std.specs.Str.{bytes_eq}
use Rattle.lang_tree.specs.declared.tree.Arg.{Arg}
use Rattle.lang_tree.specs.declared.tree.Arg.TheVariants as args
use Rattle.lang_tree.specs.declared.tree.Item.{Item, out-Item}
use Rattle.lang_tree.specs.declared.tree.Item.TheOpen.{Item-F, Call, Repeat}
use Rattle.lang_tree.specs.declared.tree.Item.TheFolds.{fold-Item}
use Rattle.lang_tree.specs.declared.tree.ClientTree.{ClientTree}
use Rattle.lang_tree.specs.declared.tree.ClientsTree.{ClientsTree}
use Rattle.lang_base.specs.Limits.{CALLS, CLIENTS, GREATEST_NUMBER}
use Rattle.lang_base.specs.SourceFaults.{fault_at}
use Rattle.lang_base.specs.declared.source_fault.SourceFault.{SourceFault}
use Rattle.lang_base.specs.declared.source_fault.Refusal.TheVariants as refusals
use Rattle.lang_base.specs.declared.kind.Kind.{Kind}
use Rattle.lang_base.specs.declared.kind.Kind.TheVariants as kinds
use Rattle.lang_monitor.specs.MonitorParts.{MonitorParts}
use Rattle.machine_implicit.specs.Steps.{kinds_in}
use Rattle.lang_script.specs.Scripts.{call_count, joined, method_named}

-- ---- what stands in a tree

-- the items that stand directly in clients, in the order of the file
abbrev pub items_in : List ClientTree → List Item
items_in clients = flat_map (λ client. client.items) clients

abbrev pub place_step : Item-F Item → ℕ
place_step (Call at tries place name arguments) = at
place_step (Repeat at times inner) = at

-- the offset of an item's first token
abbrev pub place_of : Item → ℕ
place_of item = place_step (out-Item item)

-- a call as it stands in the file, with the offset of its name
pub record PlacedCall : Type 0 where
  pub name_at : ℕ
  pub name : List ℕ
  pub arguments : List Arg

abbrev pub placed_step : Item-F (List PlacedCall) → List PlacedCall
placed_step (Call at tries place called given) =
    record { name_at = place; name = called; arguments = given } ∷ []
placed_step (Repeat here times inner) = joined inner

-- the calls that stand in an item, those in a `repeat` too, each once
abbrev pub placed_calls : Item → List PlacedCall
placed_calls = fold-Item (List PlacedCall) placed_step

-- ---- arguments

-- the offset of an argument's first token
abbrev pub argument_place : Arg → ℕ
argument_place (args.Int at value) = at
argument_place (args.Bool at value) = at

-- the argument is one for an input of this kind: a number for an int, a truth value for a bool
abbrev pub is_for : Kind → Arg → Bool
is_for kinds.Int (args.Int at value) = true
is_for kinds.Bool (args.Bool at value) = true
is_for kind argument = false

abbrev pub number_faults : Arg → List SourceFault
number_faults (args.Int at value) =
    if nat_lt GREATEST_NUMBER value.digits then fault_at refusals.TooLarge value.at ∷ [] else []
number_faults (args.Bool at value) = []

abbrev pub type_faults : Kind × Arg → List SourceFault
type_faults (kind, argument) =
    if is_for kind argument then [] else fault_at refusals.WrongType (argument_place argument) ∷ []

-- ---- calls

-- the kinds of the inputs of the method with this number
abbrev pub inputs_of : MonitorParts → ℕ → List Kind
inputs_of monitor method = kinds_in (slice_get monitor.methods method)

-- there are as many arguments as inputs, and then each is for its input
abbrev pub argument_faults : List Kind → ℕ → List Arg → List SourceFault
argument_faults inputs at given =
    if length given == length inputs then flat_map type_faults (zip inputs given)
    else fault_at refusals.WrongCount at ∷ []

-- the name is a method's, and then the arguments are for its inputs
abbrev pub method_faults : MonitorParts → ℕ → List Arg → Option ℕ → List SourceFault
method_faults monitor at given None = fault_at refusals.UnknownMethod at ∷ []
method_faults monitor at given (Some method) = argument_faults (inputs_of monitor method) at given

abbrev pub call_faults : MonitorParts → PlacedCall → List SourceFault
call_faults monitor call =
    method_faults monitor call.name_at call.arguments (method_named monitor call.name)
    ++ flat_map number_faults call.arguments

abbrev pub item_faults : MonitorParts → Item → List SourceFault
item_faults monitor item = flat_map (call_faults monitor) (placed_calls item)

-- ---- clients

abbrev pub is_among : List ClientTree → List ℕ → Bool
is_among clients name = list_any (λ other. bytes_eq other.name name) clients

-- clients with the name of an earlier one
abbrev pub doubled : List ClientTree → List ClientTree → List SourceFault
doubled before [] = []
doubled before (client ∷ more) =
    (if is_among before client.name then fault_at refusals.DuplicateClient client.at ∷ [] else [])
    ++ doubled (before ++ client ∷ []) more

abbrev pub too_many_at : Option ℕ → List SourceFault
too_many_at None = []
too_many_at (Some at) = fault_at refusals.TooManyClients at ∷ []

-- the first client over the limit
abbrev pub over_clients : List ClientTree → List SourceFault
over_clients clients = too_many_at (slice_get (map (λ client. client.at) clients) CLIENTS)

-- after so many calls, the first item with which there are more than the limit
abbrev pub over_calls : ℕ → List Item → List SourceFault
over_calls before [] = []
over_calls before (item ∷ more) =
    if nat_lt CALLS (before + call_count item)
    then fault_at refusals.TooManyCalls (place_of item) ∷ []
    else over_calls (before + call_count item) more

-- ---- files

-- each rule that the tree breaks, and where; of too many things the first over the limit
abbrev pub faults_of : MonitorParts → ClientsTree → List SourceFault
faults_of monitor tree =
    flat_map (item_faults monitor) (items_in tree.clients)
    ++ doubled [] tree.clients
    ++ over_clients tree.clients
    ++ over_calls 0 (items_in tree.clients)
