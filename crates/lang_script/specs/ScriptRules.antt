-- The rules of client files, one by one: a tree breaks a rule at a place.
use Rattle.std.specs.Prelude.{◌≡◌, ◌≢◌, ℕ, ◌<◌, ◌≤◌, ◌↔◌, false, List, [], ◌∷◌, ◌++◌, length, map}
use Rattle.std.specs.Prelude.{Contains, Some, None, slice_get, sum_by, zip}
use Rattle.std.specs.List.{flat_map}
use Rattle.lang_tree.specs.declared.tree.Lit.{Lit}
use Rattle.lang_tree.specs.declared.tree.Arg.{Arg}
use Rattle.lang_tree.specs.declared.tree.Arg.TheVariants as args
use Rattle.lang_tree.specs.declared.tree.Item.{Item}
use Rattle.lang_tree.specs.declared.tree.ClientTree.{ClientTree}
use Rattle.lang_tree.specs.declared.tree.ClientsTree.{ClientsTree}
use Rattle.lang_base.specs.Limits.{CALLS, CLIENTS, GREATEST_NUMBER}
use Rattle.lang_base.specs.declared.kind.Kind.{Kind}
use Rattle.lang_monitor.specs.MonitorParts.{MonitorParts}
use Rattle.lang_base.specs.declared.source_fault.SourceFault.{SourceFault}
use Rattle.lang_base.specs.declared.source_fault.Refusal.{Refusal}
use Rattle.lang_base.specs.declared.source_fault.Refusal.TheVariants as refusals
use Rattle.lang_script.specs.Scripts.{call_count, method_named}
use Rattle.lang_script.specs.Faults.{PlacedCall, argument_place, faults_of, inputs_of, is_for}
use Rattle.lang_script.specs.Faults.{items_in, place_of, placed_calls}

-- some call of the tree is such a one, in a `repeat` or in none
abbrev pub OfCall : ClientsTree → (PlacedCall → Type 0) → Type 0
OfCall tree P =
    (call : PlacedCall) × Contains (flat_map placed_calls (items_in tree.clients)) call × P call

-- the call is one of the method with this number
abbrev pub CallsMethod : MonitorParts → PlacedCall → ℕ → Type 0
CallsMethod monitor call method = method_named monitor call.name ≡ Some method

-- the called name is no method; the place is the name's
abbrev pub BreaksUnknownMethod : MonitorParts → ClientsTree → ℕ → Type 0
BreaksUnknownMethod monitor tree place =
    OfCall tree (λ call. (call.name_at ≡ place) × (method_named monitor call.name ≡ None))

-- the call has more or fewer arguments than the method has inputs; the place is the name's
abbrev pub BreaksWrongCount : MonitorParts → ClientsTree → ℕ → Type 0
BreaksWrongCount monitor tree place = OfCall tree (λ call.
    (method : ℕ) × (call.name_at ≡ place) × CallsMethod monitor call method
    × (length call.arguments ≢ length (inputs_of monitor method)))

-- an argument is a number for a bool or a truth value for an int; asked where the count agrees
abbrev pub BreaksWrongType : MonitorParts → ClientsTree → ℕ → Type 0
BreaksWrongType monitor tree place = OfCall tree (λ call.
    (method : ℕ) × (kind : Kind) × (argument : Arg) × CallsMethod monitor call method
    × (length call.arguments ≡ length (inputs_of monitor method))
    × Contains (zip (inputs_of monitor method) call.arguments) (kind, argument)
    × (is_for kind argument ≡ false) × (argument_place argument ≡ place))

-- a written number of an argument is above the greatest one
abbrev pub BreaksTooLarge : ClientsTree → ℕ → Type 0
BreaksTooLarge tree place = OfCall tree (λ call.
    (at : ℕ) × (value : Lit) × Contains call.arguments (args.Int at value)
    × (value.at ≡ place) × (GREATEST_NUMBER < value.digits))

-- a client has the name of an earlier one
abbrev pub BreaksDuplicateClient : ClientsTree → ℕ → Type 0
BreaksDuplicateClient tree place =
    (before : List ClientTree) × (client : ClientTree) × (after : List ClientTree)
    × (tree.clients ≡ before ++ client ∷ after)
    × Contains (map (λ other. other.name) before) client.name
    × (client.at ≡ place)

-- it is the first client over the limit
abbrev pub BreaksTooManyClients : ClientsTree → ℕ → Type 0
BreaksTooManyClients tree place =
    slice_get (map (λ client. client.at) tree.clients) CLIENTS ≡ Some place

-- it is the first item, of those that stand directly in clients, with which the calls of the file
-- are above the limit, with each `repeat` written out
abbrev pub BreaksTooManyCalls : ClientsTree → ℕ → Type 0
BreaksTooManyCalls tree place =
    (before : List Item) × (item : Item) × (after : List Item)
    × (items_in tree.clients ≡ before ++ item ∷ after)
    × (sum_by call_count before ≤ CALLS)
    × (CALLS < sum_by call_count (before ++ item ∷ []))
    × (place_of item ≡ place)

-- the tree breaks this rule at this place; rules of tokens, of the grammar and of monitors are no
-- rules of clients
abbrev pub BreaksRule : MonitorParts → ClientsTree → Refusal → ℕ → Type 0
BreaksRule monitor tree refusals.UnknownMethod place = BreaksUnknownMethod monitor tree place
BreaksRule monitor tree refusals.WrongCount place = BreaksWrongCount monitor tree place
BreaksRule monitor tree refusals.WrongType place = BreaksWrongType monitor tree place
BreaksRule monitor tree refusals.TooLarge place = BreaksTooLarge tree place
BreaksRule monitor tree refusals.DuplicateClient place = BreaksDuplicateClient tree place
BreaksRule monitor tree refusals.TooManyClients place = BreaksTooManyClients tree place
BreaksRule monitor tree refusals.TooManyCalls place = BreaksTooManyCalls tree place
BreaksRule monitor tree what place = ⊥

-- the tree breaks the rule of a fault at its place
abbrev pub Breaks : MonitorParts → ClientsTree → SourceFault → Type 0
Breaks monitor tree fault = BreaksRule monitor tree fault.what fault.at

-- the faults that are listed are exactly the rules that the tree breaks, each at its place
abbrev pub ListsBrokenRules : MonitorParts → ClientsTree → Type 0
ListsBrokenRules monitor tree =
    (fault : SourceFault) → Contains (faults_of monitor tree) fault ↔ Breaks monitor tree fault
