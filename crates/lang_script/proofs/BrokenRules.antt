-- The faults that are listed of a tree are the rules that it breaks.
use Rattle.std.proofs.Common.{◌≡◌, ◌≢◌, ℕ, ◌<◌, Bool, true, false, List, [], ◌∷◌, ◌++◌, length, map, refl, sym, subst, arith, inl, inr, Option, Some, None}
use Rattle.std.specs.Prelude.{◌↔◌, ◌==◌, nat_lt, if◌then◌else◌, slice_get, zip}
use Rattle.std.specs.List.{Contains, flat_map}
use Rattle.std.proofs.lemmas.Bool.{cases_Bool}
use Rattle.std.proofs.lemmas.Bool.Decides.{nat_tests}
use Rattle.std.proofs.lemmas.List.Elements.{Contains-append_cases, Contains-append_left, Contains-append_right}
use Rattle.lang_tree.specs.declared.tree.Arg.{Arg}
use Rattle.lang_tree.specs.declared.tree.Arg.TheVariants as args
use Rattle.lang_tree.specs.declared.tree.Lit.{Lit}
use Rattle.lang_tree.specs.declared.tree.Item.{Item}
use Rattle.lang_tree.specs.declared.tree.ClientsTree.{ClientsTree}
use Rattle.lang_base.specs.Limits.{CLIENTS, GREATEST_NUMBER}
use Rattle.lang_base.specs.declared.kind.Kind.{Kind}
use Rattle.lang_monitor.specs.MonitorParts.{MonitorParts}
use Rattle.lang_base.specs.SourceFaults.{fault_at}
use Rattle.lang_base.specs.declared.source_fault.SourceFault.{SourceFault}
use Rattle.lang_base.specs.declared.source_fault.Refusal.{Refusal}
use Rattle.lang_base.specs.declared.source_fault.Refusal.TheVariants as refusals
use Rattle.lang_script.specs.Scripts.{method_named}
use Rattle.lang_script.specs.Faults.{PlacedCall, argument_faults, argument_place, call_faults, doubled, faults_of, inputs_of, is_for, item_faults, items_in, method_faults, number_faults, over_calls, over_clients, place_of, placed_calls, too_many_at, type_faults}
use Rattle.lang_script.specs.ScriptRules.{Breaks, BreaksRule, CallsMethod}
use Rattle.lang_base.proofs.Members.{contains_head, from_flat_map, in_flat_map, none_in, only_in}
use Rattle.lang_script.proofs.Doubled.{from_doubled, in_doubled}
use Rattle.lang_script.proofs.OverCalls.{from_over, in_over}

equal_from : (a b : ℕ) → (a == b) ≡ true → a ≡ b
equal_from a b test = grind (arith, nat_tests)

equal_test : (a b : ℕ) → a ≡ b → (a == b) ≡ true
equal_test a b same = grind (arith, nat_tests)

differ_test : (a b : ℕ) → a ≢ b → (a == b) ≡ false
differ_test a b other = elim (cases_Bool (a == b)) [ inl same ↦ absurd (other (equal_from a b same)) | inr test ↦ test ]

differ_from : (a b : ℕ) → (a == b) ≡ false → a ≢ b
differ_from a b test same = let equal = equal_test a b same in cc

less_from : (a b : ℕ) → nat_lt a b ≡ true → a < b
less_from a b test = grind (arith, nat_tests)

less_test : (a b : ℕ) → a < b → nat_lt a b ≡ true
less_test a b less = grind (arith, nat_tests)

module _ (monitor : MonitorParts) (tree : ClientsTree) where
  abbrev calls : List PlacedCall
  calls = flat_map placed_calls (items_in tree.clients)

  -- ---- what a fault of a call breaks

  module _ (call : PlacedCall) (stands : Contains calls call) (fault : SourceFault) where
    from_number : (argument : Arg) → Contains call.arguments argument → Contains (number_faults argument) fault → Breaks monitor tree fault
    from_number (args.Bool at value) one within = none_in fault within
    from_number (args.Int at value) one within = by_test (nat_lt GREATEST_NUMBER value.digits) refl within
      where
        by_test : (test : Bool) → nat_lt GREATEST_NUMBER value.digits ≡ test → Contains (if test then fault_at refusals.TooLarge value.at ∷ [] else []) fault → Breaks monitor tree fault
        by_test true large found = subst (Breaks monitor tree) (only_in (fault_at refusals.TooLarge value.at) fault found) (call, stands, (at, value, one, refl, less_from GREATEST_NUMBER value.digits large))
        by_test false small found = none_in fault found

    from_type : (method : ℕ) → CallsMethod monitor call method → length call.arguments ≡ length (inputs_of monitor method)
        → (pair : Kind × Arg) → Contains (zip (inputs_of monitor method) call.arguments) pair → Contains (type_faults pair) fault → Breaks monitor tree fault
    from_type method calls_it same (kind, argument) one within = by_test (is_for kind argument) refl within
      where
        by_test : (test : Bool) → is_for kind argument ≡ test → Contains (if test then [] else fault_at refusals.WrongType (argument_place argument) ∷ []) fault → Breaks monitor tree fault
        by_test true fits found = none_in fault found
        by_test false other found = subst (Breaks monitor tree) (only_in (fault_at refusals.WrongType (argument_place argument)) fault found) (call, stands, (method, kind, argument, calls_it, same, one, other, refl))

    from_arguments : (method : ℕ) → CallsMethod monitor call method → Contains (argument_faults (inputs_of monitor method) call.name_at call.arguments) fault → Breaks monitor tree fault
    from_arguments method calls_it within = by_test (length call.arguments == length (inputs_of monitor method)) refl within
      where
        by_test : (test : Bool) → (length call.arguments == length (inputs_of monitor method)) ≡ test
            → Contains (if test then flat_map type_faults (zip (inputs_of monitor method) call.arguments) else fault_at refusals.WrongCount call.name_at ∷ []) fault → Breaks monitor tree fault
        by_test true same found =
            let source = from_flat_map type_faults (zip (inputs_of monitor method) call.arguments) fault found in
            from_type method calls_it (equal_from (length call.arguments) (length (inputs_of monitor method)) same) source.from source.one source.within
        by_test false other found =
            subst (Breaks monitor tree) (only_in (fault_at refusals.WrongCount call.name_at) fault found)
            (call, stands, (method, refl, calls_it, differ_from (length call.arguments) (length (inputs_of monitor method)) other))

    from_method : (named : Option ℕ) → method_named monitor call.name ≡ named → Contains (method_faults monitor call.name_at call.arguments named) fault → Breaks monitor tree fault
    from_method None unknown within = subst (Breaks monitor tree) (only_in (fault_at refusals.UnknownMethod call.name_at) fault within) (call, stands, (refl, unknown))
    from_method (Some method) calls_it within = from_arguments method calls_it within

    from_call : Contains (call_faults monitor call) fault → Breaks monitor tree fault
    from_call within = elim (Contains-append_cases (method_faults monitor call.name_at call.arguments (method_named monitor call.name)) (flat_map number_faults call.arguments) fault within) [
      | inl here ↦ from_method (method_named monitor call.name) refl here
      | inr numbers ↦ let source = from_flat_map number_faults call.arguments fault numbers in from_number source.from source.one source.within
    ]

  from_items : (fault : SourceFault) → Contains (flat_map (item_faults monitor) (items_in tree.clients)) fault → Breaks monitor tree fault
  from_items fault within =
      let item = from_flat_map (item_faults monitor) (items_in tree.clients) fault within in
      let call = from_flat_map (call_faults monitor) (placed_calls item.from) fault item.within in
      from_call call.from (in_flat_map placed_calls (items_in tree.clients) item.from call.from item.one call.one) fault call.within

  -- ---- what a fault of the clients breaks

  from_clients : (fault : SourceFault) → Contains (doubled [] tree.clients) fault → Breaks monitor tree fault
  from_clients fault within =
      let found = from_doubled [] tree.clients fault within in
      subst (Breaks monitor tree) (sym found.is) (found.before, found.client, found.after, found.split, found.earlier, refl)

  from_over_clients : (fault : SourceFault) → Contains (over_clients tree.clients) fault → Breaks monitor tree fault
  from_over_clients fault within = by_place (slice_get (map (λ client. client.at) tree.clients) CLIENTS) refl within
    where
      by_place : (at : Option ℕ) → slice_get (map (λ client. client.at) tree.clients) CLIENTS ≡ at → Contains (too_many_at at) fault → Breaks monitor tree fault
      by_place None is found = none_in fault found
      by_place (Some at) is found = subst (Breaks monitor tree) (only_in (fault_at refusals.TooManyClients at) fault found) is

  from_over_calls : (fault : SourceFault) → Contains (over_calls 0 (items_in tree.clients)) fault → Breaks monitor tree fault
  from_over_calls fault within =
      let found = from_over 0 (items_in tree.clients) fault (omega arith) within in
      subst (Breaks monitor tree) (sym found.is) (found.before, found.item, found.after, found.split, omega (arith, found.within), omega (arith, found.above), refl)

  from_faults : (fault : SourceFault) → Contains (faults_of monitor tree) fault → Breaks monitor tree fault
  from_faults fault within =
      let items = flat_map (item_faults monitor) (items_in tree.clients) in
      let names = doubled [] tree.clients in
      let over = over_clients tree.clients in
      elim (Contains-append_cases (items ++ names ++ over) (over_calls 0 (items_in tree.clients)) fault within) [
        | inr calls ↦ from_over_calls fault calls
        | inl front ↦ elim (Contains-append_cases (items ++ names) over fault front) [
          | inr clients ↦ from_over_clients fault clients
          | inl both ↦ elim (Contains-append_cases items names fault both) [
            | inl here ↦ from_items fault here
            | inr doubled ↦ from_clients fault doubled
          ]
        ]
      ]

  -- ---- a broken rule is listed

  by_call : (fault : SourceFault) → Contains (flat_map (item_faults monitor) (items_in tree.clients)) fault → Contains (faults_of monitor tree) fault
  by_call fault within =
      let items = flat_map (item_faults monitor) (items_in tree.clients) in
      let names = doubled [] tree.clients in
      let over = over_clients tree.clients in
      Contains-append_left (items ++ names ++ over) (over_calls 0 (items_in tree.clients)) fault
      (Contains-append_left (items ++ names) over fault (Contains-append_left items names fault within))

  by_name : (fault : SourceFault) → Contains (doubled [] tree.clients) fault → Contains (faults_of monitor tree) fault
  by_name fault within =
      let items = flat_map (item_faults monitor) (items_in tree.clients) in
      let names = doubled [] tree.clients in
      let over = over_clients tree.clients in
      Contains-append_left (items ++ names ++ over) (over_calls 0 (items_in tree.clients)) fault
      (Contains-append_left (items ++ names) over fault (Contains-append_right items names fault within))

  by_client : (fault : SourceFault) → Contains (over_clients tree.clients) fault → Contains (faults_of monitor tree) fault
  by_client fault within =
      let items = flat_map (item_faults monitor) (items_in tree.clients) in
      let names = doubled [] tree.clients in
      let over = over_clients tree.clients in
      Contains-append_left (items ++ names ++ over) (over_calls 0 (items_in tree.clients)) fault (Contains-append_right (items ++ names) over fault within)

  by_count : (fault : SourceFault) → Contains (over_calls 0 (items_in tree.clients)) fault → Contains (faults_of monitor tree) fault
  by_count fault within =
      let items = flat_map (item_faults monitor) (items_in tree.clients) in
      let names = doubled [] tree.clients in
      let over = over_clients tree.clients in
      Contains-append_right (items ++ names ++ over) (over_calls 0 (items_in tree.clients)) fault within

  -- a fault of a call that stands in the tree
  in_call : (fault : SourceFault) (call : PlacedCall) → Contains calls call → Contains (call_faults monitor call) fault → Contains (faults_of monitor tree) fault
  in_call fault call stands within =
      let item = from_flat_map placed_calls (items_in tree.clients) call stands in
      by_call fault (in_flat_map (item_faults monitor) (items_in tree.clients) item.from fault item.one (in_flat_map (call_faults monitor) (placed_calls item.from) call fault item.within within))

  in_method : (fault : SourceFault) (call : PlacedCall) (named : Option ℕ) → method_named monitor call.name ≡ named → Contains (method_faults monitor call.name_at call.arguments named) fault → Contains (call_faults monitor call) fault
  in_method fault call named is within =
      Contains-append_left (method_faults monitor call.name_at call.arguments (method_named monitor call.name)) (flat_map number_faults call.arguments) fault
      (subst (λ (n : Option ℕ). Contains (method_faults monitor call.name_at call.arguments n) fault) (sym is) within)

  in_number : (call : PlacedCall) (at : ℕ) (value : Lit) → Contains call.arguments (args.Int at value) → GREATEST_NUMBER < value.digits → Contains (call_faults monitor call) (fault_at refusals.TooLarge value.at)
  in_number call at value one large =
      let here : Contains (number_faults (args.Int at value)) (fault_at refusals.TooLarge value.at) = rw (less_test GREATEST_NUMBER value.digits large) (contains_head (fault_at refusals.TooLarge value.at) []) in
      Contains-append_right (method_faults monitor call.name_at call.arguments (method_named monitor call.name)) (flat_map number_faults call.arguments) (fault_at refusals.TooLarge value.at)
      (in_flat_map number_faults call.arguments (args.Int at value) (fault_at refusals.TooLarge value.at) one here)

  in_count : (call : PlacedCall) (method : ℕ) → length call.arguments ≢ length (inputs_of monitor method) → Contains (argument_faults (inputs_of monitor method) call.name_at call.arguments) (fault_at refusals.WrongCount call.name_at)
  in_count call method other = rw (differ_test (length call.arguments) (length (inputs_of monitor method)) other) (contains_head (fault_at refusals.WrongCount call.name_at) [])

  in_type : (call : PlacedCall) (method : ℕ) (kind : Kind) (argument : Arg) → length call.arguments ≡ length (inputs_of monitor method) → Contains (zip (inputs_of monitor method) call.arguments) (kind, argument) → is_for kind argument ≡ false
      → Contains (argument_faults (inputs_of monitor method) call.name_at call.arguments) (fault_at refusals.WrongType (argument_place argument))
  in_type call method kind argument same one other =
      let pairs = zip (inputs_of monitor method) call.arguments in
      let here : Contains (type_faults (kind, argument)) (fault_at refusals.WrongType (argument_place argument)) = rw other (contains_head (fault_at refusals.WrongType (argument_place argument)) []) in
      rw (equal_test (length call.arguments) (length (inputs_of monitor method)) same) (in_flat_map type_faults pairs (kind, argument) (fault_at refusals.WrongType (argument_place argument)) one here)

  abbrev Listed : SourceFault → Type 0
  Listed fault = Contains (faults_of monitor tree) fault

  in_faults : (what : Refusal) (at : ℕ) → BreaksRule monitor tree what at → Listed (fault_at what at)
  in_faults refusals.UnknownMethod at (call, stands, (here, unknown)) =
      subst (λ (n : ℕ). Listed (fault_at refusals.UnknownMethod n)) here
      (in_call (fault_at refusals.UnknownMethod call.name_at) call stands (in_method (fault_at refusals.UnknownMethod call.name_at) call None unknown (contains_head (fault_at refusals.UnknownMethod call.name_at) [])))
  in_faults refusals.WrongCount at (call, stands, (method, here, calls_it, other)) =
      subst (λ (n : ℕ). Listed (fault_at refusals.WrongCount n)) here
      (in_call (fault_at refusals.WrongCount call.name_at) call stands (in_method (fault_at refusals.WrongCount call.name_at) call (Some method) calls_it (in_count call method other)))
  in_faults refusals.WrongType at (call, stands, (method, kind, argument, calls_it, same, one, other, here)) =
      let fault = fault_at refusals.WrongType (argument_place argument) in
      subst (λ (n : ℕ). Listed (fault_at refusals.WrongType n)) here
      (in_call fault call stands (in_method fault call (Some method) calls_it (in_type call method kind argument same one other)))
  in_faults refusals.TooLarge at (call, stands, (sign, value, one, here, large)) =
      subst (λ (n : ℕ). Listed (fault_at refusals.TooLarge n)) here (in_call (fault_at refusals.TooLarge value.at) call stands (in_number call sign value one large))
  in_faults refusals.DuplicateClient at (before, client, after, split, among, here) =
      subst (λ (n : ℕ). Listed (fault_at refusals.DuplicateClient n)) here (by_name (fault_at refusals.DuplicateClient client.at) (in_doubled tree.clients before client after split among))
  in_faults refusals.TooManyClients at is =
      by_client (fault_at refusals.TooManyClients at) (subst (λ (o : Option ℕ). Contains (too_many_at o) (fault_at refusals.TooManyClients at)) (sym is) (contains_head (fault_at refusals.TooManyClients at) []))
  in_faults refusals.TooManyCalls at (before, item, after, split, within, above, here) =
      subst (λ (n : ℕ). Listed (fault_at refusals.TooManyCalls n)) here
      (by_count (fault_at refusals.TooManyCalls (place_of item)) (subst (λ (items : List Item). Contains (over_calls 0 items) (fault_at refusals.TooManyCalls (place_of item))) (sym split) (in_over 0 before item after (omega (arith, within)) (omega (arith, above)))))
  in_faults refusals.Lex at breaks = absurd breaks
  in_faults refusals.Syntax at breaks = absurd breaks
  in_faults refusals.Unknown at breaks = absurd breaks
  in_faults refusals.Duplicate at breaks = absurd breaks
  in_faults refusals.NotLinear at breaks = absurd breaks
  in_faults (refusals.TooMany counted) at breaks = absurd breaks
  in_faults refusals.ReadOnly at breaks = absurd breaks
  in_faults refusals.Misplaced at breaks = absurd breaks
  in_faults refusals.WrongStart at breaks = absurd breaks

  pub exactly_broken : (fault : SourceFault) → Contains (faults_of monitor tree) fault ↔ Breaks monitor tree fault
  exactly_broken fault = (from_faults fault, in_faults fault.what fault.at)
