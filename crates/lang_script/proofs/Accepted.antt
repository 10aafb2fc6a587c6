-- What follows where a tree breaks no rule: its scripts fit the monitor and keep the rule of
-- scripts.
use Rattle.std.proofs.Common.{◌≡◌, ◌≢◌, ◌==◌, ℕ, zero, suc, ◌+◌, ◌<◌, ◌≤◌, Bool, true, false, List, [], ◌∷◌, ◌++◌, length, take, drop, get_or, map, replicate, All, refl, sym, ap, subst, ◌∙◌, arith, inl, inr, Option, Some, None, append_assoc}
use Rattle.std.specs.Prelude.{◌||◌, if◌then◌else◌, nat_lt, sum_by, slice_get, unwrap_or, position, zip}
use Rattle.std.specs.List.{AllPairs, Contains, flat_map}
use Rattle.std.specs.Str.{bytes_eq}
use Rattle.std.proofs.lemmas.Bool.{cases_Bool}
use Rattle.std.proofs.lemmas.Bool.Decides.{nat_tests}
use Rattle.std.proofs.lemmas.List.{length-map, length-take, get_or-map, get_or-take, take-append-drop, take_more}
use Rattle.std.proofs.lemmas.List.Elements.{All-nil, All-cons, All-append, All-head, All-tail, All-map, All-same, All-weaker, Contains-get_or}
use Rattle.std.proofs.lemmas.List.Quantifiers.{position-Some}
use Rattle.std.proofs.lemmas.List.Sums.{sum_by-cons, sum_by-append}
use Rattle.std.proofs.lemmas.Option.{slice_get-get_or}
use Rattle.lang_base.specs.Identifiers.{IsIdentifier}
use Rattle.lang_base.specs.Limits.{CALLS, CLIENTS, GREATEST_NUMBER}
use Rattle.lang_base.specs.declared.kind.Kind.{Kind}
use Rattle.lang_base.specs.declared.kind.Kind.TheVariants as kinds
use Rattle.lang_tree.specs.declared.tree.Arg.{Arg}
use Rattle.lang_tree.specs.declared.tree.Arg.TheVariants as args
use Rattle.lang_tree.specs.declared.tree.Item.{Item}
use Rattle.lang_tree.specs.declared.tree.Item.TheVariants as items
use Rattle.lang_tree.specs.declared.tree.ClientTree.{ClientTree}
use Rattle.lang_tree.specs.declared.tree.ClientsTree.{ClientsTree}
use Rattle.lang_tree.specs.Names.{client_names, item_names, names_in_clients}
use Rattle.lang_monitor.specs.declared.monitor.Method.{Method}
use Rattle.lang_monitor.specs.MonitorParts.{MonitorParts, AreOfKinds, asserts_in}
use Rattle.machine_implicit.specs.declared.script.Call.{Call as ScriptCall}
use Rattle.machine_implicit.specs.declared.script.Client.{Client}
use Rattle.machine_implicit.specs.Scripted.{AreClients, FitsCall, FitsScripts}
use Rattle.lang_base.specs.declared.source_fault.SourceFault.{SourceFault}
use Rattle.lang_base.specs.declared.source_fault.Refusal.TheVariants as refusals
use Rattle.lang_script.specs.Scripts.{call_count, call_of, calls_of_item, client_of, clients_of, joined, method_named, value_of}
use Rattle.lang_base.specs.SourceFaults.{fault_at}
use Rattle.lang_script.specs.Faults.{PlacedCall, argument_faults, argument_place, call_faults, doubled, faults_of, inputs_of, is_for, item_faults, items_in, method_faults, number_faults, over_calls, over_clients, placed_calls, too_many_at, type_faults}
use Rattle.lang_script.specs.inner.Making.{AreSmallItems, HasSmallArguments, IsSmallArgument, IsSmallItem}
use Rattle.lang_script.proofs.Doubled.{in_doubled}
use Rattle.lang_script.proofs.Items.{as_many_calls, by_items, calls-Call, calls-Repeat, faults-Call, faults-Repeat, length-flat_map, placed-Call, placed-Repeat}
use Rattle.lang_base.proofs.Members.{each_empty, in_map, none_in}
use Rattle.lang_script.proofs.OverCalls.{within_calls}

-- ---- empty lists

pub no_front : {X : Type 0} (xs ys : List X) → xs ++ ys ≡ [] → xs ≡ []
no_front [] ys none = refl
no_front (x ∷ xs) ys none = absurd cc

pub no_back : {X : Type 0} (xs ys : List X) → xs ++ ys ≡ [] → ys ≡ []
no_back [] ys none = none
no_back (x ∷ xs) ys none = absurd cc

All-flat_map : {X A : Type 0} (f : X → List A) (P : A → Type 0) (xs : List X) → All (λ x. All P (f x)) xs → All P (flat_map f xs)
All-flat_map f P [] each = All-nil P
All-flat_map f P (x ∷ xs) each =
    All-append P (f x) (flat_map f xs) (All-head (λ y. All P (f y)) x xs each) (All-flat_map f P xs (All-tail (λ y. All P (f y)) x xs each))

parts_of_all : {X A : Type 0} (f : X → List A) (P : A → Type 0) (xs : List X) → All P (flat_map f xs) → All (λ x. All P (f x)) xs
parts_of_all f P [] all = All-nil (λ x. All P (f x))
parts_of_all f P (x ∷ xs) all = All-cons (λ y. All P (f y)) x xs (front P (f x) (flat_map f xs) all) (parts_of_all f P xs (back P (f x) (flat_map f xs) all))
  where
    front : {A : Type 0} (P : A → Type 0) (ys zs : List A) → All P (ys ++ zs) → All P ys
    front P [] zs all = All-nil P
    front P (y ∷ ys) zs all = All-cons P y ys (All-head P y (ys ++ zs) all) (front P ys zs (All-tail P y (ys ++ zs) all))

    back : {A : Type 0} (P : A → Type 0) (ys zs : List A) → All P (ys ++ zs) → All P zs
    back P [] zs all = all
    back P (y ∷ ys) zs all = back P ys zs (All-tail P y (ys ++ zs) all)

-- ---- arguments and calls

number_small : (argument : Arg) → number_faults argument ≡ [] → IsSmallArgument argument
number_small (args.Bool at value) none = tt
number_small (args.Int at value) none = elim (cases_Bool (nat_lt GREATEST_NUMBER value.digits)) [
  | inl large ↦ let h : fault_at refusals.TooLarge value.at ∷ [] ≡ [] = rw large at none in absurd cc
  | inr small ↦ not_less GREATEST_NUMBER value.digits small
]
  where
    not_less : (a b : ℕ) → nat_lt a b ≡ false → b ≤ a
    not_less a b test = grind (arith, nat_tests)

right_kind : (kind : Kind) (argument : Arg) → type_faults (kind, argument) ≡ [] → is_for kind argument ≡ true
right_kind kind argument none = elim (cases_Bool (is_for kind argument)) [
  | inl fits ↦ fits
  | inr other ↦ let h : fault_at refusals.WrongType (argument_place argument) ∷ [] ≡ [] = rw other at none in absurd cc
]

of_kinds : (inputs : List Kind) (given : List Arg) → length given ≡ length inputs → flat_map type_faults (zip inputs given) ≡ [] → AreOfKinds inputs (map value_of given)
of_kinds [] [] same none = tt
of_kinds [] (argument ∷ given) same none = absurd (omega (arith, same))
of_kinds (kind ∷ inputs) [] same none = absurd (omega (arith, same))
of_kinds (kind ∷ inputs) (argument ∷ given) same none =
    by_kind kind argument (right_kind kind argument (no_front (type_faults (kind, argument)) (flat_map type_faults (zip inputs given)) none))
    (of_kinds inputs given (omega (arith, same)) (no_back (type_faults (kind, argument)) (flat_map type_faults (zip inputs given)) none))
  where
    by_kind : (kind : Kind) (argument : Arg) → is_for kind argument ≡ true → AreOfKinds inputs (map value_of given) → AreOfKinds (kind ∷ inputs) (value_of argument ∷ map value_of given)
    by_kind kinds.Int (args.Int at value) fits rest = (tt, rest)
    by_kind kinds.Int (args.Bool at value) fits rest = absurd cc
    by_kind kinds.Bool (args.Int at value) fits rest = absurd cc
    by_kind kinds.Bool (args.Bool at value) fits rest = (tt, rest)

arguments_fit : (inputs : List Kind) (at : ℕ) (given : List Arg) → argument_faults inputs at given ≡ [] → AreOfKinds inputs (map value_of given)
arguments_fit inputs at given none = by_test (length given == length inputs) refl none
  where
    by_test : (test : Bool) → (length given == length inputs) ≡ test → (if test then flat_map type_faults (zip inputs given) else fault_at refusals.WrongCount at ∷ []) ≡ [] → AreOfKinds inputs (map value_of given)
    by_test true same found = of_kinds inputs given (equal_from (length given) (length inputs) same) found
      where
        equal_from : (a b : ℕ) → (a == b) ≡ true → a ≡ b
        equal_from a b test = grind (arith, nat_tests)
    by_test false other found = absurd cc

named_within : (methods : List Method) (name : List ℕ) (method : ℕ) → position (λ m. bytes_eq m.name name) methods ≡ Some method → method < length methods
named_within [] name method found = absurd cc
named_within (one ∷ more) name method found = (position-Some (λ m. bytes_eq m.name name) (one ∷ more) method one found).0

or_true : (b : Bool) → (b || true) ≡ true
or_true true = refl
or_true false = refl

call_fits : (monitor : MonitorParts) (tries : Bool) (call : PlacedCall) → call_faults monitor call ≡ [] → FitsCall monitor (call_of monitor tries call.name call.arguments)
call_fits monitor tries call none = by_named (method_named monitor call.name) refl (no_front (method_faults monitor call.name_at call.arguments (method_named monitor call.name)) (flat_map number_faults call.arguments) none)
  where
    by_named : (named : Option ℕ) → method_named monitor call.name ≡ named → method_faults monitor call.name_at call.arguments named ≡ [] → FitsCall monitor (call_of monitor tries call.name call.arguments)
    by_named None unknown found = absurd cc
    by_named (Some method) calls_it found =
        subst (λ (n : Option ℕ). FitsCall monitor (record { method = unwrap_or n 0; inputs = map value_of call.arguments; tries = tries || asserts_in (slice_get monitor.methods (unwrap_or n 0)) })) (sym calls_it)
        (record { method = named_within monitor.methods call.name method calls_it; inputs = arguments_fit (inputs_of monitor method) call.name_at call.arguments found; tries = λ asserts. ap (λ b. tries || b) asserts ∙ or_true tries })

-- ---- items

abbrev Fits : MonitorParts → Item → Type 0
Fits monitor item = item_faults monitor item ≡ [] → All (FitsCall monitor) (calls_of_item monitor item)

copies_fit : (P : ScriptCall → Type 0) (times : ℕ) (calls : List ScriptCall) → All P calls → All P (joined (replicate times calls))
copies_fit P zero calls all = All-nil P
copies_fit P (suc times) calls all = All-append P calls (joined (replicate times calls)) all (copies_fit P times calls all)

item_fits : (monitor : MonitorParts) (item : Item) → Fits monitor item
item_fits monitor = by_items (Fits monitor)
    (λ at tries place name arguments none.
    let call : PlacedCall = record { name_at = place; name = name; arguments = arguments } in
    let fine = no_front (call_faults monitor call) [] (sym (faults-Call monitor at tries place name arguments) ∙ none) in
    All-same (FitsCall monitor) (calls_of_item monitor (items.Call at tries place name arguments)) (call_of monitor tries name arguments ∷ []) (calls-Call monitor at tries place name arguments)
    (All-cons (FitsCall monitor) (call_of monitor tries name arguments) [] (call_fits monitor tries call fine) (All-nil (FitsCall monitor))))
    (λ at times inner each none.
    let fine = each_empty (item_faults monitor) inner (sym (faults-Repeat monitor at times inner) ∙ none) in
    let calls = flat_map (calls_of_item monitor) inner in
    let all = All-flat_map (calls_of_item monitor) (FitsCall monitor) inner (both monitor inner each fine) in
    All-same (FitsCall monitor) (calls_of_item monitor (items.Repeat at times inner)) (joined (replicate times calls)) (calls-Repeat monitor at times inner) (copies_fit (FitsCall monitor) times calls all))
  where
    both : (monitor : MonitorParts) (inner : List Item) → All (Fits monitor) inner → All (λ item. item_faults monitor item ≡ []) inner → All (λ item. All (FitsCall monitor) (calls_of_item monitor item)) inner
    both monitor inner each fine = λ k d lt. each k d lt (fine k d lt)

item_small : (monitor : MonitorParts) (item : Item) → item_faults monitor item ≡ [] → IsSmallItem item
item_small monitor item none =
    All-weaker (λ call. call_faults monitor call ≡ []) HasSmallArguments (λ call fine.
    All-weaker (λ argument. number_faults argument ≡ []) IsSmallArgument number_small call.arguments
    (each_empty number_faults call.arguments (no_back (method_faults monitor call.name_at call.arguments (method_named monitor call.name)) (flat_map number_faults call.arguments) fine)))
    (placed_calls item) (each_empty (call_faults monitor) (placed_calls item) none)

-- ---- clients

module _ (monitor : MonitorParts) (tree : ClientsTree) (unbroken : faults_of monitor tree ≡ []) where
  front : flat_map (item_faults monitor) (items_in tree.clients) ++ doubled [] tree.clients ++ over_clients tree.clients ≡ []
  front = no_front (flat_map (item_faults monitor) (items_in tree.clients) ++ doubled [] tree.clients ++ over_clients tree.clients) (over_calls 0 (items_in tree.clients)) unbroken

  names_and_items : flat_map (item_faults monitor) (items_in tree.clients) ++ doubled [] tree.clients ≡ []
  names_and_items = no_front (flat_map (item_faults monitor) (items_in tree.clients) ++ doubled [] tree.clients) (over_clients tree.clients) front

  fine_items : All (λ client. All (λ item. item_faults monitor item ≡ []) client.items) tree.clients
  fine_items =
      parts_of_all (λ (client : ClientTree). client.items) (λ item. item_faults monitor item ≡ []) tree.clients
      (each_empty (item_faults monitor) (items_in tree.clients) (no_front (flat_map (item_faults monitor) (items_in tree.clients)) (doubled [] tree.clients) names_and_items))

  pub small_items : All (λ client. AreSmallItems client.items) tree.clients
  small_items = All-weaker (λ client. All (λ item. item_faults monitor item ≡ []) client.items) (λ client. AreSmallItems client.items)
      (λ client fine. All-weaker (λ item. item_faults monitor item ≡ []) IsSmallItem (item_small monitor) client.items fine) tree.clients fine_items

  pub scripts_fit : FitsScripts monitor (clients_of monitor tree)
  scripts_fit = All-map (λ client. All (FitsCall monitor) client.calls) (client_of monitor) tree.clients
      (All-weaker (λ client. All (λ item. item_faults monitor item ≡ []) client.items) (λ client. All (FitsCall monitor) (client_of monitor client).calls)
      (λ client fine. All-flat_map (calls_of_item monitor) (FitsCall monitor) client.items (All-weaker (λ item. item_faults monitor item ≡ []) (λ item. All (FitsCall monitor) (calls_of_item monitor item)) (item_fits monitor) client.items fine))
      tree.clients fine_items)

  few : length tree.clients ≤ CLIENTS
  few = by_place (slice_get (map (λ client. client.at) tree.clients) CLIENTS) refl (no_back (flat_map (item_faults monitor) (items_in tree.clients) ++ doubled [] tree.clients) (over_clients tree.clients) front)
    where
      by_test : (test : Bool) → nat_lt CLIENTS (length tree.clients) ≡ test → slice_get (map (λ client. client.at) tree.clients) CLIENTS ≡ None → length tree.clients ≤ CLIENTS
      by_test true long none =
          let within : CLIENTS < length (map (λ client. client.at) tree.clients) = omega (arith, less_from CLIENTS (length tree.clients) long, length-map tree.clients (λ (client : ClientTree). client.at)) in
          let some = slice_get-get_or (map (λ client. client.at) tree.clients) CLIENTS 0 within in absurd cc
        where
          less_from : (a b : ℕ) → nat_lt a b ≡ true → a < b
          less_from a b test = grind (arith, nat_tests)
      by_test false short none = not_less CLIENTS (length tree.clients) short
        where
          not_less : (a b : ℕ) → nat_lt a b ≡ false → b ≤ a
          not_less a b test = grind (arith, nat_tests)

      by_place : (place : Option ℕ) → slice_get (map (λ client. client.at) tree.clients) CLIENTS ≡ place → too_many_at place ≡ [] → length tree.clients ≤ CLIENTS
      by_place None none found = by_test (nat_lt CLIENTS (length tree.clients)) refl none
      by_place (Some at) some found = absurd cc

  few_calls : sum_by call_count (items_in tree.clients) ≤ CALLS
  few_calls =
      let all = within_calls 0 (items_in tree.clients) (omega arith) (no_back (flat_map (item_faults monitor) (items_in tree.clients) ++ doubled [] tree.clients ++ over_clients tree.clients) (over_calls 0 (items_in tree.clients)) unbroken) in
      omega (arith, all)

  distinct : AllPairs (λ client other. client.name ≢ other.name) tree.clients
  distinct i j d below within same =
      let client = get_or tree.clients j d in
      let earlier = get_or tree.clients i d in
      let earlier_in : Contains (take j tree.clients) earlier = among i j d below within in
      let named : Contains (map (λ (other : ClientTree). other.name) (take j tree.clients)) client.name =
      subst (λ (name : List ℕ). Contains (map (λ (other : ClientTree). other.name) (take j tree.clients)) name) same (in_map (λ (other : ClientTree). other.name) (take j tree.clients) earlier earlier_in) in
      let found = in_doubled tree.clients (take j tree.clients) client (drop (j + 1) tree.clients) (parts_at tree.clients j d within) named in
      none_in (fault_at refusals.DuplicateClient client.at) (subst (λ (list : List SourceFault). Contains list (fault_at refusals.DuplicateClient client.at)) (no_back (flat_map (item_faults monitor) (items_in tree.clients)) (doubled [] tree.clients) names_and_items) found)
    where
      parts_at : {X : Type 0} (xs : List X) (i : ℕ) (d : X) → i < length xs → xs ≡ take i xs ++ get_or xs i d ∷ drop (i + 1) xs
      parts_at xs i d within =
          sym (take-append-drop (i + 1) xs) ∙ ap (λ ys. ys ++ drop (i + 1) xs) (take_more xs i d within) ∙ append_assoc (take i xs) (get_or xs i d ∷ []) (drop (i + 1) xs)

      among : (i j : ℕ) (d : ClientTree) → i < j → j < length tree.clients → Contains (take j tree.clients) (get_or tree.clients i d)
      among i j d below within =
          let inside : i < length (take j tree.clients) = omega (arith, length-take j tree.clients) in
          subst (Contains (take j tree.clients)) (get_or-take j tree.clients i d below) (Contains-get_or (take j tree.clients) i d inside)

  AllPairs-map : {X Y : Type 0} (f : X → Y) (R : Y → Y → Type 0) (xs : List X) → AllPairs (λ a b. R (f a) (f b)) xs → AllPairs R (map f xs)
  AllPairs-map f R [] pairs i j d below inside = absurd (omega arith)
  AllPairs-map {X} {Y} f R (x ∷ xs) pairs i j d below inside =
      let within : j < length (x ∷ xs) = omega (arith, length-map (x ∷ xs) f) in
      subst (λ (y : Y). R y (get_or (map f (x ∷ xs)) j d)) (sym (get_or-map f (x ∷ xs) i x d (omega arith)))
      (subst (λ (y : Y). R (f (get_or (x ∷ xs) i x)) y) (sym (get_or-map f (x ∷ xs) j x d within)) (pairs i j x below within))

  all_calls : (clients : List ClientTree) → sum_by (λ (client : Client). length client.calls) (map (client_of monitor) clients) ≡ sum_by call_count (items_in clients)
  all_calls [] = refl
  all_calls (client ∷ clients) =
      sum_by-cons (λ (made : Client). length made.calls) (client_of monitor client) (map (client_of monitor) clients)
      ∙ ap (λ n. n + sum_by (λ (made : Client). length made.calls) (map (client_of monitor) clients)) (length-flat_map (calls_of_item monitor) call_count client.items (λ k d lt. as_many_calls monitor (get_or client.items k d)))
      ∙ ap (λ n. sum_by call_count client.items + n) (all_calls clients)
      ∙ sym (sum_by-append call_count client.items (items_in clients))

  named : (clients : List ClientTree) → All IsIdentifier (flat_map client_names clients) → All (λ client. IsIdentifier client.name) clients
  named clients all =
      All-weaker (λ client. All IsIdentifier (client_names client)) (λ client. IsIdentifier client.name) (λ client names. All-head IsIdentifier client.name (flat_map item_names client.items) names) clients
      (parts_of_all client_names IsIdentifier clients all)

  pub are_clients : All IsIdentifier (names_in_clients tree) → AreClients (clients_of monitor tree)
  are_clients identifiers = record {
    few = omega (arith, few, length-map tree.clients (client_of monitor));
    names = All-map (λ client. IsIdentifier client.name) (client_of monitor) tree.clients (named tree.clients identifiers);
    distinct = AllPairs-map (client_of monitor) (λ client other. client.name ≢ other.name) tree.clients distinct;
    few_calls = omega (arith, few_calls, all_calls tree.clients);
  }

-- ---- what the makers ask of a tree

pub small_arguments : (item : Item) (at : ℕ) (tries : Bool) (place : ℕ) (name : List ℕ) (arguments slice : List Arg) → item ≡ items.Call at tries place name arguments → slice ≡ arguments → IsSmallItem item → All IsSmallArgument slice
small_arguments item at tries place name arguments slice is same small =
    All-same IsSmallArgument slice arguments same
    (All-head HasSmallArguments (record { name_at = place; name = name; arguments = arguments }) []
    (All-same HasSmallArguments (record { name_at = place; name = name; arguments = arguments } ∷ []) (placed_calls item) (sym (ap placed_calls is ∙ placed-Call at tries place name arguments)) small))

pub small_inner : (item : Item) (at times : ℕ) (inner slice : List Item) → item ≡ items.Repeat at times inner → slice ≡ inner → IsSmallItem item → AreSmallItems slice
small_inner item at times inner slice is same small =
    All-same IsSmallItem slice inner same
    (parts_of_all placed_calls HasSmallArguments inner (All-same HasSmallArguments (flat_map placed_calls inner) (placed_calls item) (sym (ap placed_calls is ∙ placed-Repeat at times inner)) small))
