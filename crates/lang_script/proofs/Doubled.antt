-- Clients with the name of an earlier one, client by client.
use Rattle.std.proofs.Common.{◌≡◌, ◌↔◌, IsTrue, ℕ, ◌+◌, ◌<◌, ◌≤◌, Bool, true, false, List, [], ◌∷◌, ◌++◌, length, get_or, take, map, sym, ap, subst, ◌∙◌, refl, inl, inr, Option, Some, None, if◌then◌else◌}
use Rattle.std.specs.List.{Contains}
use Rattle.std.proofs.lemmas.List.{append-nil, append_assoc, take_all, take_more}
use Rattle.std.proofs.lemmas.List.Elements.{Contains-append_cases, Contains-append_right}
use Rattle.lang_base.proofs.Names.{among_in, any-map, in_among as among_test, test_among}
use Rattle.lang_tree.specs.declared.tree.ClientTree.{ClientTree}
use Rattle.lang_base.specs.declared.source_fault.SourceFault.{SourceFault}
use Rattle.lang_base.specs.declared.source_fault.Refusal.TheVariants as refusals
use Rattle.lang_base.specs.SourceFaults.{earlier_of, fault_at, least, order}
use Rattle.lang_script.specs.Faults.{doubled, is_among}
use Rattle.lang_base.proofs.Least.{least_both}
use Rattle.lang_base.proofs.Members.{contains_head, none_in, only_in}

pub doubled-append : (front xs ys : List ClientTree) → doubled front (xs ++ ys) ≡ doubled front xs ++ doubled (front ++ xs) ys
doubled-append front [] ys = rw append-nil refl
doubled-append front (x ∷ xs) ys =
    let more = doubled-append (front ++ x ∷ []) xs ys in
    let same : (front ++ x ∷ []) ++ xs ≡ front ++ x ∷ xs = append_assoc front (x ∷ []) xs in
    let rest = more ∙ ap (λ clients. doubled (front ++ x ∷ []) xs ++ doubled clients ys) same in
    ap (λ faults. (if is_among front x.name then fault_at refusals.DuplicateClient x.at ∷ [] else []) ++ faults) rest ∙ sym (append_assoc (if is_among front x.name then fault_at refusals.DuplicateClient x.at ∷ [] else []) (doubled (front ++ x ∷ []) xs) (doubled (front ++ x ∷ xs) ys))

-- ---- a loop over clients

-- what decides whether a name is one of theirs is the test of it
pub again_among : (xs : List ClientTree) (i : ℕ) (x : ClientTree) (again : Bool) → IsTrue again ↔ Contains (map (λ client. client.name) (take i xs)) x.name → again ≡ is_among (take i xs) x.name
again_among xs i x again decides =
    test_among (map (λ (client : ClientTree). client.name) (take i xs)) x.name again decides ∙ sym (any-map (λ (client : ClientTree). client.name) (take i xs) x.name)

one_least : (again : Bool) (at : ℕ) → (if again then Some (fault_at refusals.DuplicateClient at) else None) ≡ least ((if again then fault_at refusals.DuplicateClient at ∷ [] else []) ++ [])
one_least true at = refl
one_least false at = refl

pub doubled_more : (xs : List ClientTree) (i : ℕ) (x : ClientTree) (again : Bool) (before this : Option SourceFault) → i < length xs → x ≡ get_or xs i x → before ≡ least (doubled [] (take i xs)) → again ≡ is_among (take i xs) x.name → this ≡ (if again then Some (fault_at refusals.DuplicateClient x.at) else None) → earlier_of before this ≡ least (doubled [] (take (i + 1) xs))
doubled_more xs i x again before this lt is past among here =
    let last : this ≡ least (doubled (take i xs) (x ∷ [])) = here ∙ one_least again x.at ∙ ap (λ b. least ((if b then fault_at refusals.DuplicateClient x.at ∷ [] else []) ++ [])) among in
    rw (take_more xs i x lt, ← is, doubled-append) (least_both order before this (doubled [] (take i xs)) (doubled (take i xs) (x ∷ [])) past last)

pub doubled_all : (xs : List ClientTree) (i : ℕ) (a : Option SourceFault) → length xs ≤ i → a ≡ least (doubled [] (take i xs)) → a ≡ least (doubled [] xs)
doubled_all xs i a past is = is ∙ ap (λ ys. least (doubled [] ys)) (take_all i xs past)

-- ---- the rule

abbrev names_of : List ClientTree → List (List ℕ)
names_of clients = map (λ client. client.name) clients

among_from : (clients : List ClientTree) (name : List ℕ) → is_among clients name ≡ true → Contains (names_of clients) name
among_from clients name test = among_in (names_of clients) name (sym (any-map (λ (client : ClientTree). client.name) clients name) ∙ test)

in_among : (clients : List ClientTree) (name : List ℕ) → Contains (names_of clients) name → is_among clients name ≡ true
in_among clients name within = any-map (λ (client : ClientTree). client.name) clients name ∙ among_test (names_of clients) name within

-- a doubled client, and the fault that it gives
pub record DoubledAt (front clients : List ClientTree) (fault : SourceFault) : Type 0 where
  pub before : List ClientTree
  pub client : ClientTree
  pub after : List ClientTree
  pub split : clients ≡ before ++ client ∷ after
  pub earlier : Contains (names_of (front ++ before)) client.name
  pub is : fault ≡ fault_at refusals.DuplicateClient client.at

doubled_head : (front : List ClientTree) (client : ClientTree) (clients : List ClientTree) (fault : SourceFault) (test : Bool) → is_among front client.name ≡ test → Contains (if test then fault_at refusals.DuplicateClient client.at ∷ [] else []) fault → DoubledAt front (client ∷ clients) fault
doubled_head front client clients fault true among within = record {
  before = [];
  client = client;
  after = clients;
  split = refl;
  earlier = subst (λ (list : List ClientTree). Contains (names_of list) client.name) (sym (append-nil front)) (among_from front client.name among);
  is = sym (only_in (fault_at refusals.DuplicateClient client.at) fault within);
}
doubled_head front client clients fault false among within = none_in fault within

doubled_later : (front : List ClientTree) (client : ClientTree) (clients : List ClientTree) (fault : SourceFault) → DoubledAt (front ++ client ∷ []) clients fault → DoubledAt front (client ∷ clients) fault
doubled_later front client clients fault found = record {
  before = client ∷ found.before;
  client = found.client;
  after = found.after;
  split = ap (λ more. client ∷ more) found.split;
  earlier = subst (λ (list : List ClientTree). Contains (names_of list) found.client.name) (append_assoc front (client ∷ []) found.before) found.earlier;
  is = found.is;
}

pub from_doubled : (front clients : List ClientTree) (fault : SourceFault) → Contains (doubled front clients) fault → DoubledAt front clients fault
from_doubled front [] fault within = none_in fault within
from_doubled front (client ∷ clients) fault within =
    elim (Contains-append_cases (if is_among front client.name then fault_at refusals.DuplicateClient client.at ∷ [] else []) (doubled (front ++ client ∷ []) clients) fault within) [
      | inl here ↦ doubled_head front client clients fault (is_among front client.name) refl here
      | inr later ↦ doubled_later front client clients fault (from_doubled (front ++ client ∷ []) clients fault later)
    ]

head_doubled : (front : List ClientTree) (client : ClientTree) (clients : List ClientTree) → is_among front client.name ≡ true → Contains (doubled front (client ∷ clients)) (fault_at refusals.DuplicateClient client.at)
head_doubled front client clients among = rw among (contains_head (fault_at refusals.DuplicateClient client.at) (doubled (front ++ client ∷ []) clients))

pub in_doubled : (clients before : List ClientTree) (client : ClientTree) (after : List ClientTree) → clients ≡ before ++ client ∷ after → Contains (names_of before) client.name → Contains (doubled [] clients) (fault_at refusals.DuplicateClient client.at)
in_doubled clients before client after split among =
    let here = head_doubled before client after (in_among before client.name among) in
    let all = Contains-append_right (doubled [] before) (doubled before (client ∷ after)) (fault_at refusals.DuplicateClient client.at) here in
    subst (λ (list : List SourceFault). Contains list (fault_at refusals.DuplicateClient client.at)) (sym (ap (doubled []) split ∙ doubled-append [] before (client ∷ after))) all
