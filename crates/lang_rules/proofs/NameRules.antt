-- The rule of names: the names that are listed as repeated are those of earlier ones.
use Rattle.std.proofs.Common.{◌≡◌, ℕ, Bool, true, false, List, [], ◌∷◌, ◌++◌, map, refl, sym, ap, subst, ◌∙◌, inl, inr}
use Rattle.std.specs.Prelude.{if◌then◌else◌}
use Rattle.std.specs.List.{Contains}
use Rattle.std.proofs.lemmas.List.{append-nil, append_assoc}
use Rattle.std.proofs.lemmas.List.Elements.{Contains-append_cases, Contains-append_right}
use Rattle.lang_base.proofs.Names.{among_in, any-map, in_among as among_test}
use Rattle.lang_base.specs.SourceFaults.{fault_at}
use Rattle.lang_base.specs.declared.source_fault.SourceFault.{SourceFault}
use Rattle.lang_base.specs.declared.source_fault.Refusal.TheVariants.{Duplicate}
use Rattle.lang_rules.specs.Rules.{PlacedName, repeated}
use Rattle.lang_rules.specs.Judgements.{Repeats}
use Rattle.lang_base.proofs.Members.{contains_head, none_in, only_in}
use Rattle.lang_rules.proofs.RepeatedNames.{is_among, repeated-append}

abbrev bare_names : List PlacedName → List (List ℕ)
bare_names names = map (λ name. name.name) names

among_from : (names : List PlacedName) (name : List ℕ) → is_among names name ≡ true → Contains (bare_names names) name
among_from names name test = among_in (bare_names names) name (sym (any-map (λ (one : PlacedName). one.name) names name) ∙ test)

in_among : (names : List PlacedName) (name : List ℕ) → Contains (bare_names names) name → is_among names name ≡ true
in_among names name within = any-map (λ (one : PlacedName). one.name) names name ∙ among_test (bare_names names) name within

-- a repeated name, and the fault that it gives
pub record RepeatedAt (others names : List PlacedName) (fault : SourceFault) : Type 0 where
  pub place : ℕ
  pub is : fault ≡ fault_at Duplicate place
  pub repeats : Repeats others place names

repeated_head : (others : List PlacedName) (name : PlacedName) (names : List PlacedName) (fault : SourceFault) (test : Bool) → is_among others name.name ≡ test → Contains (if test then fault_at Duplicate name.at ∷ [] else []) fault → RepeatedAt others (name ∷ names) fault
repeated_head others name names fault true among within = record {
  place = name.at;
  is = sym (only_in (fault_at Duplicate name.at) fault within);
  repeats = ([], name, names, refl, subst (λ (list : List PlacedName). Contains (bare_names list) name.name) (sym (append-nil others)) (among_from others name.name among), refl);
}
repeated_head others name names fault false among within = none_in fault within

repeated_later : (others : List PlacedName) (name : PlacedName) (names : List PlacedName) (fault : SourceFault) → RepeatedAt (others ++ name ∷ []) names fault → RepeatedAt others (name ∷ names) fault
repeated_later others name names fault found =
    let before = found.repeats.0 in
    record {
      place = found.place;
      is = found.is;
      repeats = (name ∷ before, found.repeats.1, found.repeats.2, ap (λ more. name ∷ more) found.repeats.3, subst (λ (list : List PlacedName). Contains (bare_names list) found.repeats.1.name) (append_assoc others (name ∷ []) before) found.repeats.4, found.repeats.5);
    }

pub from_repeated : (others names : List PlacedName) (fault : SourceFault) → Contains (repeated others names) fault → RepeatedAt others names fault
from_repeated others [] fault within = none_in fault within
from_repeated others (name ∷ names) fault within =
    elim (Contains-append_cases (if is_among others name.name then fault_at Duplicate name.at ∷ [] else []) (repeated (others ++ name ∷ []) names) fault within) [
      | inl here ↦ repeated_head others name names fault (is_among others name.name) refl here
      | inr later ↦ repeated_later others name names fault (from_repeated (others ++ name ∷ []) names fault later)
    ]

head_repeated : (others : List PlacedName) (name : PlacedName) (names : List PlacedName) → is_among others name.name ≡ true → Contains (repeated others (name ∷ names)) (fault_at Duplicate name.at)
head_repeated others name names among = rw among (contains_head (fault_at Duplicate name.at) (repeated (others ++ name ∷ []) names))

pub in_repeated : (others : List PlacedName) (place : ℕ) (names : List PlacedName) → Repeats others place names → Contains (repeated others names) (fault_at Duplicate place)
in_repeated others place names (before, name, after, split, among, is) =
    let here = head_repeated (others ++ before) name after (in_among (others ++ before) name.name among) in
    let all = Contains-append_right (repeated others before) (repeated (others ++ before) (name ∷ after)) (fault_at Duplicate name.at) here in
    subst (λ at. Contains (repeated others names) (fault_at Duplicate at)) is
    (subst (λ (list : List SourceFault). Contains list (fault_at Duplicate name.at)) (sym (ap (repeated others) split ∙ repeated-append others before (name ∷ after))) all)
