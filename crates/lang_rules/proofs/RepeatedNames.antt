-- Repeated names, name by name.
use Rattle.std.proofs.Common.{◌≡◌, ◌↔◌, IsTrue, ℕ, ◌+◌, ◌<◌, ◌≤◌, Bool, true, false, ◌||◌, List, [], ◌∷◌, ◌++◌, length, get_or, take, map, sym, ap, ◌∙◌, refl, inl, inr, Option, Some, None, if◌then◌else◌}
use Rattle.std.specs.List.{Contains, list_any}
use Rattle.std.specs.Str.{bytes_eq}
use Rattle.std.proofs.lemmas.List.{append-nil, append_assoc, map_more, take_all}
use Rattle.std.proofs.lemmas.List.Elements.{Contains-append_cases, Contains-append_left, Contains-append_right}
use Rattle.std.proofs.lemmas.List.Folds.{list_any-append}
use Rattle.std.proofs.lemmas.Bool.{false≢true}
use Rattle.lang_base.proofs.Names.{any-map, test_among}
use Rattle.lang_base.specs.declared.source_fault.SourceFault.{SourceFault}
use Rattle.lang_base.specs.declared.source_fault.Refusal.TheVariants.{Duplicate}
use Rattle.lang_base.specs.SourceFaults.{fault_at, least, order}
use Rattle.lang_rules.specs.Rules.{PlacedName, repeated}
use Rattle.lang_base.specs.SourceFaults.{earlier_of}
use Rattle.lang_base.proofs.Least.{least_both}

-- the name is one of these
abbrev pub is_among : List PlacedName → List ℕ → Bool
is_among names name = list_any (λ other. bytes_eq other.name name) names

among-map : {X : Type 0} (f : X → PlacedName) (xs : List X) (name : List ℕ) → is_among (map f xs) name ≡ list_any (λ x. bytes_eq (f x).name name) xs
among-map f [] name = refl
among-map f (x ∷ xs) name = ap (λ b. bytes_eq (f x).name name || b) (among-map f xs name)

among-both : {X Y : Type 0} (f : X → PlacedName) (g : Y → PlacedName) (xs : List X) (ys : List Y) (name : List ℕ) → (list_any (λ x. bytes_eq (f x).name name) xs || list_any (λ y. bytes_eq (g y).name name) ys) ≡ is_among (map f xs ++ map g ys) name
among-both f g xs ys name = sym (list_any-append (λ other. bytes_eq other.name name) (map f xs) (map g ys) ∙ ap (λ b. b || is_among (map g ys) name) (among-map f xs name) ∙ ap (λ b. list_any (λ x. bytes_eq (f x).name name) xs || b) (among-map g ys name))

-- what decides whether a name is one of these is the test of it
pub again_among : {X : Type 0} (f : X → PlacedName) (xs : List X) (name : List ℕ) (again : Bool) → IsTrue again ↔ Contains (map (λ x. (f x).name) xs) name → again ≡ is_among (map f xs) name
again_among f xs name again decides = test_among (map (λ x. (f x).name) xs) name again decides ∙ sym (any-map (λ x. (f x).name) xs name) ∙ sym (among-map f xs name)

bare_both : {X Y : Type 0} (f : X → PlacedName) (g : Y → PlacedName) (xs : List X) (ys : List Y) (name : List ℕ)
    → list_any (λ other. bytes_eq other name) (map (λ x. (f x).name) xs ++ map (λ y. (g y).name) ys) ≡ is_among (map f xs ++ map g ys) name
bare_both f g xs ys name =
    let these = map (λ x. (f x).name) xs in
    let those = map (λ y. (g y).name) ys in
    list_any-append (λ other. bytes_eq other name) these those
    ∙ ap (λ test. test || list_any (λ other. bytes_eq other name) those) (sym (any-map (λ x. (f x).name) xs name))
    ∙ ap (λ test. list_any (λ x. bytes_eq (f x).name name) xs || test) (sym (any-map (λ y. (g y).name) ys name))
    ∙ among-both f g xs ys name

pub again_both : {X Y : Type 0} (f : X → PlacedName) (g : Y → PlacedName) (xs : List X) (ys : List Y) (name : List ℕ) (again : Bool)
    → IsTrue again ↔ Contains (map (λ x. (f x).name) xs ++ map (λ y. (g y).name) ys) name → again ≡ is_among (map f xs ++ map g ys) name
again_both f g xs ys name again decides =
    test_among (map (λ x. (f x).name) xs ++ map (λ y. (g y).name) ys) name again decides ∙ bare_both f g xs ys name

pub again_three : {X Y Z : Type 0} (f : X → PlacedName) (g : Y → PlacedName) (h : Z → PlacedName) (xs : List X) (ys : List Y) (zs : List Z) (name : List ℕ) (again : Bool)
    → IsTrue again ↔ Contains (map (λ x. (f x).name) xs ++ map (λ y. (g y).name) ys ++ map (λ z. (h z).name) zs) name
    → again ≡ is_among (map f xs ++ map g ys ++ map h zs) name
again_three f g h xs ys zs name again decides =
    let front = map (λ x. (f x).name) xs ++ map (λ y. (g y).name) ys in
    let last = map (λ z. (h z).name) zs in
    test_among (front ++ last) name again decides
    ∙ list_any-append (λ other. bytes_eq other name) front last
    ∙ ap (λ test. test || list_any (λ other. bytes_eq other name) last) (bare_both f g xs ys name)
    ∙ ap (λ test. is_among (map f xs ++ map g ys) name || test) (sym (any-map (λ z. (h z).name) zs name) ∙ sym (among-map h zs name))
    ∙ sym (list_any-append (λ other. bytes_eq other.name name) (map f xs ++ map g ys) (map h zs))

pub repeated-append : (front xs ys : List PlacedName) → repeated front (xs ++ ys) ≡ repeated front xs ++ repeated (front ++ xs) ys
repeated-append front [] ys = rw append-nil refl
repeated-append front (x ∷ xs) ys =
    let more = repeated-append (front ++ x ∷ []) xs ys in
    let same : (front ++ x ∷ []) ++ xs ≡ front ++ x ∷ xs = append_assoc front (x ∷ []) xs in
    let rest = more ∙ ap (λ names. repeated (front ++ x ∷ []) xs ++ repeated names ys) same in
    ap (λ faults. (if is_among front x.name then fault_at Duplicate x.at ∷ [] else []) ++ faults) rest ∙ sym (append_assoc (if is_among front x.name then fault_at Duplicate x.at ∷ [] else []) (repeated (front ++ x ∷ []) xs) (repeated (front ++ x ∷ xs) ys))

one_least : (again : Bool) (at : ℕ) → (if again then Some (fault_at Duplicate at) else None) ≡ least ((if again then fault_at Duplicate at ∷ [] else []) ++ [])
one_least true at = refl
one_least false at = refl

pub repeated_more : {X : Type 0} (front : List PlacedName) (f : X → PlacedName) (xs : List X) (i : ℕ) (x : X) (again : Bool) (before this : Option SourceFault) → i < length xs → x ≡ get_or xs i x → before ≡ least (repeated front (map f (take i xs))) → again ≡ is_among (front ++ map f (take i xs)) (f x).name → this ≡ (if again then Some (fault_at Duplicate (f x).at) else None) → earlier_of before this ≡ least (repeated front (map f (take (i + 1) xs)))
repeated_more front f xs i x again before this lt is past among here =
    let last : this ≡ least (repeated (front ++ map f (take i xs)) (f x ∷ [])) = here ∙ one_least again (f x).at ∙ ap (λ b. least ((if b then fault_at Duplicate (f x).at ∷ [] else []) ++ [])) among in
    rw (map_more f xs i x lt, ← is, repeated-append) (least_both order before this (repeated front (map f (take i xs))) (repeated (front ++ map f (take i xs)) (f x ∷ [])) past last)

pub repeated_all : {X : Type 0} (front : List PlacedName) (f : X → PlacedName) (xs : List X) (i : ℕ) (a : Option SourceFault) → length xs ≤ i → a ≡ least (repeated front (map f (take i xs))) → a ≡ least (repeated front (map f xs))
repeated_all front f xs i a past is = is ∙ ap (λ ys. least (repeated front (map f ys))) (take_all i xs past)

-- names and then others
pub repeated_both : (front xs ys : List PlacedName) (a b : Option SourceFault) → a ≡ least (repeated front xs) → b ≡ least (repeated (front ++ xs) ys) → earlier_of a b ≡ least (repeated front (xs ++ ys))
repeated_both front xs ys a b left right = rw repeated-append (least_both order a b (repeated front xs) (repeated (front ++ xs) ys) left right)

-- ---- a name of one of three lists

-- a test of the first and the last of them, and one of the second
pub either_decides : (one other : Bool) (first second last : List (List ℕ)) (name : List ℕ) → one ≡ false → IsTrue one ↔ Contains (first ++ last) name → IsTrue other ↔ Contains second name
    → IsTrue other ↔ Contains (first ++ second ++ last) name
either_decides one other first second last name wrong outer inner = (
  λ right. Contains-append_left (first ++ second) last name (Contains-append_right first second name (inner.0 right)),
  λ within. elim (Contains-append_cases (first ++ second) last name within) [
    | inl front ↦ elim (Contains-append_cases first second name front) [
      | inl here ↦ absurd (false≢true (sym wrong ∙ outer.1 (Contains-append_left first last name here)))
      | inr there ↦ inner.1 there
    ]
    | inr behind ↦ absurd (false≢true (sym wrong ∙ outer.1 (Contains-append_right first last name behind)))
  ],
)

pub outer_decides : (one : Bool) (first second last : List (List ℕ)) (name : List ℕ) → one ≡ true → IsTrue one ↔ Contains (first ++ last) name
    → IsTrue one ↔ Contains (first ++ second ++ last) name
outer_decides one first second last name right outer = (
  λ same. elim (Contains-append_cases first last name (outer.0 same)) [
    | inl here ↦ Contains-append_left (first ++ second) last name (Contains-append_left first second name here)
    | inr behind ↦ Contains-append_right (first ++ second) last name behind
  ],
  λ within. right,
)
