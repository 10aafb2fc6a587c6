-- Names that stand twice, and the search for one.
use Rattle.std.proofs.Common.{◌≡◌, ◌≢◌, ◌↔◌, IsTrue, ℕ, ◌<◌, Bool, true, false, ◌||◌, List, [], ◌∷◌, ◌++◌, length, get_or, take, map, refl, sym, ap, subst, ◌∙◌, arith, inl, inr, Some}
use Rattle.std.specs.Option.{option_map}
use Rattle.std.specs.List.{AllPairs, Contains, list_any, slice_get}
use Rattle.std.specs.Str.{bytes_eq}
use Rattle.std.proofs.lemmas.Bool.{false≢true}
use Rattle.std.proofs.lemmas.List.{get_or_default, get_or-map, get_or-take, length-map, length-take, take-map}
use Rattle.std.proofs.lemmas.List.Elements.{Contains-append_cases, Contains-append_left, Contains-append_right}
use Rattle.std.proofs.lemmas.List.Folds.{Any-from_list_any, list_any-from_Any}
use Rattle.std.proofs.lemmas.Option.{slice_get-map, slice_get_cases, slice_get_read, slice_get_within}
use Rattle.std.proofs.lemmas.Slice.Eq.{bytes_eq-Decides}
use Rattle.lang_base.specs.Names.{IsRepeated, is_among}

-- ---- a name among others

pub in_among : (names : List (List ℕ)) (name : List ℕ) → Contains names name → is_among names name ≡ true
in_among names name (k, within, at) = list_any-from_Any (λ other. bytes_eq other name) names (k, name, within, at, (bytes_eq-Decides name name).1 refl)

pub among_in : (names : List (List ℕ)) (name : List ℕ) → is_among names name ≡ true → Contains names name
among_in names name test =
    let (k, other, within, at, same) = Any-from_list_any (λ other. bytes_eq other name) names test in
    subst (Contains names) ((bytes_eq-Decides other name).0 same) (k, within, at)

pub any-map : {X : Type 0} (name : X → List ℕ) (xs : List X) (text : List ℕ) → list_any (λ x. bytes_eq (name x) text) xs ≡ is_among (map name xs) text
any-map name [] text = refl
any-map name (x ∷ xs) text = ap (λ test. bytes_eq (name x) text || test) (any-map name xs text)

-- a test of the elements decides whether one has the name
pub decides_among : {X : Type 0} (name : X → List ℕ) (xs : List X) (text : List ℕ) (test : Bool) → test ≡ list_any (λ x. bytes_eq (name x) text) xs → IsTrue test ↔ Contains (map name xs) text
decides_among name xs text test is = (
  λ right. among_in (map name xs) text (sym (is ∙ any-map name xs text) ∙ right),
  λ within. is ∙ any-map name xs text ∙ in_among (map name xs) text within,
)

-- what decides whether a name is one of these is the test of it
pub test_among : (names : List (List ℕ)) (name : List ℕ) (test : Bool) → IsTrue test ↔ Contains names name → test ≡ is_among names name
test_among names name test decides = by_cases test (is_among names name) (λ right. in_among names name (decides.0 right)) (λ among. decides.1 (among_in names name among))
  where
    by_cases : (one other : Bool) → (one ≡ true → other ≡ true) → (other ≡ true → one ≡ true) → one ≡ other
    by_cases true other to from = sym (to refl)
    by_cases false true to from = from refl
    by_cases false false to from = refl

-- ---- a place whose name stands earlier

module _ {X : Type 0} (name : X → List ℕ) (xs : List X) (k : ℕ) (x : X) where
  name_at : k < length xs → x ≡ get_or xs k x → slice_get (map name xs) k ≡ Some (name x)
  name_at within is = slice_get-map name xs k ∙ ap (option_map name) (slice_get_read xs (length xs) k x refl within is)

  pub repeated_from : k < length xs → x ≡ get_or xs k x → Contains (map name (take k xs)) (name x) → IsRepeated (map name xs) k
  repeated_from within is earlier = (name x, name_at within is, subst (λ names. Contains names (name x)) (sym (take-map name k xs)) earlier)

  pub repeated_to : k < length xs → x ≡ get_or xs k x → IsRepeated (map name xs) k → Contains (map name (take k xs)) (name x)
  repeated_to within is (text, at, earlier) =
      let same : text ≡ name x = let here = name_at within is in cc in
      subst (Contains (map name (take k xs))) same (subst (λ names. Contains names text) (take-map name k xs) earlier)

  -- the test of the place is one of what stands before it
  pub again_at : (test : Bool) → k < length xs → x ≡ get_or xs k x → IsTrue test ↔ IsRepeated (map name xs) k → IsTrue test ↔ Contains (map name (take k xs)) (name x)
  again_at test within is decides = (
    λ right. repeated_to within is (decides.0 right),
    λ earlier. decides.1 (repeated_from within is earlier),
  )

  -- the name at the place also stands earlier, or is one of the others
  pub again_then : (others : List (List ℕ)) (test : Bool) → k < length xs → x ≡ get_or xs k x → test ≡ true → IsTrue test ↔ IsRepeated (map name xs) k
      → IsTrue test ↔ Contains (others ++ map name (take k xs)) (name x)
  again_then others test within is right decides = (
    λ same. Contains-append_right others (map name (take k xs)) (name x) (repeated_to within is (decides.0 right)),
    λ earlier. right,
  )

  pub again_else : (others : List (List ℕ)) (test other : Bool) → k < length xs → x ≡ get_or xs k x → test ≡ false → IsTrue test ↔ IsRepeated (map name xs) k → IsTrue other ↔ Contains others (name x)
      → IsTrue other ↔ Contains (others ++ map name (take k xs)) (name x)
  again_else others test other within is wrong decides among = (
    λ right. Contains-append_left others (map name (take k xs)) (name x) (among.0 right),
    λ earlier. elim (Contains-append_cases others (map name (take k xs)) (name x) earlier) [
      | inl here ↦ among.1 here
      | inr before ↦ absurd (false≢true (sym wrong ∙ decides.1 (repeated_from within is before)))
    ],
  )

-- ---- distinct names

module _ {X : Type 0} (name : X → List ℕ) (xs : List X) where
  pub distinct_from : ((k : ℕ) → k < length xs → IsRepeated (map name xs) k → ⊥) → AllPairs (λ x y. name x ≢ name y) xs
  distinct_from none i j d before within same =
      let later = get_or xs j d in
      let earlier : i < length (take j xs) = omega (arith, length-take j xs) in
      let below : i < length (map name (take j xs)) = omega (arith, earlier, length-map (take j xs) name) in
      none j within (repeated_from name xs j later within (get_or_default xs j d later within)
      (i, below, get_or-map name (take j xs) i d (name later) earlier ∙ ap name (get_or-take j xs i d before) ∙ same))

  apart : (k : ℕ) (x : X) → k < length xs → x ≡ get_or xs k x → Contains (map name (take k xs)) (name x) → AllPairs (λ x y. name x ≢ name y) xs → ⊥
  apart k x within is (i, before, same) pairs =
      let earlier : i < length (take k xs) = omega (arith, before, length-map (take k xs) name) in
      let below : i < k = omega (arith, earlier, length-take k xs) in
      let here : name (get_or xs i x) ≡ name x = ap name (sym (get_or-take k xs i x below)) ∙ sym (get_or-map name (take k xs) i x (name x) earlier) ∙ same in
      pairs i k x below within (here ∙ ap name is)

  pub not_distinct : (k : ℕ) → IsRepeated (map name xs) k → AllPairs (λ x y. name x ≢ name y) xs → ⊥
  not_distinct k repeated pairs =
      let inside : k < length xs = omega (arith, slice_get_within (map name xs) k repeated.0 repeated.1, length-map xs name) in
      elim (slice_get_cases xs k).1 [
        | inl found ↦ apart k found.0 found.1 (sym found.3) (repeated_to name xs k found.0 found.1 (sym found.3) repeated) pairs
        | inr past ↦ absurd (omega (arith, past.0, inside))
      ]
