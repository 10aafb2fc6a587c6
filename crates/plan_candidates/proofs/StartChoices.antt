-- A start at which a parameter has its greatest number, and each other one its least.
use Rattle.std.proofs.Common.{◌≡◌, ℕ, zero, suc, ◌+◌, ◌<◌, ◌≤◌, ℤ, pos, Bool, true, false, cond, List, [], ◌∷◌, ◌++◌, length, take, sym, subst, arith, ap, refl, ◌∙◌}
use Rattle.std.specs.Prelude.{◌==◌, int_le, int_lt, Option, None, Some, IfSome, IsSomeAnd, slice_get, ◌^◌}
use Rattle.std.specs.List.{All}
use Rattle.std.proofs.lemmas.Int.{ints}
use Rattle.std.proofs.lemmas.Bool.{and_parts, and_from}
use Rattle.std.proofs.lemmas.List.{take_all, take_more}
use Rattle.std.proofs.lemmas.Option.{get_or_from_slice_get}
use Rattle.lang_base.specs.Limits.{FIELDS}
use Rattle.lang_base.specs.declared.value.Value.{Value}
use Rattle.lang_base.specs.declared.value.Value.TheVariants as values
use Rattle.lang_monitor.specs.declared.monitor.Field.{Field}
use Rattle.lang_monitor.specs.declared.start.Limit.{Limit}
use Rattle.lang_monitor.specs.declared.start.Limit.TheVariants as limits
use Rattle.lang_monitor.specs.declared.start.Origin.{Origin}
use Rattle.lang_monitor.specs.declared.start.Origin.TheVariants as origins
use Rattle.lang_monitor.specs.Bodies.{number_of_value}
use Rattle.lang_monitor.specs.MonitorParts.{HasOrigin, IsChosen}
use Rattle.lang_monitor.specs.Starts.{Admits, AreStarts, IsStart, MayStart, fits_64}
use Rattle.plan_candidates.specs.inner.Starts.{LEAST, MOST, least_at, least_found, least_in, least_of, most_at, most_found, most_in, most_of, root_at, root_found, root_of}
use Rattle.plan_candidates.specs.inner.Edges.{chosen, edge, picked, picked_at, picked_found, picked_from}
use Rattle.plan_candidates.proofs.StartRanges.{HasItsOrigin, IsRoot, RootIs, StartsAs, as_many, at_start, if_found, number_found, rooted, value_found}
use Rattle.plan_candidates.proofs.StartTruths.{number_in}

-- ---- numbers that a limit admits

-- the limit admits the number, which is of 64 bits
abbrev IsAdmitted : Limit → ℤ → Type 0
IsAdmitted limit number = Admits limit number × (fits_64 (values.Int number) ≡ true)

fits : (number : ℤ) → int_le LEAST number ≡ true → int_lt number (pos (2 ^ 63)) ≡ true → fits_64 (values.Int number) ≡ true
fits number high low = and_from (int_le LEAST number) (int_lt number (pos (2 ^ 63))) high low

admits_most : (limit : Limit) (some : ℤ) → IsAdmitted limit some → IsAdmitted limit (most_in limit)
admits_most (limits.Exactly only) some is = (refl, subst (λ (number : ℤ). fits_64 (values.Int number) ≡ true) is.0 is.1)
admits_most (limits.AtMost bound) some is = by_test (int_le MOST bound) refl (and_parts (int_le LEAST some) (int_lt some (pos (2 ^ 63))) is.1).0
  where
    by_test : (test : Bool) → int_le MOST bound ≡ test → int_le LEAST some ≡ true → IsAdmitted (limits.AtMost bound) (cond test MOST bound)
    by_test true same high = (same, refl)
    by_test false same high =
        let below : int_le some bound ≡ true = is.0 in
        let first : int_le LEAST bound ≡ true = grind (arith, ints, below, high) in
        let second : int_lt bound (pos (2 ^ 63)) ≡ true = grind (arith, ints, same) in
        (grind (arith, ints), fits bound first second)
admits_most (limits.AtLeast bound) some is =
    let both = and_parts (int_le LEAST some) (int_lt some (pos (2 ^ 63))) is.1 in
    let low = both.1 in
    let above : int_le bound some ≡ true = is.0 in
    let first : int_le bound MOST ≡ true = grind (arith, ints, above, low) in
    (first, refl)

admits_least : (limit : Limit) (some : ℤ) → IsAdmitted limit some → IsAdmitted limit (least_in limit)
admits_least (limits.Exactly only) some is = (refl, subst (λ (number : ℤ). fits_64 (values.Int number) ≡ true) is.0 is.1)
admits_least (limits.AtMost bound) some is =
    let both = and_parts (int_le LEAST some) (int_lt some (pos (2 ^ 63))) is.1 in
    let high = both.0 in
    let below : int_le some bound ≡ true = is.0 in
    let first : int_le LEAST bound ≡ true = grind (arith, ints, below, high) in
    (first, refl)
admits_least (limits.AtLeast bound) some is = by_test (int_le bound LEAST) refl (and_parts (int_le LEAST some) (int_lt some (pos (2 ^ 63))) is.1).1
  where
    by_test : (test : Bool) → int_le bound LEAST ≡ test → int_lt some (pos (2 ^ 63)) ≡ true → IsAdmitted (limits.AtLeast bound) (cond test LEAST bound)
    by_test true same low = (same, refl)
    by_test false same low =
        let above : int_le bound some ≡ true = is.0 in
        let first : int_le LEAST bound ≡ true = grind (arith, ints, same) in
        let second : int_lt bound (pos (2 ^ 63)) ≡ true = grind (arith, ints, above, low) in
        (grind (arith, ints), fits bound first second)

-- ---- the values

abbrev only_there : Option Field → Value → Option Value
only_there None value = None
only_there (Some field) value = Some value

picked_there : (all : List Field) (top number : ℕ) (fields : List Field) (k : ℕ) → slice_get (picked_from all top number fields) k ≡ only_there (slice_get fields k) (picked_at all top (number + k))
picked_there all top number [] k = refl
picked_there all top number (field ∷ fields) zero = let same : number ≡ number + 0 = omega arith in ap (λ (place : ℕ). Some (picked_at all top place)) same
picked_there all top number (field ∷ fields) (suc k) =
    let same : suc number + k ≡ number + suc k = omega arith in
    picked_there all top (suc number) fields k ∙ ap (λ (place : ℕ). only_there (slice_get fields k) (picked_at all top place)) same

edge_there : (fields : List Field) (top place : ℕ) → slice_get (edge fields top) place ≡ only_there (slice_get fields place) (picked_at fields top place)
edge_there fields top place =
    let same : 0 + place ≡ place = omega arith in
    picked_there fields top 0 fields place ∙ ap (λ (one : ℕ). only_there (slice_get fields place) (picked_at fields top one)) same

-- ---- it is a start

each_start : (begun : List Value) (all : List Field) (top number : ℕ) (fields : List Field) → ((k : ℕ) → slice_get fields k ≡ slice_get all (number + k))
    → ((place : ℕ) (field : Field) → slice_get all place ≡ Some field → MayStart begun field.start field.origin (picked_at all top place))
    → AreStarts begun fields (picked_from all top number fields)
each_start begun all top number [] along each = tt
each_start begun all top number (field ∷ fields) along each = (
  (let same : number ≡ number + 0 = omega arith in each number field (ap (slice_get all) same ∙ sym (along 0))),
  each_start begun all top (suc number) fields (λ k. let same : number + suc k ≡ suc number + k = omega arith in along (suc k) ∙ ap (slice_get all) same) each,
)

some_chosen : (all : List Value) (limit : Limit) (own value : Value) → MayStart all own (origins.Chosen limit) value → (number : ℤ) × IsAdmitted limit number
some_chosen all limit own (values.Int number) may = (number, may)
some_chosen all limit own (values.Bool truth) may = absurd may

admits_chosen : (limit : Limit) (some : ℤ) (top : Bool) → IsAdmitted limit some → IsAdmitted limit (chosen top limit)
admits_chosen limit some true is = admits_most limit some is
admits_chosen limit some false is = admits_least limit some is

-- of a field that copies none
root_here : (fields : List Field) (place : ℕ) → RootIs (slice_get fields place) → root_at fields place ≡ place
root_here fields place = by_found (slice_get fields place)
  where
    by_origin : (origin : Origin) → IsRoot origin → root_of place origin ≡ place
    by_origin origins.Own root = refl
    by_origin (origins.Chosen limit) root = refl
    by_origin (origins.Copied parameter) root = absurd root

    by_found : (found : Option Field) → RootIs found → root_found place found ≡ place
    by_found None root = refl
    by_found (Some field) root = by_origin field.origin root

abbrev picks : List Field → ℕ → ℕ → Value
picks fields top root = picked_found (root == top) (slice_get fields root)

record IsSource (fields : List Field) (place : ℕ) : Type 0 where
  there : IsSomeAnd (slice_get fields place) (λ source. IsChosen source.origin)

source_there : (found : Option Field) (value : Value) → IsSomeAnd found (λ source. IsChosen source.origin) → only_there found value ≡ Some value
source_there None value is = absurd is
source_there (Some field) value is = refl

pub edge_starts : (fields : List Field) (own : List Value) (top : ℕ) → All (HasItsOrigin fields) fields → IsStart fields own → IsStart fields (edge fields top)
edge_starts fields own top has opens =
    each_start (edge fields top) fields top 0 fields (λ k. let same : k ≡ 0 + k = omega arith in ap (slice_get fields) same)
    (λ place field there. by_origin place field field.origin there refl
    (subst (λ (found : Option Field). IfSome found (HasItsOrigin fields)) there (if_found (HasItsOrigin fields) fields place has))
    (subst (λ (found : Option Field). StartsAs own found (slice_get own place)) there (at_start own fields own place opens)))
  where
    default : (value : Option Value) (field : Field) (limit : Limit) → IsSomeAnd value (λ one. MayStart own field.start (origins.Chosen limit) one) → (number : ℤ) × IsAdmitted limit number
    default None field limit stands = absurd stands
    default (Some value) field limit stands = some_chosen own limit field.start value stands

    at_root : (place : ℕ) (field : Field) (origin : Origin) → slice_get fields place ≡ Some field → field.origin ≡ origin → picked_at fields top place ≡ picked_found (root_of place origin == top) (slice_get fields (root_of place origin))
    at_root place field origin there is =
        let same : root_at fields place ≡ root_of place origin = ap (root_found place) there ∙ ap (root_of place) is in ap (picks fields top) same

    by_origin : (place : ℕ) (field : Field) (origin : Origin) → slice_get fields place ≡ Some field → field.origin ≡ origin → HasOrigin fields field.kind field.origin
        → IsSomeAnd (slice_get own place) (λ value. MayStart own field.start field.origin value) → MayStart (edge fields top) field.start field.origin (picked_at fields top place)
    by_origin place field origins.Own there is origin stands =
        subst (λ (one : Origin). MayStart (edge fields top) field.start one (picked_at fields top place)) (sym is)
        (at_root place field origins.Own there is ∙ ap (picked_found (place == top)) there ∙ ap (picked (place == top) field.start) is)
    by_origin place field (origins.Chosen limit) there is origin stands =
        let some = default (slice_get own place) field limit (subst (λ (one : Origin). IsSomeAnd (slice_get own place) (λ value. MayStart own field.start one value)) is stands) in
        let value : picked_at fields top place ≡ values.Int (chosen (place == top) limit) =
        at_root place field (origins.Chosen limit) there is ∙ ap (picked_found (place == top)) there ∙ ap (picked (place == top) field.start) is in
        subst (λ (one : Origin). MayStart (edge fields top) field.start one (picked_at fields top place)) (sym is)
        (subst (MayStart (edge fields top) field.start (origins.Chosen limit)) (sym value) (admits_chosen limit some.0 (place == top) some.1))
    by_origin place field (origins.Copied parameter) there is origin stands =
        let copied = subst (λ (one : Origin). HasOrigin fields field.kind one) is origin in
        let source = copied.1 in
        let here : root_at fields parameter ≡ parameter = root_here fields parameter (subst RootIs refl (source_root (slice_get fields parameter) source)) in
        let value : picked_at fields top place ≡ picked_at fields top parameter = at_root place field (origins.Copied parameter) there is ∙ ap (picks fields top) (sym here) in
        subst (λ (one : Origin). MayStart (edge fields top) field.start one (picked_at fields top place)) (sym is)
        (edge_there fields top parameter ∙ source_there (slice_get fields parameter) (picked_at fields top parameter) source ∙ ap (λ (one : Value). Some one) (sym value))
      where
        source_root : (found : Option Field) → IsSomeAnd found (λ source. IsChosen source.origin) → RootIs found
        source_root None is = absurd is
        source_root (Some one) is = by_chosen one.origin is
          where
            by_chosen : (origin : Origin) → IsChosen origin → IsRoot origin
            by_chosen origins.Own is = absurd is
            by_chosen (origins.Chosen limit) is = tt
            by_chosen (origins.Copied parameter) is = absurd is

-- ---- its values are of 64 bits

pub edge_fits : (fields : List Field) (own : List Value) (top place : ℕ) → All (λ (field : Field). fits_64 field.start ≡ true) fields → IsStart fields own → fits_64 (picked_at fields top place) ≡ true
edge_fits fields own top place fit opens = by_found (root_at fields place) (slice_get fields (root_at fields place)) refl
  where
    by_origin : (test : Bool) (field : Field) (origin : Origin) → field.origin ≡ origin → fits_64 field.start ≡ true → (value : Option Value) → IsSomeAnd value (λ one. MayStart own field.start field.origin one)
        → fits_64 (picked test field.start origin) ≡ true
    by_origin test field origins.Own is fits value stands = fits
    by_origin test field (origins.Chosen limit) is fits None stands = absurd stands
    by_origin test field (origins.Chosen limit) is fits (Some value) stands =
        let some = some_chosen own limit field.start value (subst (λ (one : Origin). MayStart own field.start one value) is stands) in
        (admits_chosen limit some.0 test some.1).1
    by_origin test field (origins.Copied parameter) is fits value stands = fits

    by_found : (root : ℕ) (found : Option Field) → slice_get fields root ≡ found → fits_64 (picked_found (root == top) found) ≡ true
    by_found root None there = refl
    by_found root (Some field) there =
        by_origin (root == top) field field.origin refl (subst (λ (one : Option Field). IfSome one (λ (some : Field). fits_64 some.start ≡ true)) there (if_found (λ (some : Field). fits_64 some.start ≡ true) fields root fit))
        (slice_get own root) (subst (λ (one : Option Field). StartsAs own one (slice_get own root)) there (at_start own fields own root opens))

-- ---- it is made one value after the other

pub edge_long : (all : List Field) (top number : ℕ) (fields : List Field) → length (picked_from all top number fields) ≡ length fields
edge_long all top number [] = refl
edge_long all top number (field ∷ fields) = ap suc (edge_long all top (suc number) fields)

pub edge_more : (fields : List Field) (top place : ℕ) → place < length fields → take (place + 1) (edge fields top) ≡ take place (edge fields top) ++ picked_at fields top place ∷ []
edge_more fields top place low =
    let long = edge_long fields top 0 fields in
    let within : place < length (edge fields top) = omega arith in
    let there : slice_get (edge fields top) place ≡ Some (picked_at fields top place) = edge_there fields top place ∙ by_found (slice_get fields place) (slice_get_below fields place low) in
    take_more (edge fields top) place (picked_at fields top place) within
    ∙ ap (λ (value : Value). take place (edge fields top) ++ value ∷ []) (get_or_from_slice_get (edge fields top) place (picked_at fields top place) (picked_at fields top place) there)
  where
    by_found : (found : Option Field) → (found ≡ None → ⊥) → only_there found (picked_at fields top place) ≡ Some (picked_at fields top place)
    by_found None some = absurd (some refl)
    by_found (Some field) some = refl

    slice_get_below : (all : List Field) (i : ℕ) → i < length all → slice_get all i ≡ None → ⊥
    slice_get_below [] i below none = absurd (omega (arith, below))
    slice_get_below (field ∷ more) zero below none = absurd cc
    slice_get_below (field ∷ more) (suc i) below none = slice_get_below more i (omega (arith, below)) none

pub edge_all : (fields : List Field) (top count : ℕ) → length fields ≤ count → take count (edge fields top) ≡ edge fields top
edge_all fields top count long =
    let same = edge_long fields top 0 fields in
    take_all count (edge fields top) (omega arith)

-- ---- its numbers

picked_most : (found : Option Field) → RootIs found → number_of_value (picked_found true found) ≡ most_found found
picked_most None root = refl
picked_most (Some field) root = by_origin field.origin root
  where
    by_origin : (origin : Origin) → IsRoot origin → number_of_value (picked true field.start origin) ≡ most_of field.start origin
    by_origin origins.Own root = refl
    by_origin (origins.Chosen limit) root = refl
    by_origin (origins.Copied parameter) root = absurd root

picked_least : (found : Option Field) → RootIs found → number_of_value (picked_found false found) ≡ least_found found
picked_least None root = refl
picked_least (Some field) root = by_origin field.origin root
  where
    by_origin : (origin : Origin) → IsRoot origin → number_of_value (picked false field.start origin) ≡ least_of field.start origin
    by_origin origins.Own root = refl
    by_origin (origins.Chosen limit) root = refl
    by_origin (origins.Copied parameter) root = absurd root

number_picked : (fields : List Field) (top place : ℕ) → length fields ≤ FIELDS → AreStarts (edge fields top) fields (edge fields top) → number_in (edge fields top) place ≡ number_of_value (picked_at fields top place)
number_picked fields top place few is =
    let same = as_many (edge fields top) fields (edge fields top) is in
    let short : length (edge fields top) ≤ FIELDS = rw same few in
    ap number_of_value (value_found (edge fields top) place short) ∙ ap number_found (edge_there fields top place) ∙ by_found (slice_get fields place) refl
  where
    by_found : (found : Option Field) → slice_get fields place ≡ found → number_found (only_there found (picked_at fields top place)) ≡ number_of_value (picked_at fields top place)
    by_found None there =
        let root : root_at fields place ≡ place = ap (root_found place) there in sym (ap number_of_value (ap (picks fields top) root ∙ ap (picked_found (place == top)) there))
    by_found (Some field) there = refl

same_place : (place : ℕ) → (place == place) ≡ true
same_place place = grind arith

pub edge_most : (fields : List Field) (place : ℕ) → length fields ≤ FIELDS → All (HasItsOrigin fields) fields → IsStart fields (edge fields (root_at fields place))
    → number_in (edge fields (root_at fields place)) place ≡ most_at fields place
edge_most fields place few has is =
    number_picked fields (root_at fields place) place few is
    ∙ ap (λ (top : Bool). number_of_value (picked_found top (slice_get fields (root_at fields place)))) (same_place (root_at fields place))
    ∙ picked_most (slice_get fields (root_at fields place)) (rooted fields place has)

pub edge_least : (fields : List Field) (top place : ℕ) → (root_at fields place == top) ≡ false → length fields ≤ FIELDS → All (HasItsOrigin fields) fields → IsStart fields (edge fields top)
    → number_in (edge fields top) place ≡ least_at fields place
edge_least fields top place other few has is =
    number_picked fields top place few is
    ∙ ap (λ (top : Bool). number_of_value (picked_found top (slice_get fields (root_at fields place)))) other
    ∙ picked_least (slice_get fields (root_at fields place)) (rooted fields place has)
