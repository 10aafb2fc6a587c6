-- With which numbers fields start, whatever the monitor is opened with.
use Rattle.std.proofs.Common.{◌≡◌, ℕ, zero, suc, ◌≤◌, ℤ, pos, Bool, true, false, cond, List, [], ◌∷◌, length, sym, subst, arith, ap, refl, ◌∙◌}
use Rattle.std.specs.Prelude.{int_le, int_lt, nat_lt, Option, None, Some, IfSome, IsSomeAnd, slice_get, unwrap_or, ◌-◌, ◌^◌}
use Rattle.std.specs.List.{All}
use Rattle.std.proofs.lemmas.Int.{ints}
use Rattle.std.proofs.lemmas.Bool.{and_parts}
use Rattle.std.proofs.lemmas.Option.{slice_get_past}
use Rattle.std.proofs.lemmas.List.Elements.{All-head, All-tail}
use Rattle.lang_base.specs.Limits.{FIELDS}
use Rattle.lang_base.specs.declared.value.Value.{Value}
use Rattle.lang_base.specs.declared.value.Value.TheVariants as values
use Rattle.lang_monitor.specs.declared.monitor.Field.{Field}
use Rattle.lang_monitor.specs.declared.start.Limit.{Limit}
use Rattle.lang_monitor.specs.declared.start.Limit.TheVariants as limits
use Rattle.lang_monitor.specs.declared.start.Origin.{Origin}
use Rattle.lang_monitor.specs.declared.start.Origin.TheVariants as origins
use Rattle.lang_monitor.specs.Bodies.{no_inputs, number_of_value, truth_of_value, value_at}
use Rattle.lang_monitor.specs.MonitorParts.{HasOrigin, IsChosen}
use Rattle.lang_monitor.specs.Starts.{Admits, AreStarts, IsStart, MayStart, fits_64}
use Rattle.plan_candidates.specs.inner.Starts.{LEAST, MOST, least_at, least_found, least_in, least_of, most_at, most_found, most_in, most_of, root_at, root_found, root_of}
use Rattle.plan_candidates.proofs.StartTruths.{number_in}

-- ---- the value at a place

none_there : (place : ℕ) (middle : Bool) → cond middle (slice_get {X = Value} [] (place - 16)) (slice_get {X = Value} [] (place - 22)) ≡ None
none_there place true = refl
none_there place false = refl

pub value_found : (state : List Value) (place : ℕ) → length state ≤ FIELDS → value_at state no_inputs place ≡ unwrap_or (slice_get state place) (values.Int (pos 0))
value_found state place few = by_place (nat_lt place FIELDS) refl
  where
    by_place : (low : Bool) → nat_lt place FIELDS ≡ low
        → unwrap_or (cond low (slice_get state place) (cond (nat_lt place 22) (slice_get {X = Value} [] (place - 16)) (slice_get {X = Value} [] (place - 22)))) (values.Int (pos 0))
        ≡ unwrap_or (slice_get state place) (values.Int (pos 0))
    by_place true same = refl
    by_place false same =
        let past : length state ≤ place = grind arith in
        ap (λ (found : Option Value). unwrap_or found (values.Int (pos 0))) (none_there place (nat_lt place 22) ∙ sym (slice_get_past state place past))

-- ---- what may stand at a place

abbrev pub StartsAs : List Value → Option Field → Option Value → Type 0
StartsAs all None found = found ≡ None
StartsAs all (Some field) found = IsSomeAnd found (λ value. MayStart all field.start field.origin value)

pub at_start : (all : List Value) (fields : List Field) (start : List Value) (place : ℕ) → AreStarts all fields start → StartsAs all (slice_get fields place) (slice_get start place)
at_start all [] [] place are = refl
at_start all [] (value ∷ more) place are = absurd are
at_start all (field ∷ fields) [] place are = absurd are
at_start all (field ∷ fields) (value ∷ more) zero are = are.0
at_start all (field ∷ fields) (value ∷ more) (suc place) are = at_start all fields more place are.1

pub as_many : (all : List Value) (fields : List Field) (start : List Value) → AreStarts all fields start → length start ≡ length fields
as_many all [] [] are = refl
as_many all [] (value ∷ more) are = absurd are
as_many all (field ∷ fields) [] are = absurd are
as_many all (field ∷ fields) (value ∷ more) are = ap suc (as_many all fields more are.1)

-- ---- roots

-- copied by none
abbrev pub IsRoot : Origin → Type 0
IsRoot origins.Own = Unit {0}
IsRoot (origins.Chosen limit) = Unit {0}
IsRoot (origins.Copied parameter) = ⊥

abbrev pub RootIs : Option Field → Type 0
RootIs None = Unit {0}
RootIs (Some field) = IsRoot field.origin

abbrev pub HasItsOrigin : List Field → Field → Type 0
HasItsOrigin all field = HasOrigin all field.kind field.origin

pub if_found : {X : Type 0} (P : X → Type 0) (xs : List X) (place : ℕ) → All P xs → IfSome (slice_get xs place) P
if_found P [] place all = tt
if_found P (x ∷ xs) zero all = All-head P x xs all
if_found P (x ∷ xs) (suc place) all = if_found P xs place (All-tail P x xs all)

chosen_root : (found : Option Field) → IsSomeAnd found (λ source. IsChosen source.origin) → RootIs found
chosen_root None chosen = absurd chosen
chosen_root (Some field) chosen = by_origin field.origin chosen
  where
    by_origin : (origin : Origin) → IsChosen origin → IsRoot origin
    by_origin origins.Own is = absurd is
    by_origin (origins.Chosen limit) is = tt
    by_origin (origins.Copied parameter) is = absurd is

pub rooted : (fields : List Field) (place : ℕ) → All (HasItsOrigin fields) fields → RootIs (slice_get fields (root_at fields place))
rooted fields place has = by_found (slice_get fields place) refl (if_found (HasItsOrigin fields) fields place has)
  where
    by_origin : (field : Field) (origin : Origin) → slice_get fields place ≡ Some field → field.origin ≡ origin → HasOrigin fields field.kind origin → RootIs (slice_get fields (root_of place origin))
    by_origin field origins.Own same is own = subst RootIs (sym same) (subst IsRoot (sym is) tt)
    by_origin field (origins.Chosen limit) same is own = subst RootIs (sym same) (subst IsRoot (sym is) tt)
    by_origin field (origins.Copied parameter) same is own = chosen_root (slice_get fields parameter) own.1

    by_found : (found : Option Field) → slice_get fields place ≡ found → IfSome found (HasItsOrigin fields) → RootIs (slice_get fields (root_found place found))
    by_found None same own = subst RootIs (sym same) tt
    by_found (Some field) same own = by_origin field field.origin same refl own

-- a field has the value of its root
copied_is : (found other : Option Value) → IsSomeAnd found (λ value. other ≡ Some value) → other ≡ found
copied_is None other is = absurd is
copied_is (Some value) other is = is

pub as_root : (fields : List Field) (start : List Value) (place : ℕ) → IsStart fields start → slice_get start (root_at fields place) ≡ slice_get start place
as_root fields start place is = by_found (slice_get fields place) (at_start start fields start place is)
  where
    by_origin : (own : Value) (origin : Origin) → IsSomeAnd (slice_get start place) (λ value. MayStart start own origin value) → slice_get start (root_of place origin) ≡ slice_get start place
    by_origin own origins.Own stands = refl
    by_origin own (origins.Chosen limit) stands = refl
    by_origin own (origins.Copied parameter) stands = copied_is (slice_get start place) (slice_get start parameter) stands

    by_found : (found : Option Field) → StartsAs start found (slice_get start place) → slice_get start (root_found place found) ≡ slice_get start place
    by_found None stands = refl
    by_found (Some field) stands = by_origin field.start field.origin stands

-- ---- numbers

abbrev pub number_found : Option Value → ℤ
number_found found = number_of_value (unwrap_or found (values.Int (pos 0)))

abbrev pub truth_found : Option Value → Bool
truth_found found = truth_of_value (unwrap_or found (values.Int (pos 0)))

pub number_rooted : (fields : List Field) (start : List Value) (place : ℕ) → length fields ≤ FIELDS → IsStart fields start → number_in start place ≡ number_found (slice_get start (root_at fields place))
number_rooted fields start place few is =
    let same = as_many start fields start is in
    let short : length start ≤ FIELDS = rw same few in
    ap number_of_value (value_found start place short) ∙ ap number_found (sym (as_root fields start place is))

pub truth_rooted : (fields : List Field) (start : List Value) (place : ℕ) → length fields ≤ FIELDS → IsStart fields start
    → truth_of_value (value_at start no_inputs place) ≡ truth_found (slice_get start (root_at fields place))
truth_rooted fields start place few is =
    let same = as_many start fields start is in
    let short : length start ≤ FIELDS = rw same few in
    ap truth_of_value (value_found start place short) ∙ ap truth_found (sym (as_root fields start place is))

same_le : (number : ℤ) → int_le number number ≡ true
same_le number = grind (arith, ints)

pub record IsBetween (least number most : ℤ) : Type 0 where
  pub above : int_le least number ≡ true
  pub below : int_le number most ≡ true

admitted_between : (limit : Limit) (number : ℤ) → Admits limit number → fits_64 (values.Int number) ≡ true → IsBetween (least_in limit) number (most_in limit)
admitted_between (limits.Exactly only) number admits fits =
    record { above = ap (int_le only) admits ∙ same_le only; below = ap (λ (one : ℤ). int_le one only) admits ∙ same_le only }
admitted_between (limits.AtMost bound) number admits fits =
    let both = and_parts (int_le LEAST number) (int_lt number (pos (2 ^ 63))) fits in record { above = both.0; below = by_test (int_le MOST bound) both.1 }
  where
    by_test : (test : Bool) → int_lt number (pos (2 ^ 63)) ≡ true → int_le number (cond test MOST bound) ≡ true
    by_test true low = grind (arith, ints, low)
    by_test false low = admits
admitted_between (limits.AtLeast bound) number admits fits =
    let both = and_parts (int_le LEAST number) (int_lt number (pos (2 ^ 63))) fits in
    let low = both.1 in
    record { above = by_test (int_le bound LEAST) both.0; below = grind (arith, ints, low) }
  where
    by_test : (test : Bool) → int_le LEAST number ≡ true → int_le (cond test LEAST bound) number ≡ true
    by_test true high = high
    by_test false high = admits

between_of : (all : List Value) (own : Value) (origin : Origin) (value : Value) → IsRoot origin → MayStart all own origin value → IsBetween (least_of own origin) (number_of_value value) (most_of own origin)
between_of all own origins.Own value root may =
    subst (λ (one : Value). IsBetween (number_of_value own) (number_of_value one) (number_of_value own)) (sym may) (record { above = same_le (number_of_value own); below = same_le (number_of_value own) })
between_of all own (origins.Chosen limit) (values.Int number) root may = admitted_between limit number may.0 may.1
between_of all own (origins.Chosen limit) (values.Bool truth) root may = absurd may
between_of all own (origins.Copied parameter) value root may = absurd root

between_found : (all : List Value) (field : Option Field) (value : Option Value) → RootIs field → StartsAs all field value → IsBetween (least_found field) (number_found value) (most_found field)
between_found all None value root stands = subst (λ (found : Option Value). IsBetween (pos 0) (number_found found) (pos 0)) (sym stands) (record { above = refl; below = refl })
between_found all (Some field) None root stands = absurd stands
between_found all (Some field) (Some value) root stands = between_of all field.start field.origin value root stands

pub in_range : (fields : List Field) (start : List Value) (place : ℕ) → length fields ≤ FIELDS → All (HasItsOrigin fields) fields → IsStart fields start
    → IsBetween (least_at fields place) (number_in start place) (most_at fields place)
in_range fields start place few has is =
    subst (λ (number : ℤ). IsBetween (least_at fields place) number (most_at fields place)) (sym (number_rooted fields start place few is))
    (between_found start (slice_get fields (root_at fields place)) (slice_get start (root_at fields place)) (rooted fields place has) (at_start start fields start (root_at fields place) is))

-- ---- truths

truth_of_origin : (all others : List Value) (own : Value) (origin : Origin) (value other : Value) → IsRoot origin → MayStart all own origin value → MayStart others own origin other
    → truth_of_value value ≡ truth_of_value other
truth_of_origin all others own origins.Own value other root may might = ap truth_of_value (may ∙ sym might)
truth_of_origin all others own (origins.Chosen limit) (values.Int number) (values.Int next) root may might = refl
truth_of_origin all others own (origins.Chosen limit) (values.Int number) (values.Bool next) root may might = absurd might
truth_of_origin all others own (origins.Chosen limit) (values.Bool truth) other root may might = absurd may
truth_of_origin all others own (origins.Copied parameter) value other root may might = absurd root

truths_found : (all others : List Value) (field : Option Field) (value other : Option Value) → RootIs field → StartsAs all field value → StartsAs others field other → truth_found value ≡ truth_found other
truths_found all others None value other root stands like = ap truth_found (stands ∙ sym like)
truths_found all others (Some field) None other root stands like = absurd stands
truths_found all others (Some field) (Some value) None root stands like = absurd like
truths_found all others (Some field) (Some value) (Some other) root stands like = truth_of_origin all others field.start field.origin value other root stands like

-- truths are not chosen
pub truth_stays : (fields : List Field) (start other : List Value) (place : ℕ) → length fields ≤ FIELDS → All (HasItsOrigin fields) fields → IsStart fields start → IsStart fields other
    → truth_of_value (value_at start no_inputs place) ≡ truth_of_value (value_at other no_inputs place)
truth_stays fields start other place few has is might =
    truth_rooted fields start place few is
    ∙ truths_found start other (slice_get fields (root_at fields place)) (slice_get start (root_at fields place)) (slice_get other (root_at fields place)) (rooted fields place has)
    (at_start start fields start (root_at fields place) is) (at_start other fields other (root_at fields place) might)
    ∙ sym (truth_rooted fields other place few might)
