-- A monitor's candidates are distinct, so those of them that a list contains determine their order.
use Rattle.std.proofs.Common.{◌≡◌, ℕ, zero, suc, ◌+◌, ◌==◌, ◌≤◌, ℤ, pos, Bool, true, false, not, cond, List, [], ◌∷◌, ◌++◌, map, take, refl, sym, ap, subst, ◌∙◌, arith, inl, inr}
use Rattle.std.specs.List.{Contains, flat_map, filter}
use Rattle.std.specs.Ordering.{int_eq}
use Rattle.std.proofs.lemmas.Bool.{true≢false}
use Rattle.std.proofs.lemmas.Bool.Decides.{Decides-int_eq}
use Rattle.std.proofs.lemmas.List.Elements.{All-contains, All-contains_itself, All-filter, All-take, Contains-append_cases, filter_passes}
use Rattle.lang_base.specs.declared.kind.Kind.{Kind}
use Rattle.lang_base.specs.declared.kind.Kind.TheVariants as kinds
use Rattle.lang_base.proofs.Members.{contains_head, contains_tail, first_or_later, from_flat_map, from_map, none_in, only_in}
use Rattle.lang_monitor.specs.declared.candidate.Candidate.{Candidate}
use Rattle.lang_monitor.specs.declared.candidate.Candidate.TheVariants as candidates
use Rattle.lang_monitor.specs.declared.monitor.Block.{Block}
use Rattle.lang_monitor.specs.declared.monitor.Field.{Field}
use Rattle.lang_monitor.specs.MonitorParts.{MonitorParts}
use Rattle.lang_monitor.specs.Candidates.{AreSomeOf, MOST_BOUNDS, bounded, candidates_of, distinct, field_candidates, guard_bounds, int_fields, int_number, kind_candidates, own_numbers, pair_candidates, pool}

-- ---- lists of distinct elements

-- each stands once
abbrev AreApart : {X : Type 0} → List X → Type 0
AreApart [] = Unit {0}
AreApart (x ∷ xs) = (Contains xs x → ⊥) × AreApart xs

apart_append : {X : Type 0} (xs ys : List X) → AreApart xs → AreApart ys → ((x : X) → Contains xs x → Contains ys x → ⊥) → AreApart (xs ++ ys)
apart_append [] ys ones others cross = others
apart_append (x ∷ xs) ys ones others cross = (
  λ within. elim (Contains-append_cases xs ys x within) [
    | inl here ↦ ones.0 here
    | inr there ↦ cross x (contains_head x xs) there
  ],
  apart_append xs ys ones.1 others (λ one here there. cross one (contains_tail x one xs here) there),
)

from_filter : {X : Type 0} (test : X → Bool) (xs : List X) (x : X) → Contains (filter test xs) x → Contains xs x
from_filter test xs x within = All-contains (Contains xs) (filter test xs) x (All-filter test (Contains xs) xs (All-contains_itself xs)) within

from_take : {X : Type 0} (n : ℕ) (xs : List X) (x : X) → Contains (take n xs) x → Contains xs x
from_take n xs x within = All-contains (Contains xs) (take n xs) x (All-take (Contains xs) n xs (All-contains_itself xs)) within

passed : {X : Type 0} (test : X → Bool) (xs : List X) (x : X) → Contains (filter test xs) x → test x ≡ true
passed test xs x within = All-contains (λ one. test one ≡ true) (filter test xs) x (filter_passes test xs) within

apart_if : {X : Type 0} (test : X → Bool) (x : X) (xs : List X) (passes : Bool) → (Contains xs x → ⊥) → AreApart (filter test xs) → AreApart (cond passes (x ∷ filter test xs) (filter test xs))
apart_if test x xs true none rest = (λ within. none (from_filter test xs x within), rest)
apart_if test x xs false none rest = rest

apart_filter : {X : Type 0} (test : X → Bool) (xs : List X) → AreApart xs → AreApart (filter test xs)
apart_filter test [] apart = tt
apart_filter test (x ∷ xs) apart = apart_if test x xs (test x) apart.0 (apart_filter test xs apart.1)

apart_take : {X : Type 0} (n : ℕ) (xs : List X) → AreApart xs → AreApart (take n xs)
apart_take zero [] apart = tt
apart_take zero (x ∷ xs) apart = tt
apart_take (suc n) [] apart = tt
apart_take (suc n) (x ∷ xs) apart = (λ within. apart.0 (from_take n xs x within), apart_take n xs apart.1)

apart_map : {X Y : Type 0} (f : X → Y) → ((a b : X) → f a ≡ f b → a ≡ b) → (xs : List X) → AreApart xs → AreApart (map f xs)
apart_map f injective [] apart = tt
apart_map f injective (x ∷ xs) apart = (
  λ within. let image = from_map f xs (f x) within in apart.0 (subst (Contains xs) (injective image.from x image.is) image.one),
  apart_map f injective xs apart.1,
)

-- lists of distinct elements that say of which one they are
apart_flat : {X Y : Type 0} (f : X → List Y) (key : Y → X) → ((x : X) (y : Y) → Contains (f x) y → key y ≡ x) → ((x : X) → AreApart (f x)) → (xs : List X) → AreApart xs → AreApart (flat_map f xs)
apart_flat f key keyed each [] apart = tt
apart_flat f key keyed each (x ∷ xs) apart =
    apart_append (f x) (flat_map f xs) (each x) (apart_flat f key keyed each xs apart.1)
    (λ y here there. let source = from_flat_map f xs y there in apart.0 (subst (Contains xs) (sym (keyed source.from y source.within) ∙ keyed x y here) source.one))

-- ---- the numbers of a pool

abbrev other_than : ℤ → ℤ → Bool
other_than number other = not (int_eq other number)

not_itself : (number : ℤ) → other_than number number ≡ true → ⊥
not_itself number other = true≢false (sym other ∙ ap not ((Decides-int_eq number number).1 refl))

apart_distinct : (numbers : List ℤ) → AreApart (distinct numbers)
apart_distinct [] = tt
apart_distinct (number ∷ numbers) = (
  λ within. not_itself number (passed (other_than number) (distinct numbers) number within),
  apart_filter (other_than number) (distinct numbers) (apart_distinct numbers),
)

-- ---- the candidates of a field

bound_in : Candidate → ℤ
bound_in (candidates.AtMost field bound) = bound
bound_in (candidates.AtLeast field bound) = bound
bound_in candidate = pos 0

-- the field of a candidate by itself, and the left one of a pair
field_in : Candidate → ℕ
field_in (candidates.AtMost field bound) = field
field_in (candidates.AtLeast field bound) = field
field_in (candidates.Flag field is) = field
field_in (candidates.Below left right) = left

right_in : Candidate → ℕ
right_in (candidates.Below left right) = right
right_in candidate = 0

is_pair : Candidate → Bool
is_pair (candidates.Below left right) = true
is_pair candidate = false

same_bound : (field : ℕ) (bound : ℤ) (one : Candidate) → Contains (bounded field bound) one → bound_in one ≡ bound
unfolding bound_in
same_bound field bound one within = elim (first_or_later (candidates.AtMost field bound) one (candidates.AtLeast field bound ∷ []) within) [
  | inl is ↦ sym (ap bound_in is)
  | inr more ↦ sym (ap bound_in (only_in (candidates.AtLeast field bound) one more))
]

same_field : (field : ℕ) (bound : ℤ) (one : Candidate) → Contains (bounded field bound) one → field_in one ≡ field
unfolding field_in
same_field field bound one within = elim (first_or_later (candidates.AtMost field bound) one (candidates.AtLeast field bound ∷ []) within) [
  | inl is ↦ sym (ap field_in is)
  | inr more ↦ sym (ap field_in (only_in (candidates.AtLeast field bound) one more))
]

no_pair : (field : ℕ) (bound : ℤ) (one : Candidate) → Contains (bounded field bound) one → is_pair one ≡ false
unfolding is_pair
no_pair field bound one within = elim (first_or_later (candidates.AtMost field bound) one (candidates.AtLeast field bound ∷ []) within) [
  | inl is ↦ sym (ap is_pair is)
  | inr more ↦ sym (ap is_pair (only_in (candidates.AtLeast field bound) one more))
]

apart_bounded : (field : ℕ) (bound : ℤ) → AreApart (bounded field bound)
apart_bounded field bound = (
  λ within. let same = only_in (candidates.AtLeast field bound) (candidates.AtMost field bound) within in cc,
  (λ within. none_in (candidates.AtLeast field bound) within, tt),
)

abbrev IsOf : ℕ → Candidate → Type 0
IsOf field one = (field_in one ≡ field) × (is_pair one ≡ false)

flag_is : (field : ℕ) (one : Candidate) → Contains (candidates.Flag field true ∷ candidates.Flag field false ∷ []) one → IsOf field one
unfolding field_in is_pair
flag_is field one within = elim (first_or_later (candidates.Flag field true) one (candidates.Flag field false ∷ []) within) [
  | inl is ↦ (sym (ap field_in is), sym (ap is_pair is))
  | inr more ↦ (sym (ap field_in (only_in (candidates.Flag field false) one more)), sym (ap is_pair (only_in (candidates.Flag field false) one more)))
]

of_kind : (blocks : List Block) (field : ℕ) (own : List ℤ) (kind : Kind) (one : Candidate) → Contains (kind_candidates blocks field own kind) one → IsOf field one
of_kind blocks field own kinds.Int one within =
    let source = from_flat_map (bounded field) (pool blocks field own) one within in
    (same_field field source.from one source.within, no_pair field source.from one source.within)
of_kind blocks field own kinds.Bool one within = flag_is field one within

apart_kind : (blocks : List Block) (field : ℕ) (own : List ℤ) (kind : Kind) → AreApart (kind_candidates blocks field own kind)
apart_kind blocks field own kinds.Int =
    apart_flat (bounded field) bound_in (same_bound field) (apart_bounded field) (pool blocks field own)
    (apart_take MOST_BOUNDS (distinct (pos 0 ∷ (own ++ flat_map (guard_bounds field) blocks))) (apart_distinct (pos 0 ∷ (own ++ flat_map (guard_bounds field) blocks))))
apart_kind blocks field own kinds.Bool = (
  λ within. let same = only_in (candidates.Flag field false) (candidates.Flag field true) within in cc,
  (λ within. none_in (candidates.Flag field false) within, tt),
)

abbrev IsFrom : ℕ → Candidate → Type 0
IsFrom field one = (field ≤ field_in one) × (is_pair one ≡ false)

of_fields : (blocks : List Block) (number : ℕ) (fields : List Field) (one : Candidate) → Contains (field_candidates blocks number fields) one → IsFrom number one
of_fields blocks number [] one within = none_in one within
of_fields blocks number (field ∷ fields) one within =
    elim (Contains-append_cases (kind_candidates blocks number (own_numbers field.start field.origin) field.kind) (field_candidates blocks (number + 1) fields) one within) [
      | inl here ↦ (let is = of_kind blocks number (own_numbers field.start field.origin) field.kind one here in (omega (arith, is.0), is.1))
      | inr there ↦ (let is = of_fields blocks (number + 1) fields one there in (omega (arith, is.0), is.1))
    ]

apart_fields : (blocks : List Block) (number : ℕ) (fields : List Field) → AreApart (field_candidates blocks number fields)
apart_fields blocks number [] = tt
apart_fields blocks number (field ∷ fields) =
    apart_append (kind_candidates blocks number (own_numbers field.start field.origin) field.kind) (field_candidates blocks (number + 1) fields)
    (apart_kind blocks number (own_numbers field.start field.origin) field.kind) (apart_fields blocks (number + 1) fields)
    (λ one here there. omega (arith, (of_kind blocks number (own_numbers field.start field.origin) field.kind one here).0, (of_fields blocks (number + 1) fields one there).0))

-- ---- the candidates of pairs

of_number : (number : ℕ) (kind : Kind) (one : ℕ) → Contains (int_number number kind) one → number ≡ one
of_number number kinds.Int one within = only_in number one within
of_number number kinds.Bool one within = none_in one within

apart_number : (number : ℕ) (kind : Kind) → AreApart (int_number number kind)
apart_number number kinds.Int = (λ within. none_in number within, tt)
apart_number number kinds.Bool = tt

from_number : (number : ℕ) (fields : List Field) (one : ℕ) → Contains (int_fields number fields) one → number ≤ one
from_number number [] one within = none_in one within
from_number number (field ∷ fields) one within = elim (Contains-append_cases (int_number number field.kind) (int_fields (number + 1) fields) one within) [
  | inl here ↦ omega (arith, of_number number field.kind one here)
  | inr there ↦ omega (arith, from_number (number + 1) fields one there)
]

apart_numbers : (number : ℕ) (fields : List Field) → AreApart (int_fields number fields)
apart_numbers number [] = tt
apart_numbers number (field ∷ fields) =
    apart_append (int_number number field.kind) (int_fields (number + 1) fields) (apart_number number field.kind) (apart_numbers (number + 1) fields)
    (λ one here there. omega (arith, of_number number field.kind one here, from_number (number + 1) fields one there))

abbrev others_of : List ℕ → ℕ → List ℕ
others_of fields left = filter (λ right. not (right == left)) fields

abbrev pairs_of : List ℕ → ℕ → List Candidate
pairs_of fields left = map (candidates.Below left) (others_of fields left)

same_left : (fields : List ℕ) (left : ℕ) (one : Candidate) → Contains (pairs_of fields left) one → field_in one ≡ left
unfolding field_in
same_left fields left one within = sym (ap field_in (from_map (candidates.Below left) (others_of fields left) one within).is)

one_right : (left a b : ℕ) → candidates.Below left a ≡ candidates.Below left b → a ≡ b
unfolding right_in
one_right left a b same = ap right_in same

apart_pairs : (fields : List ℕ) → AreApart fields → AreApart (pair_candidates fields)
apart_pairs fields apart =
    apart_flat (pairs_of fields) field_in (same_left fields)
    (λ left. apart_map (candidates.Below left) (one_right left) (others_of fields left) (apart_filter (λ right. not (right == left)) fields apart)) fields apart

of_pairs : (fields : List ℕ) (one : Candidate) → Contains (pair_candidates fields) one → is_pair one ≡ true
unfolding is_pair
of_pairs fields one within =
    let source = from_flat_map (pairs_of fields) fields one within in
    sym (ap is_pair (from_map (candidates.Below source.from) (others_of fields source.from) one source.within).is)

apart_candidates : (monitor : MonitorParts) → AreApart (candidates_of monitor)
apart_candidates monitor =
    apart_append (field_candidates monitor.blocks 0 monitor.fields) (pair_candidates (int_fields 0 monitor.fields))
    (apart_fields monitor.blocks 0 monitor.fields) (apart_pairs (int_fields 0 monitor.fields) (apart_numbers 0 monitor.fields))
    (λ one here there. true≢false (sym (of_pairs (int_fields 0 monitor.fields) one there) ∙ (of_fields monitor.blocks 0 monitor.fields one here).1))

-- ---- some of distinct candidates

some_within : (kept all : List Candidate) → AreSomeOf kept all → (one : Candidate) → Contains kept one → Contains all one
some_within [] all are one within = none_in one within
some_within (head ∷ kept) [] are one within = absurd are
some_within (head ∷ kept) (first ∷ all) (inl (same, are)) one within = elim (first_or_later head one kept within) [
  | inl is ↦ subst (Contains (first ∷ all)) (sym same ∙ is) (contains_head first all)
  | inr more ↦ contains_tail first one all (some_within kept all are one more)
]
some_within (head ∷ kept) (first ∷ all) (inr are) one within = contains_tail first one all (some_within (head ∷ kept) all are one within)

-- the first of the one list is later in the other's source: it would stand twice
twice : (first one : Candidate) (kept all : List Candidate) → (Contains all first → ⊥) → one ≡ first → AreSomeOf kept all → Contains kept one → ⊥
twice first one kept all none is are within = none (subst (Contains all) is (some_within kept all are one within))

rest_within : (first head other : Candidate) (kept others all : List Candidate) → (Contains all first → ⊥) → other ≡ first → AreSomeOf kept all
    → ((one : Candidate) → Contains (head ∷ kept) one → Contains (other ∷ others) one) → (one : Candidate) → Contains kept one → Contains others one
rest_within first head other kept others all none is are there one within = elim (first_or_later other one others (there one (contains_tail head one kept within))) [
  | inl same ↦ absurd (twice first one kept all none (sym same ∙ is) are within)
  | inr more ↦ more
]

cons_same : (a b : Candidate) (some others : List Candidate) → a ≡ b → some ≡ others → a ∷ some ≡ b ∷ others
cons_same a b some others head rest = λ i. head i ∷ rest i

same_some : (all kept other : List Candidate) → AreApart all → AreSomeOf kept all → AreSomeOf other all → ((one : Candidate) → Contains kept one → Contains other one)
    → ((one : Candidate) → Contains other one → Contains kept one) → kept ≡ other
same_some all [] [] apart some others there back = refl
same_some all [] (o ∷ os) apart some others there back = none_in o (back o (contains_head o os))
same_some all (k ∷ ks) [] apart some others there back = none_in k (there k (contains_head k ks))
same_some [] (k ∷ ks) (o ∷ os) apart some others there back = absurd some
same_some (first ∷ all) (k ∷ ks) (o ∷ os) apart (inl (k_is, some)) (inl (o_is, others)) there back =
    cons_same k o ks os (k_is ∙ sym o_is)
    (same_some all ks os apart.1 some others (rest_within first k o ks os all apart.0 o_is some there) (rest_within first o k os ks all apart.0 k_is others back))
same_some (first ∷ all) (k ∷ ks) (o ∷ os) apart (inl (k_is, some)) (inr others) there back = absurd (twice first k (o ∷ os) all apart.0 k_is others (there k (contains_head k ks)))
same_some (first ∷ all) (k ∷ ks) (o ∷ os) apart (inr some) (inl (o_is, others)) there back = absurd (twice first o (k ∷ ks) all apart.0 o_is some (back o (contains_head o os)))
same_some (first ∷ all) (k ∷ ks) (o ∷ os) apart (inr some) (inr others) there back = same_some all (k ∷ ks) (o ∷ os) apart.1 some others there back

-- some of a monitor's candidates are determined by what they contain
pub same_kept : (monitor : MonitorParts) (kept other : List Candidate) → AreSomeOf kept (candidates_of monitor) → AreSomeOf other (candidates_of monitor)
    → ((one : Candidate) → Contains kept one → Contains other one) → ((one : Candidate) → Contains other one → Contains kept one) → kept ≡ other
same_kept monitor kept other some others there back = same_some (candidates_of monitor) kept other (apart_candidates monitor) some others there back
