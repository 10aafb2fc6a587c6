-- The candidates of a monitor are about its fields.
use Rattle.std.proofs.Common.{◌≡◌, ◌==◌, ℕ, ◌+◌, Bool, true, false, not, ◌&&◌, cond, ℤ, List, [], ◌∷◌, ◌++◌, map, length, sym, subst, arith, inl, inr}
use Rattle.std.specs.Prelude.{All, nat_lt}
use Rattle.std.specs.List.{flat_map, filter}
use Rattle.std.proofs.lemmas.Bool.{lt-ltb, and_from}
use Rattle.std.proofs.lemmas.List.Elements.{All-nil, All-cons, All-head, All-tail}
use Rattle.lang_base.specs.declared.kind.Kind.{Kind}
use Rattle.lang_base.specs.declared.kind.Kind.TheVariants as kinds
use Rattle.lang_monitor.specs.declared.candidate.Candidate.{Candidate}
use Rattle.lang_monitor.specs.declared.candidate.Candidate.TheVariants as candidates
use Rattle.lang_monitor.specs.declared.monitor.Field.{Field}
use Rattle.lang_monitor.specs.declared.monitor.Block.{Block}
use Rattle.lang_monitor.specs.MonitorParts.{MonitorParts}
use Rattle.lang_monitor.specs.Candidates.{pool, kind_candidates, field_candidates, int_number, int_fields, pair_candidates, candidates_of, own_numbers}
use Rattle.machine_events.specs.Plans.{AreSomeOf}

-- a candidate about the first fields, so many
abbrev pub is_low : ℕ → Candidate → Bool
is_low fields (candidates.AtMost field bound) = nat_lt field fields
is_low fields (candidates.AtLeast field bound) = nat_lt field fields
is_low fields (candidates.Flag field is) = nat_lt field fields
is_low fields (candidates.Below left right) = nat_lt left fields && nat_lt right fields

abbrev pub AreLow : ℕ → List Candidate → Type 0
AreLow fields some = All (λ candidate. is_low fields candidate ≡ true) some

no_candidate : (fields : ℕ) → AreLow fields []
no_candidate fields = All-nil (λ (candidate : Candidate). is_low fields candidate ≡ true)

one_more : (fields : ℕ) (candidate : Candidate) (some : List Candidate)
    → is_low fields candidate ≡ true → AreLow fields some → AreLow fields (candidate ∷ some)
one_more fields candidate some low rest = All-cons (λ (one : Candidate). is_low fields one ≡ true) candidate some low rest

both_low : (fields : ℕ) (some others : List Candidate) → AreLow fields some → AreLow fields others
    → AreLow fields (some ++ others)
both_low fields [] others low rest = rest
both_low fields (first ∷ some) others low rest =
    one_more fields first (some ++ others) (All-head (λ (one : Candidate). is_low fields one ≡ true) first some low)
    (both_low fields some others (All-tail (λ (one : Candidate). is_low fields one ≡ true) first some low) rest)

-- ---- of a field by itself

bounds_low : (fields field : ℕ) → nat_lt field fields ≡ true → (numbers : List ℤ)
    → AreLow fields (flat_map (λ bound. candidates.AtMost field bound
    ∷ candidates.AtLeast field bound ∷ []) numbers)
bounds_low fields field low [] = no_candidate fields
bounds_low fields field low (number ∷ numbers) =
    let rest = flat_map (λ bound. candidates.AtMost field bound ∷ candidates.AtLeast field bound ∷ []) numbers in
    one_more fields (candidates.AtMost field number) (candidates.AtLeast field number ∷ rest) low
    (one_more fields (candidates.AtLeast field number) rest low (bounds_low fields field low numbers))

kind_low : (fields field : ℕ) → nat_lt field fields ≡ true
    → (blocks : List Block) (own : List ℤ) (kind : Kind)
    → AreLow fields (kind_candidates blocks field own kind)
kind_low fields field low blocks own kinds.Int = bounds_low fields field low (pool blocks field own)
kind_low fields field low blocks own kinds.Bool =
    one_more fields (candidates.Flag field true) (candidates.Flag field false ∷ []) low (one_more fields (candidates.Flag field false) [] low (no_candidate fields))

fields_low : (count number : ℕ) (fields : List Field) (blocks : List Block)
    → number + length fields ≡ count → AreLow count (field_candidates blocks number fields)
fields_low count number [] blocks same = no_candidate count
fields_low count number (field ∷ fields) blocks same =
    both_low count (kind_candidates blocks number (own_numbers field.start field.origin) field.kind) (field_candidates blocks (number + 1) fields)
    (kind_low count number (lt-ltb number count (omega arith)) blocks (own_numbers field.start field.origin) field.kind)
    (fields_low count (number + 1) fields blocks (omega arith))

-- ---- of pairs of fields

abbrev AreBelow : ℕ → List ℕ → Type 0
AreBelow count numbers = All (λ number. nat_lt number count ≡ true) numbers

none_below : (count : ℕ) → AreBelow count []
none_below count = All-nil (λ (number : ℕ). nat_lt number count ≡ true)

kind_below : (count number : ℕ) (kind : Kind) (rest : List ℕ) → nat_lt number count ≡ true
    → AreBelow count rest → AreBelow count (int_number number kind ++ rest)
kind_below count number kinds.Int rest low below = All-cons (λ (one : ℕ). nat_lt one count ≡ true) number rest low below
kind_below count number kinds.Bool rest low below = below

ints_below : (count number : ℕ) (fields : List Field) → number + length fields ≡ count
    → AreBelow count (int_fields number fields)
ints_below count number [] same = none_below count
ints_below count number (field ∷ fields) same =
    kind_below count number field.kind (int_fields (number + 1) fields) (lt-ltb number count (omega arith)) (ints_below count (number + 1) fields (omega arith))

by_test : (count left right : ℕ) (test : Bool) (rest : List ℕ) → nat_lt left count ≡ true
    → nat_lt right count ≡ true
    → AreLow count (map (λ one. candidates.Below left one) rest)
    → AreLow count (map (λ one. candidates.Below left one) (cond test (right ∷ rest) rest))
by_test count left right true rest low also more = one_more count (candidates.Below left right) (map (λ one. candidates.Below left one) rest) (and_from (nat_lt left count) (nat_lt right count) low also) more
by_test count left right false rest low also more = more

rights_low : (count left : ℕ) → nat_lt left count ≡ true → (rights : List ℕ) → AreBelow count rights
    → AreLow count (map (λ right. candidates.Below left right)
    (filter (λ right. not (right == left)) rights))
rights_low count left low [] below = no_candidate count
rights_low count left low (right ∷ rights) below =
    by_test count left right (not (right == left)) (filter (λ one. not (one == left)) rights) low (All-head (λ (one : ℕ). nat_lt one count ≡ true) right rights below)
    (rights_low count left low rights (All-tail (λ (one : ℕ). nat_lt one count ≡ true) right rights below))

lefts_low : (count : ℕ) (rights lefts : List ℕ) → AreBelow count rights → AreBelow count lefts
    → AreLow count (flat_map (λ left. map (λ right. candidates.Below left right)
    (filter (λ right. not (right == left)) rights)) lefts)
lefts_low count rights [] below all = no_candidate count
lefts_low count rights (left ∷ lefts) below all =
    both_low count (map (λ right. candidates.Below left right) (filter (λ right. not (right == left)) rights))
    (flat_map (λ left. map (λ right. candidates.Below left right) (filter (λ right. not (right == left)) rights)) lefts)
    (rights_low count left (All-head (λ (one : ℕ). nat_lt one count ≡ true) left lefts all) rights below)
    (lefts_low count rights lefts below (All-tail (λ (one : ℕ). nat_lt one count ≡ true) left lefts all))

-- ---- all of them

candidates_low : (monitor : MonitorParts) → AreLow (length monitor.fields) (candidates_of monitor)
candidates_low monitor =
    let count = length monitor.fields in
    let ints = ints_below count 0 monitor.fields (omega arith) in
    both_low count (field_candidates monitor.blocks 0 monitor.fields) (pair_candidates (int_fields 0 monitor.fields))
    (fields_low count 0 monitor.fields monitor.blocks (omega arith)) (lefts_low count (int_fields 0 monitor.fields) (int_fields 0 monitor.fields) ints ints)

some_low : (fields : ℕ) (kept all : List Candidate) → AreSomeOf kept all → AreLow fields all
    → AreLow fields kept
some_low fields [] all some low = no_candidate fields
some_low fields (one ∷ kept) [] some low = absurd some
some_low fields (one ∷ kept) (first ∷ all) (inl taken) low =
    one_more fields one kept (subst (λ (candidate : Candidate). is_low fields candidate ≡ true) (sym taken.0) (All-head (λ (candidate : Candidate). is_low fields candidate ≡ true) first all low))
    (some_low fields kept all taken.1 (All-tail (λ (candidate : Candidate). is_low fields candidate ≡ true) first all low))
some_low fields (one ∷ kept) (first ∷ all) (inr later) low = some_low fields (one ∷ kept) all later (All-tail (λ (candidate : Candidate). is_low fields candidate ≡ true) first all low)

-- those that are some of the monitor's
pub kept_low : (monitor : MonitorParts) (kept : List Candidate)
    → AreSomeOf kept (candidates_of monitor) → AreLow (length monitor.fields) kept
kept_low monitor kept some = some_low (length monitor.fields) kept (candidates_of monitor) some (candidates_low monitor)
