-- How many candidates a monitor has at most.
use Rattle.std.proofs.Common.{◌≡◌, ◌==◌, ℕ, ◌+◌, ◌*◌, ◌≤◌, Bool, true, false, not, cond, ℤ, pos, List, [], ◌∷◌, ◌++◌, map, length, length-append, refl, arith}
use Rattle.std.specs.List.{filter, flat_map}
use Rattle.std.proofs.lemmas.List.{length-map, length-take}
use Rattle.lang_base.specs.declared.kind.Kind.{Kind}
use Rattle.lang_base.specs.declared.kind.Kind.TheVariants as kinds
use Rattle.lang_monitor.specs.declared.candidate.Candidate.{Candidate}
use Rattle.lang_monitor.specs.declared.candidate.Candidate.TheVariants as candidates
use Rattle.lang_monitor.specs.declared.monitor.Block.{Block}
use Rattle.lang_monitor.specs.declared.monitor.Field.{Field}
use Rattle.lang_monitor.specs.Candidates.{AreSomeOf, bounded, candidates_of, distinct, field_candidates, guard_bounds, int_fields, int_number, kind_candidates, own_numbers, pair_candidates, pool}
use Rattle.lang_monitor.specs.MonitorParts.{MonitorParts, IsMonitor}
use Rattle.plan_candidates.proofs.SomeOf.{some_length}

doubled : (field : ℕ) (bounds : List ℤ)
    → length (flat_map (bounded field) bounds) ≡ 2 * length bounds
doubled field [] = refl
doubled field (bound ∷ bounds) = omega (arith, doubled field bounds)

of_kind : (blocks : List Block) (field : ℕ) (own : List ℤ) (kind : Kind)
    → length (kind_candidates blocks field own kind) ≤ 24
of_kind blocks field own kinds.Int =
    let all : List ℤ = distinct (pos 0 ∷ (own ++ flat_map (guard_bounds field) blocks)) in
    omega (arith, doubled field (pool blocks field own), length-take 12 all)
of_kind blocks field own kinds.Bool = omega arith

of_fields : (blocks : List Block) (number : ℕ) (fields : List Field)
    → length (field_candidates blocks number fields) ≤ 24 * length fields
of_fields blocks number [] = omega arith
of_fields blocks number (field ∷ fields) =
    let here = kind_candidates blocks number (own_numbers field.start field.origin) field.kind in
    omega (arith, length-append here (field_candidates blocks (number + 1) fields), of_kind blocks number (own_numbers field.start field.origin) field.kind, of_fields blocks (number + 1) fields)

of_number : (number : ℕ) (kind : Kind) → length (int_number number kind) ≤ 1
of_number number kinds.Int = omega arith
of_number number kinds.Bool = omega arith

ints : (number : ℕ) (fields : List Field) → length (int_fields number fields) ≤ length fields
ints number [] = omega arith
ints number (field ∷ fields) =
    omega (arith, length-append (int_number number field.kind) (int_fields (number + 1) fields), of_number number field.kind, ints (number + 1) fields)

fewer : (test : ℕ → Bool) (xs : List ℕ) → length (filter test xs) ≤ length xs
fewer test [] = omega arith
fewer test (x ∷ xs) = by_test (test x) (fewer test xs)
  where
    by_test : (passes : Bool) → length (filter test xs) ≤ length xs
        → length (cond passes (x ∷ filter test xs) (filter test xs)) ≤ length (x ∷ xs)
    by_test true rest = omega (arith, rest)
    by_test false rest = omega (arith, rest)

of_pairs : (all lefts : List ℕ) → length all ≤ 16
    → length
    (flat_map (λ left. map (candidates.Below left) (filter (λ right. not (right == left)) all)) lefts) ≤ 16 * length lefts
of_pairs all [] few = omega arith
of_pairs all (left ∷ lefts) few =
    let rights : List ℕ = filter (λ right. not (right == left)) all in
    let more : List Candidate = flat_map (λ left. map (candidates.Below left) (filter (λ right. not (right == left)) all)) lefts in
    omega (arith, length-append (map (candidates.Below left) rights) more, length-map rights (candidates.Below left), fewer (λ right. not (right == left)) all, few, of_pairs all lefts few)

pub kept_are_few : (monitor : MonitorParts) (kept : List Candidate) → IsMonitor monitor
    → AreSomeOf kept (candidates_of monitor) → length kept ≤ 640
kept_are_few monitor kept rule some =
    let numbers : List ℕ = int_fields 0 monitor.fields in
    let fields = field_candidates monitor.blocks 0 monitor.fields in
    let few : length numbers ≤ 16 = omega (arith, ints 0 monitor.fields, rule.few_fields) in
    omega (arith, some_length kept (candidates_of monitor) some, length-append fields (pair_candidates numbers), of_fields monitor.blocks 0 monitor.fields, of_pairs numbers numbers few, few, rule.few_fields)
