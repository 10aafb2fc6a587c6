-- The candidates of a monitor are about its fields, and a bound of one is the field's number at the
-- start where nothing is chosen, or small.
use Rattle.std.proofs.Common.{◌≡◌, ◌==◌, ℕ, zero, suc, ◌+◌, ◌^◌, ℤ, pos, neg_ℤ, ◌+ℤ◌, ◌-ℤ◌, Bool, true, false, not, ◌&&◌, List, [], ◌∷◌, ◌++◌, map, get_or, take, Some, cond, sym, subst, arith, ap, refl, ◌∙◌, inl, inr}
use Rattle.std.specs.Prelude.{slice_get}
use Rattle.std.specs.Option.{option_map_or}
use Rattle.std.specs.List.{All, list_all, filter, flat_map, AllByRecursion as Each}
use Rattle.std.specs.Ordering.{int_eq}
use Rattle.std.specs.Cmp.Lexicographic.{pointwise}
use Rattle.std.proofs.lemmas.Bool.{and_parts}
use Rattle.std.proofs.lemmas.Int.{ints}
use Rattle.std.proofs.lemmas.List.Elements.{recursion_from_All}
use Rattle.std.proofs.lemmas.Option.{slice_get-get_or}
use Rattle.lang_base.specs.Numbers.{is_within}
use Rattle.lang_base.specs.declared.kind.Kind.{Kind}
use Rattle.lang_base.specs.declared.kind.Kind.TheVariants as kinds
use Rattle.logic_linear.specs.Linear.{Linear, same_term}
use Rattle.logic_linear.specs.Places.{rows_layer, rows_of}
use Rattle.logic_linear.specs.declared.formula.Formula.{Formula}
use Rattle.logic_linear.specs.declared.formula.Formula.TheOpen.{Formula-F, Row, Flag, All as Every, Any as Some_of}
use Rattle.logic_linear.specs.declared.formula.Formula.TheViews.{roll-Formula}
use Rattle.logic_linear.specs.declared.formula.Formula.TheFolds.{ind-Formula, map-Formula, fold-roll-Formula}
use Rattle.lang_monitor.specs.declared.candidate.Candidate.{Candidate}
use Rattle.lang_monitor.specs.declared.candidate.Candidate.TheVariants as candidates
use Rattle.lang_monitor.specs.declared.monitor.Field.{Field}
use Rattle.lang_monitor.specs.declared.monitor.Block.{Block}
use Rattle.lang_monitor.specs.Bodies.{number_of_value}
use Rattle.lang_base.specs.declared.value.Value.{Value}
use Rattle.lang_monitor.specs.declared.start.Origin.{Origin}
use Rattle.lang_monitor.specs.declared.start.Origin.TheVariants as origins
use Rattle.lang_monitor.specs.Starts.{limit_number}
use Rattle.lang_monitor.specs.MonitorParts.{MonitorParts, IsMonitor, HasOrigin, Places, method_places, fits_term, fits_formula_step, fits_formula, fits_statement, fits_result}
use Rattle.machine_implicit.proofs.Placed.{placed}
use Rattle.lang_monitor.specs.Candidates.{once, opposite, bound_of, around, guard_bounds, distinct, MOST_BOUNDS, pool, bounded, kind_candidates, field_candidates, int_fields, pair_candidates, candidates_of, own_numbers}
use Rattle.machine_events.specs.Plans.{AreSomeOf}
use Rattle.lang_base.proofs.Numerals.{SMALL, IsNear}

-- ---- rows of guards: their constants are at most 2^64

-- the greatest magnitude of a row's constant
abbrev ROW : ℕ
ROW = 2 ^ 64

abbrev HasRow : Linear → Type 0
HasRow form = is_within ROW form.constant ≡ true

abbrev HasRows : Places → Formula → Type 0
HasRows places formula = fits_formula places formula ≡ true → Each HasRow (rows_of formula)

each_append : {X : Type 0} (P : X → Type 0) (xs ys : List X) → Each P xs → Each P ys
    → Each P (xs ++ ys)
each_append P [] ys each more = more
each_append P (x ∷ xs) ys each more = (each.0, each_append P xs ys each.1 more)

each_flat : {X Y : Type 0} (P : X → Type 0) (Q : Y → Type 0) (f : X → List Y)
    → ((x : X) → P x → Each Q (f x)) → (xs : List X) → Each P xs → Each Q (flat_map f xs)
each_flat P Q f one [] each = tt
each_flat P Q f one (x ∷ xs) each = each_append Q (f x) (flat_map f xs) (one x each.0) (each_flat P Q f one xs each.1)

parts_rows : (places : Places) (parts : List ((formula : Formula) × HasRows places formula))
    → list_all (λ part. part) (map (fits_formula places) (map (λ part. part.0) parts)) ≡ true
    → Each HasRow (flat_map (λ part. part) (map rows_of (map (λ part. part.0) parts)))
parts_rows places [] fit = tt
parts_rows places (part ∷ parts) fit =
    let both = and_parts (fits_formula places part.0) (list_all (λ one. one) (map (fits_formula places) (map (λ one. one.0) parts))) fit in
    each_append HasRow (rows_of part.0) (flat_map (λ one. one) (map rows_of (map (λ one. one.0) parts))) (part.1 both.0) (parts_rows places parts both.1)

abbrev LayerRows : Places → Formula-F Formula → Type 0
LayerRows places layer = fits_formula_step places (map-Formula _ Bool (fits_formula places) layer) ≡ true → Each HasRow (rows_layer (map-Formula _ (List Linear) rows_of layer))

layer_rows : (places : Places) (layer : Formula-F ((formula : Formula) × HasRows places formula))
    → LayerRows places (map-Formula _ Formula (λ part. part.0) layer)
layer_rows places (Row form) fit = ((and_parts (list_all (fits_term places) form.terms) (is_within (2 ^ 64) form.constant) fit).1, tt)
layer_rows places (Flag place is) fit = tt
layer_rows places (Every parts) fit = parts_rows places parts fit
layer_rows places (Some_of parts) fit = parts_rows places parts fit

has_rows : (places : Places) (formula : Formula) → HasRows places formula
has_rows places = ind-Formula (HasRows places) (λ layer parts is. whole layer (subst (LayerRows places) is (layer_rows places parts)))
  where
    whole : (layer : Formula-F Formula) → LayerRows places layer
        → HasRows places (roll-Formula layer)
    whole layer rows fit =
        subst (Each HasRow) (sym (fold-roll-Formula (List Linear) rows_layer layer))
        (rows (sym (fold-roll-Formula Bool (fits_formula_step places) layer) ∙ fit))

abbrev HasBlockRows : Block → Type 0
HasBlockRows block = Each HasRow (rows_of block.guard)

block_rows : (monitor : MonitorParts) (number : ℕ) (block : Block) → IsMonitor monitor
    → slice_get monitor.blocks number ≡ Some block → HasBlockRows block
block_rows monitor number block rule is =
    let places : Places = method_places monitor block.method in
    let fits = placed monitor number block rule is in
    has_rows places block.guard (and_parts (fits_formula places block.guard) (list_all (fits_statement places) block.body && fits_result places block.result) fits.fits).0

blocks_rows : (monitor : MonitorParts) → IsMonitor monitor → Each HasBlockRows monitor.blocks
blocks_rows monitor rule =
    recursion_from_All HasBlockRows monitor.blocks
    (λ number default within. block_rows monitor number (get_or monitor.blocks number default) rule (slice_get-get_or monitor.blocks number default within))

-- ---- the numbers with which a field is compared: the one at the start, or small

module _ (start : ℤ) where
  less_near : (bound : ℤ) → is_within ROW bound ≡ true → is_within SMALL (bound -ℤ pos 1) ≡ true
  less_near bound within = grind (arith, ints)

  same_near_one : (bound : ℤ) → is_within ROW bound ≡ true → is_within SMALL bound ≡ true
  same_near_one bound within = grind (arith, ints)

  more_near : (bound : ℤ) → is_within ROW bound ≡ true → is_within SMALL (bound +ℤ pos 1) ≡ true
  more_near bound within = grind (arith, ints)

  around_near : (bound : ℤ) → is_within ROW bound ≡ true → Each (IsNear start) (around bound)
  around_near bound within = (inr (less_near bound within), (inr (same_near_one bound within), (inr (more_near bound within), tt)))

opposite_within : (number : ℤ) → is_within ROW number ≡ true → is_within ROW (neg_ℤ number) ≡ true
opposite_within number within = grind (arith, ints)

bound_within : (field : ℕ) (form : Linear) → HasRow form
    → Each (λ number. is_within ROW number ≡ true) (bound_of field form)
bound_within field form within = by_tests (pointwise same_term form.terms (once field ∷ [])) (pointwise same_term form.terms (opposite field ∷ []))
  where
    by_tests : (above below : Bool)
        → Each (λ number. is_within ROW number ≡ true)
        (cond above (neg_ℤ form.constant ∷ []) (cond below (form.constant ∷ []) []))
    by_tests true below = (opposite_within form.constant within, tt)
    by_tests false true = (within, tt)
    by_tests false false = tt

guard_near : (start : ℤ) (field : ℕ) (block : Block) → HasBlockRows block
    → Each (IsNear start) (guard_bounds field block)
guard_near start field block rows =
    each_flat (λ number. is_within ROW number ≡ true) (IsNear start) around (around_near start) (flat_map (bound_of field) (rows_of block.guard))
    (each_flat HasRow (λ number. is_within ROW number ≡ true) (bound_of field) (bound_within field) (rows_of block.guard) rows)

filter_each : {X : Type 0} (P : X → Type 0) (keep : X → Bool) (xs : List X) → Each P xs
    → Each P (filter keep xs)
filter_each P keep [] each = tt
filter_each P keep (x ∷ xs) each = by_test (keep x) (filter keep xs) (filter_each P keep xs each.1)
  where
    by_test : (kept : Bool) (rest : List _) → Each P rest → Each P (cond kept (x ∷ rest) rest)
    by_test true rest more = (each.0, more)
    by_test false rest more = more

take_each : {X : Type 0} (P : X → Type 0) (n : ℕ) (xs : List X) → Each P xs → Each P (take n xs)
take_each P zero xs each = tt
take_each P (suc n) [] each = tt
take_each P (suc n) (x ∷ xs) each = (each.0, take_each P n xs each.1)

distinct_each : (P : ℤ → Type 0) (xs : List ℤ) → Each P xs → Each P (distinct xs)
distinct_each P [] each = tt
distinct_each P (x ∷ xs) each = (each.0, filter_each P (λ other. not (int_eq other x)) (distinct xs) (distinct_each P xs each.1))

pool_near : (blocks : List Block) (field : ℕ) (start : ℤ) (own : List ℤ) → Each HasBlockRows blocks
    → Each (IsNear start) own → Each (IsNear start) (pool blocks field own)
pool_near blocks field start own rows owned =
    let guards : List ℤ = flat_map (guard_bounds field) blocks in
    let numbers : List ℤ = pos 0 ∷ (own ++ guards) in
    take_each (IsNear start) MOST_BOUNDS (distinct numbers) (distinct_each (IsNear start) numbers
    (inr refl, each_append (IsNear start) own guards owned (each_flat HasBlockRows (IsNear start) (guard_bounds field) (guard_near start field) blocks rows)))

own_near : (all : List Field) (kind : Kind) (start : Value) (origin : Origin) → HasOrigin all kind origin
    → Each (IsNear (number_of_value start)) (own_numbers start origin)
own_near all kind start origins.Own has = (inl refl, tt)
own_near all kind start (origins.Chosen limit) has = (inr (same_near_one (number_of_value start) (limit_number limit) has.1), tt)
own_near all kind start (origins.Copied parameter) has = tt

-- ---- candidates

-- the number of a field at the start
abbrev pub start_at : List Field → ℕ → ℤ
start_at fields field = option_map_or (λ one. number_of_value one.start) (slice_get fields field) (pos 0)

-- a bound is near the number at the start
abbrev pub IsNearStart : (ℕ → ℤ) → Candidate → Type 0
IsNearStart starts (candidates.AtMost field bound) = IsNear (starts field) bound
IsNearStart starts (candidates.AtLeast field bound) = IsNear (starts field) bound
IsNearStart starts (candidates.Flag field is) = Unit {0}
IsNearStart starts (candidates.Below left right) = Unit {0}

kind_near : (starts : ℕ → ℤ) (blocks : List Block) (field : ℕ) (start : ℤ) (own : List ℤ) (kind : Kind)
    → Each HasBlockRows blocks → Each (IsNear start) own → starts field ≡ start
    → Each (IsNearStart starts) (kind_candidates blocks field own kind)
kind_near starts blocks field start own kinds.Int rows owned is =
    each_flat (IsNear (starts field)) (IsNearStart starts) (bounded field) (λ bound near. (near, (near, tt))) (pool blocks field own)
    (subst (λ one. Each (IsNear one) (pool blocks field own)) (sym is) (pool_near blocks field start own rows owned))
kind_near starts blocks field start own kinds.Bool rows owned is = (tt, (tt, tt))

fields_near : (starts : ℕ → ℤ) (all : List Field) (blocks : List Block) (number : ℕ) (fields : List Field)
    → Each HasBlockRows blocks → ((k : ℕ) → starts (number + k) ≡ start_at fields k)
    → All (λ field. HasOrigin all field.kind field.origin) fields
    → Each (IsNearStart starts) (field_candidates blocks number fields)
fields_near starts all blocks number [] rows are has = tt
fields_near starts all blocks number (field ∷ fields) rows are has =
    let first : ℤ = number_of_value field.start in
    let own : List ℤ = own_numbers field.start field.origin in
    each_append (IsNearStart starts) (kind_candidates blocks number own field.kind) (field_candidates blocks (number + 1) fields)
    (kind_near starts blocks number first own field.kind rows (own_near all field.kind field.start field.origin (has zero field (omega arith))) (ap starts {x = number} {y = number + 0} (omega arith) ∙ are 0))
    (fields_near starts all blocks (number + 1) fields rows (λ k. ap starts {x = number + 1 + k} {y = number + suc k} (omega arith) ∙ are (suc k)) (λ k d low. has (suc k) d (omega arith)))

below_near : (starts : ℕ → ℤ) (left : ℕ) (rights : List ℕ)
    → Each (IsNearStart starts) (map (candidates.Below left) rights)
below_near starts left [] = tt
below_near starts left (right ∷ rights) = (tt, below_near starts left rights)

pairs_near : (starts : ℕ → ℤ) (all lefts : List ℕ)
    → Each (IsNearStart starts)
    (flat_map (λ left. map (candidates.Below left) (filter (λ right. not (right == left)) all)) lefts)
pairs_near starts all [] = tt
pairs_near starts all (left ∷ lefts) =
    each_append (IsNearStart starts) (map (candidates.Below left) (filter (λ right. not (right == left)) all)) _
    (below_near starts left (filter (λ right. not (right == left)) all)) (pairs_near starts all lefts)

candidates_near : (monitor : MonitorParts) → IsMonitor monitor
    → Each (IsNearStart (start_at monitor.fields)) (candidates_of monitor)
candidates_near monitor rule =
    let starts : ℕ → ℤ = start_at monitor.fields in
    let ints_of : List ℕ = int_fields 0 monitor.fields in
    each_append (IsNearStart starts) (field_candidates monitor.blocks 0 monitor.fields) (pair_candidates ints_of)
    (fields_near starts monitor.fields monitor.blocks 0 monitor.fields (blocks_rows monitor rule) (λ k. ap starts {x = 0 + k} {y = k} (omega arith)) rule.origins)
    (pairs_near starts ints_of ints_of)

-- ---- those that are kept

some_each : (P : Candidate → Type 0) (kept all : List Candidate) → AreSomeOf kept all → Each P all
    → Each P kept
some_each P [] all some each = tt
some_each P (one ∷ kept) [] some each = absurd some
some_each P (one ∷ kept) (first ∷ all) (inl taken) each = (subst P (sym taken.0) each.0, some_each P kept all taken.1 each.1)
some_each P (one ∷ kept) (first ∷ all) (inr later) each = some_each P (one ∷ kept) all later each.1

pub kept_near : (monitor : MonitorParts) (kept : List Candidate) → IsMonitor monitor
    → AreSomeOf kept (candidates_of monitor) → Each (IsNearStart (start_at monitor.fields)) kept
kept_near monitor kept rule some = some_each (IsNearStart (start_at monitor.fields)) kept (candidates_of monitor) some (candidates_near monitor rule)
