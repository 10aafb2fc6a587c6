-- The candidates of a monitor have formulas: their bounds are small, and they compare different
-- fields.
use Rattle.std.proofs.Common.{◌≡◌, ℕ, zero, suc, ◌+◌, ◌^◌, ℤ, pos, neg_ℤ, ◌+ℤ◌, ◌-ℤ◌, Bool, true, false, not, ◌&&◌, List, [], ◌∷◌, ◌++◌, map, take, cond, sym, subst, arith, ap, refl, ◌∙◌}
use Rattle.std.specs.Prelude.{◌==◌, int_le, int_lt, Some, slice_get}
use Rattle.std.specs.List.{All, list_all, filter, flat_map}
use Rattle.std.specs.Ordering.{int_eq}
use Rattle.std.specs.Cmp.Lexicographic.{pointwise}
use Rattle.std.proofs.lemmas.Bool.{and_parts}
use Rattle.std.proofs.lemmas.Int.{ints}
use Rattle.std.proofs.lemmas.List.Folds.{list_all-append}
use Rattle.lang_base.specs.Numbers.{is_within}
use Rattle.lang_base.specs.declared.kind.Kind.{Kind}
use Rattle.lang_base.specs.declared.kind.Kind.TheVariants as kinds
use Rattle.lang_base.specs.declared.value.Value.{Value}
use Rattle.lang_base.specs.declared.value.Value.TheVariants as values
use Rattle.logic_linear.specs.Linear.{Linear, same_term}
use Rattle.logic_linear.specs.Places.{rows_layer, rows_of}
use Rattle.logic_linear.specs.declared.formula.Formula.{Formula}
use Rattle.logic_linear.specs.declared.formula.Formula.TheOpen.{Formula-F, Row, Flag, All as Every, Any as Some_of}
use Rattle.logic_linear.specs.declared.formula.Formula.TheViews.{roll-Formula}
use Rattle.logic_linear.specs.declared.formula.Formula.TheFolds.{ind-Formula, map-Formula, fold-roll-Formula}
use Rattle.lang_monitor.specs.declared.candidate.Candidate.TheVariants as candidates
use Rattle.lang_monitor.specs.declared.monitor.Field.{Field}
use Rattle.lang_monitor.specs.declared.monitor.Block.{Block}
use Rattle.lang_monitor.specs.Bodies.{number_of_value, fits_64}
use Rattle.lang_monitor.specs.declared.start.Origin.{Origin}
use Rattle.lang_monitor.specs.declared.start.Origin.TheVariants as origins
use Rattle.lang_monitor.specs.Starts.{limit_number}
use Rattle.lang_monitor.specs.MonitorParts.{MonitorParts, IsMonitor, HasOrigin, Places, fits_term, fits_formula_step, fits_formula}
use Rattle.lang_monitor.specs.Candidates.{once, opposite, bound_of, around, guard_bounds, distinct, MOST_BOUNDS, pool, bounded, kind_candidates, field_candidates, int_fields, pair_candidates, candidates_of, own_numbers}
use Rattle.lang_monitor.specs.Triples.{places_of}
use Rattle.logic_wp.specs.Expressible.{is_expressible}
use Rattle.logic_wp.proofs.Fitting.{block_fits}

both_hold : (a b : Bool) → a ≡ true → b ≡ true → (a && b) ≡ true
both_hold a b e f = rw (e, f) refl

-- ---- lists each of whose elements passes a test

append_all : {X : Type 0} (test : X → Bool) (xs ys : List X) → list_all test xs ≡ true
    → list_all test ys ≡ true → list_all test (xs ++ ys) ≡ true
append_all test xs ys e f = list_all-append test xs ys ∙ both_hold (list_all test xs) (list_all test ys) e f

flat_all : {X Y : Type 0} (first : X → Bool) (second : Y → Bool) (f : X → List Y)
    → ((x : X) → first x ≡ true → list_all second (f x) ≡ true)
    → (xs : List X) → list_all first xs ≡ true → list_all second (flat_map f xs) ≡ true
flat_all first second f each [] e = refl
flat_all first second f each (x ∷ xs) e =
    let both = and_parts (first x) (list_all first xs) e in
    append_all second (f x) (flat_map f xs) (each x both.0) (flat_all first second f each xs both.1)

kept_all : {X : Type 0} (test : X → Bool) (kept : Bool) (x : X) (rest : List X) → test x ≡ true
    → list_all test rest ≡ true → list_all test (cond kept (x ∷ rest) rest) ≡ true
kept_all test true x rest e f = both_hold (test x) (list_all test rest) e f
kept_all test false x rest e f = f

filter_all : {X : Type 0} (test keep : X → Bool) (xs : List X) → list_all test xs ≡ true
    → list_all test (filter keep xs) ≡ true
filter_all test keep [] e = refl
filter_all test keep (x ∷ xs) e =
    let both = and_parts (test x) (list_all test xs) e in
    kept_all test (keep x) x (filter keep xs) both.0 (filter_all test keep xs both.1)

take_all : {X : Type 0} (test : X → Bool) (n : ℕ) (xs : List X) → list_all test xs ≡ true
    → list_all test (take n xs) ≡ true
take_all test zero xs e = refl
take_all test (suc n) [] e = refl
take_all test (suc n) (x ∷ xs) e =
    let both = and_parts (test x) (list_all test xs) e in both_hold (test x) (list_all test (take n xs)) both.0 (take_all test n xs both.1)

distinct_all : (test : ℤ → Bool) (xs : List ℤ) → list_all test xs ≡ true
    → list_all test (distinct xs) ≡ true
distinct_all test [] e = refl
distinct_all test (x ∷ xs) e =
    let both = and_parts (test x) (list_all test xs) e in
    both_hold (test x) _ both.0 (filter_all test (λ other. not (int_eq other x)) (distinct xs) (distinct_all test xs both.1))

-- ---- rows of guards

abbrev has_small_constant : Linear → Bool
has_small_constant form = is_within (2 ^ 64) form.constant

abbrev HasSmallRows : Places → Formula → Type 0
HasSmallRows places formula = fits_formula places formula ≡ true → list_all has_small_constant (rows_of formula) ≡ true

parts_rows : (places : Places) (parts : List ((formula : Formula) × HasSmallRows places formula))
    → list_all (λ part. part) (map (fits_formula places) (map (λ part. part.0) parts)) ≡ true
    → list_all has_small_constant (flat_map (λ part. part)
    (map rows_of (map (λ part. part.0) parts))) ≡ true
parts_rows places [] e = refl
parts_rows places (part ∷ parts) e =
    let both = and_parts (fits_formula places part.0) (list_all (λ part. part) (map (fits_formula places) (map (λ part. part.0) parts))) e in
    append_all has_small_constant (rows_of part.0) _ (part.1 both.0) (parts_rows places parts both.1)

abbrev LayerRows : Places → Formula-F Formula → Type 0
LayerRows places layer = fits_formula_step places (map-Formula _ Bool (fits_formula places) layer) ≡ true → list_all has_small_constant (rows_layer (map-Formula _ (List Linear) rows_of layer)) ≡ true

layer_rows : (places : Places) (layer : Formula-F ((formula : Formula)
    × HasSmallRows places formula)) → LayerRows places
    (map-Formula _ Formula (λ part. part.0) layer)
layer_rows places (Row form) e = both_hold (has_small_constant form) true (and_parts (list_all (fits_term places) form.terms) (is_within (2 ^ 64) form.constant) e).1 refl
layer_rows places (Flag place is) e = refl
layer_rows places (Every parts) e = parts_rows places parts e
layer_rows places (Some_of parts) e = parts_rows places parts e

small_rows : (places : Places) (formula : Formula) → HasSmallRows places formula
small_rows places = ind-Formula (HasSmallRows places) (λ layer parts is. whole layer (subst (LayerRows places) is (layer_rows places parts)))
  where
    whole : (layer : Formula-F Formula) → LayerRows places layer
        → HasSmallRows places (roll-Formula layer)
    whole layer rows e =
        ap (list_all has_small_constant) (fold-roll-Formula (List Linear) rows_layer layer)
        ∙ rows (sym (fold-roll-Formula Bool (fits_formula_step places) layer) ∙ e)

-- ---- bounds

opposite_small : (number : ℤ) → is_within (2 ^ 64) number ≡ true
    → is_within (2 ^ 64) (neg_ℤ number) ≡ true
opposite_small number e = grind (arith, ints)

bound_small : (field : ℕ) (form : Linear) → has_small_constant form ≡ true
    → list_all (is_within (2 ^ 64)) (bound_of field form) ≡ true
bound_small field form e = by_tests (pointwise same_term form.terms (once field ∷ [])) (pointwise same_term form.terms (opposite field ∷ []))
  where
    by_tests : (above below : Bool) → list_all (is_within (2 ^ 64))
        (cond above (neg_ℤ form.constant ∷ []) (cond below (form.constant ∷ []) [])) ≡ true
    by_tests true below = both_hold (is_within (2 ^ 64) (neg_ℤ form.constant)) true (opposite_small form.constant e) refl
    by_tests false true = both_hold (is_within (2 ^ 64) form.constant) true e refl
    by_tests false false = refl

less_small : (bound : ℤ) → is_within (2 ^ 64) bound ≡ true
    → is_within (2 ^ 65) (bound -ℤ pos 1) ≡ true
less_small bound e = grind (arith, ints)

same_small : (bound : ℤ) → is_within (2 ^ 64) bound ≡ true → is_within (2 ^ 65) bound ≡ true
same_small bound e = grind (arith, ints)

more_small : (bound : ℤ) → is_within (2 ^ 64) bound ≡ true
    → is_within (2 ^ 65) (bound +ℤ pos 1) ≡ true
more_small bound e = grind (arith, ints)

around_small : (bound : ℤ) → is_within (2 ^ 64) bound ≡ true
    → list_all (is_within (2 ^ 65)) (around bound) ≡ true
around_small bound e = both_hold _ _ (less_small bound e) (both_hold _ _ (same_small bound e) (both_hold _ _ (more_small bound e) refl))

abbrev has_small_rows : Block → Bool
has_small_rows block = list_all has_small_constant (rows_of block.guard)

bounds_small : (field : ℕ) (block : Block) → has_small_rows block ≡ true
    → list_all (is_within (2 ^ 65)) (guard_bounds field block) ≡ true
bounds_small field block e =
    flat_all (is_within (2 ^ 64)) (is_within (2 ^ 65)) around around_small (flat_map (bound_of field) (rows_of block.guard))
    (flat_all has_small_constant (is_within (2 ^ 64)) (bound_of field) (bound_small field) (rows_of block.guard) e)

each_small : (blocks : List Block) → ((index : ℕ) (block : Block)
    → slice_get blocks index ≡ Some block → has_small_rows block ≡ true)
    → list_all has_small_rows blocks ≡ true
each_small [] each = refl
each_small (block ∷ blocks) each =
    both_hold (has_small_rows block) (list_all has_small_rows blocks) (each zero block refl) (each_small blocks (λ index other is. each (suc index) other is))

blocks_small : (monitor : MonitorParts) → IsMonitor monitor
    → list_all has_small_rows monitor.blocks ≡ true
blocks_small monitor rule = each_small monitor.blocks (λ index block is.
    small_rows (places_of monitor block) block.guard (block_fits monitor index block rule is).guard)

pool_small : (blocks : List Block) (field : ℕ) (own : List ℤ) → list_all has_small_rows blocks ≡ true
    → list_all (is_within (2 ^ 65)) own ≡ true → list_all (is_within (2 ^ 65)) (pool blocks field own)
    ≡ true
pool_small blocks field own e f =
    let guards : List ℤ = flat_map (guard_bounds field) blocks in
    let numbers : List ℤ = pos 0 ∷ (own ++ guards) in
    let small : list_all (is_within (2 ^ 65)) guards ≡ true = flat_all has_small_rows (is_within (2 ^ 65)) (guard_bounds field) (bounds_small field) blocks e in
    let each : list_all (is_within (2 ^ 65)) numbers ≡ true =
    both_hold (is_within (2 ^ 65) (pos 0)) (list_all (is_within (2 ^ 65)) (own ++ guards)) refl
    (append_all (is_within (2 ^ 65)) own guards f small) in
    take_all (is_within (2 ^ 65)) MOST_BOUNDS (distinct numbers) (distinct_all (is_within (2 ^ 65)) numbers each)

-- ---- candidates

bounded_fine : (field : ℕ) (bound : ℤ) → is_within (2 ^ 65) bound ≡ true
    → list_all is_expressible (bounded field bound) ≡ true
bounded_fine field bound e = both_hold _ _ e (both_hold _ _ e refl)

kind_fine : (blocks : List Block) (field : ℕ) (own : List ℤ) (kind : Kind)
    → list_all has_small_rows blocks ≡ true → list_all (is_within (2 ^ 65)) own ≡ true
    → list_all is_expressible (kind_candidates blocks field own kind) ≡ true
kind_fine blocks field own kinds.Int e f = flat_all (is_within (2 ^ 65)) is_expressible (bounded field) (bounded_fine field) (pool blocks field own) (pool_small blocks field own e f)
kind_fine blocks field own kinds.Bool e f = refl

start_small : (value : Value) → fits_64 value ≡ true
    → is_within (2 ^ 65) (number_of_value value) ≡ true
start_small (values.Int number) e = let both = and_parts (int_le (neg_ℤ (pos (2 ^ 63))) number) (int_lt number (pos (2 ^ 63))) e in grind (arith, ints, both.0, both.1)
start_small (values.Bool truth) e = refl

own_small : (all : List Field) (kind : Kind) (start : Value) (origin : Origin) → fits_64 start ≡ true → HasOrigin all kind origin
    → list_all (is_within (2 ^ 65)) (own_numbers start origin) ≡ true
own_small all kind start origins.Own e has = both_hold (is_within (2 ^ 65) (number_of_value start)) true (start_small start e) refl
own_small all kind start (origins.Chosen limit) e has = both_hold (is_within (2 ^ 65) (limit_number limit)) true (same_small (limit_number limit) has.1) refl
own_small all kind start (origins.Copied parameter) e has = refl

fields_fine : (all : List Field) (blocks : List Block) (number : ℕ) (fields : List Field)
    → list_all has_small_rows blocks ≡ true → All (λ field. fits_64 field.start ≡ true) fields
    → All (λ field. HasOrigin all field.kind field.origin) fields
    → list_all is_expressible (field_candidates blocks number fields) ≡ true
fields_fine all blocks number [] e f has = refl
fields_fine all blocks number (field ∷ fields) e f has =
    append_all is_expressible (kind_candidates blocks number (own_numbers field.start field.origin) field.kind) (field_candidates blocks (number + 1) fields)
    (kind_fine blocks number (own_numbers field.start field.origin) field.kind e
    (own_small all field.kind field.start field.origin (f zero field (omega arith)) (has zero field (omega arith))))
    (fields_fine all blocks (number + 1) fields e (λ k d l. f (suc k) d (omega arith)) (λ k d l. has (suc k) d (omega arith)))

other_side : (left right : ℕ) → not (right == left) ≡ true → not (left == right) ≡ true
other_side left right e = grind arith

below_more : (left right : ℕ) (rest : List ℕ) (other : Bool) → not (right == left) ≡ other → list_all is_expressible (map (candidates.Below left) rest) ≡ true
    → list_all is_expressible (map (candidates.Below left) (cond other (right ∷ rest) rest)) ≡ true
below_more left right rest true is e = both_hold (not (left == right)) _ (other_side left right is) e
below_more left right rest false is e = e

below_fine : (left : ℕ) (fields : List ℕ) → list_all is_expressible (map (candidates.Below left) (filter (λ right. not (right == left)) fields)) ≡ true
below_fine left [] = refl
below_fine left (right ∷ fields) = below_more left right (filter (λ right. not (right == left)) fields) (not (right == left)) refl (below_fine left fields)

pairs_fine : (all fields : List ℕ) → list_all is_expressible (flat_map (λ left. map (candidates.Below left) (filter (λ right. not (right == left)) all)) fields) ≡ true
pairs_fine all [] = refl
pairs_fine all (left ∷ fields) = append_all is_expressible (map (candidates.Below left) (filter (λ right. not (right == left)) all)) _ (below_fine left all) (pairs_fine all fields)

pub candidates_fine : (monitor : MonitorParts) → IsMonitor monitor
    → All (λ field. fits_64 field.start ≡ true) monitor.fields
    → list_all is_expressible (candidates_of monitor) ≡ true
candidates_fine monitor rule starts =
    append_all is_expressible (field_candidates monitor.blocks 0 monitor.fields) (pair_candidates (int_fields 0 monitor.fields))
    (fields_fine monitor.fields monitor.blocks 0 monitor.fields (blocks_small monitor rule) starts rule.origins)
    (pairs_fine (int_fields 0 monitor.fields) (int_fields 0 monitor.fields))
