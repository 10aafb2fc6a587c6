-- A guard without one of its rows: it reads no more, and can be negated where the guard can.
use Rattle.std.proofs.Common.{◌≡◌, ◌==◌, ℕ, ◌+◌, ◌-◌, ◌<◌, Bool, true, false, not, cond, ◌&&◌, ◌||◌, List, [], ◌∷◌, ◌++◌, map, length, drop, get_or, sym, ap, ap₂, subst, refl, ◌∙◌}
use Rattle.std.specs.List.{list_all, list_any, filter, flat_map}
use Rattle.std.proofs.lemmas.Bool.{and_parts, and_from}
use Rattle.std.proofs.lemmas.List.{append_assoc, at_drop_more}
use Rattle.logic_linear.specs.declared.formula.Formula.{Formula}
use Rattle.logic_linear.specs.declared.formula.Formula.TheVariants as formulas
use Rattle.logic_linear.specs.declared.formula.Formula.TheOpen.{Formula-F, Row, Flag, All as Every, Any as Some_of}
use Rattle.logic_linear.specs.declared.formula.Formula.TheViews.{roll-Formula}
use Rattle.logic_linear.specs.declared.formula.Formula.TheFolds.{ind-Formula, map-Formula, fold-roll-Formula}
use Rattle.logic_linear.specs.Linear.{Linear}
use Rattle.logic_linear.specs.Negation.{can_negate, can_negate_layer, negation, layer_negation}
use Rattle.logic_linear.specs.Places.{rows_of, rows_layer}
use Rattle.lang_monitor.specs.Inputs.{reads_step, reads_inputs}
use Rattle.machine_events.specs.Counts.{Cut, cut_layer, cut_of, every_of, is_never, never, parts_without, some_of, without_row}

-- ---- the rows of a cut

abbrev RowsStay : Formula → Type 0
RowsStay formula = (cut_of formula).rows ≡ rows_of formula

rows_of_cuts : (parts : List ((formula : Formula) × RowsStay formula))
    → flat_map (λ (part : Cut). part.rows) (map cut_of (map (λ part. part.0) parts)) ≡ flat_map (λ rows. rows) (map rows_of (map (λ part. part.0) parts))
rows_of_cuts [] = refl
rows_of_cuts (part ∷ parts) = ap₂ (λ (here there : List Linear). here ++ there) part.1 (rows_of_cuts parts)

abbrev LayerRowsStay : Formula-F Formula → Type 0
LayerRowsStay layer = (cut_layer (map-Formula _ Cut cut_of layer)).rows ≡ rows_layer (map-Formula _ (List Linear) rows_of layer)

layer_rows_stay : (layer : Formula-F ((formula : Formula) × RowsStay formula)) → LayerRowsStay (map-Formula _ Formula (λ part. part.0) layer)
layer_rows_stay (Row form) = refl
layer_rows_stay (Flag place is) = refl
layer_rows_stay (Every parts) = rows_of_cuts parts
layer_rows_stay (Some_of parts) = rows_of_cuts parts

pub cut_rows : (formula : Formula) → RowsStay formula
cut_rows = ind-Formula RowsStay (λ layer parts is. whole layer (subst LayerRowsStay is (layer_rows_stay parts)))
  where
    whole : (layer : Formula-F Formula) → LayerRowsStay layer → RowsStay (roll-Formula layer)
    whole layer stay =
        ap (λ (cut : Cut). cut.rows) (fold-roll-Formula Cut cut_layer layer) ∙ stay ∙ sym (fold-roll-Formula (List Linear) rows_layer layer)

-- ---- a formula of parts without a row

cut_roll : (layer : Formula-F Formula) (row : ℕ) → without_row row (roll-Formula layer) ≡ (cut_layer (map-Formula _ Cut cut_of layer)).without row
cut_roll layer row = ap (λ (cut : Cut). cut.without row) (fold-roll-Formula Cut cut_layer layer)

pub without_in_row : (form : Linear) (row : ℕ) → without_row row (formulas.Row form) ≡ cond (row == 1) never (formulas.Row form)
without_in_row form row = ap (without_row row) (sym (formulas.rolls-Row form)) ∙ cut_roll (Row form) row

pub without_in_flag : (place : ℕ) (is : Bool) (row : ℕ) → without_row row (formulas.Flag place is) ≡ formulas.Flag place is
without_in_flag place is row = ap (without_row row) (sym (formulas.rolls-Flag place is)) ∙ cut_roll (Flag place is) row

pub without_in_all : (parts : List Formula) (row : ℕ) → without_row row (formulas.All parts) ≡ every_of (parts_without row (map cut_of parts))
without_in_all parts row = ap (without_row row) (sym (formulas.rolls-All parts)) ∙ cut_roll (Every parts) row

pub without_in_any : (parts : List Formula) (row : ℕ) → without_row row (formulas.Any parts) ≡ some_of (parts_without row (map cut_of parts))
without_in_any parts row = ap (without_row row) (sym (formulas.rolls-Any parts)) ∙ cut_roll (Some_of parts) row

-- ---- parts without a row, one after the other

pub cut_next : (parts : List Formula) (index left row after : ℕ) (part cut : Formula) (old new : List Formula)
    → index < length parts → part ≡ get_or parts index part → cut ≡ without_row left part → after ≡ left - length (rows_of part) → new ≡ old ++ cut ∷ []
    → old ++ parts_without left (map cut_of (drop index parts)) ≡ parts_without row (map cut_of parts)
    → new ++ parts_without after (map cut_of (drop (index + 1) parts)) ≡ parts_without row (map cut_of parts)
cut_next parts index left row after part cut old new low is cut_is after_is made so_far =
    (λ i. made i ++ parts_without (after_same i) (map cut_of (drop (index + 1) parts)))
    ∙ append_assoc old (cut ∷ []) (parts_without (left - length (cut_of part).rows) (map cut_of (drop (index + 1) parts)))
    ∙ ap (λ (one : Formula). old ++ one ∷ parts_without (left - length (cut_of part).rows) (map cut_of (drop (index + 1) parts))) cut_is
    ∙ ap (λ (one : Formula). old ++ parts_without left (cut_of one ∷ map cut_of (drop (index + 1) parts))) is
    ∙ ap (λ (rest : List Formula). old ++ rest) (sym (at_drop_more (λ (some : List Formula). parts_without left (map cut_of some)) parts index part low))
    ∙ so_far
  where
    after_same : after ≡ left - length (cut_of part).rows
    after_same = after_is ∙ ap (λ (rows : List Linear). left - length rows) (sym (cut_rows part))

-- ---- what is so of each part of a formula

-- a test that a formula of parts passes where each part does
record Spreads (test : Formula → Bool) : Type 0 where
  of_never : test never ≡ true
  of_all : (parts : List Formula) → test (formulas.All parts) ≡ list_all (λ part. part) (map test parts)
  of_any : (parts : List Formula) → test (formulas.Any parts) ≡ list_all (λ part. part) (map test parts)

some_pass : (test lets : Formula → Bool) (parts : List Formula)
    → list_all (λ part. part) (map test parts) ≡ true → list_all (λ part. part) (map test (filter lets parts)) ≡ true
some_pass test lets [] all = refl
some_pass test lets (part ∷ parts) all =
    let both = and_parts (test part) (list_all (λ part. part) (map test parts)) all in by_test (lets part) both.0 (some_pass test lets parts both.1)
  where
    by_test : (answer : Bool) → test part ≡ true → list_all (λ part. part) (map test (filter lets parts)) ≡ true
        → list_all (λ part. part) (map test (cond answer (part ∷ filter lets parts) (filter lets parts))) ≡ true
    by_test true here rest = ap (λ (one : Bool). one && list_all (λ part. part) (map test (filter lets parts))) here ∙ rest
    by_test false here rest = rest

every_passes : (test : Formula → Bool) → Spreads test → (parts : List Formula)
    → list_all (λ part. part) (map test parts) ≡ true → test (every_of parts) ≡ true
every_passes test spreads parts all = by_test (list_any is_never parts)
  where
    by_test : (answer : Bool) → test (cond answer never (formulas.All parts)) ≡ true
    by_test true = spreads.of_never
    by_test false = spreads.of_all parts ∙ all

some_passes : (test : Formula → Bool) → Spreads test → (parts : List Formula)
    → list_all (λ part. part) (map test parts) ≡ true → test (some_of parts) ≡ true
some_passes test spreads parts all =
    spreads.of_any (filter (λ part. not (is_never part)) parts) ∙ some_pass test (λ part. not (is_never part)) parts all

abbrev Passes : (Formula → Bool) → Formula → Type 0
Passes test formula = test formula ≡ true → (row : ℕ) → test (without_row row formula) ≡ true

parts_pass : (test : Formula → Bool) (parts : List ((formula : Formula) × Passes test formula)) (row : ℕ)
    → list_all (λ part. part) (map test (map (λ part. part.0) parts)) ≡ true
    → list_all (λ part. part) (map test (parts_without row (map cut_of (map (λ part. part.0) parts)))) ≡ true
parts_pass test [] row all = refl
parts_pass test (part ∷ parts) row all =
    let both = and_parts (test part.0) (list_all (λ part. part) (map test (map (λ part. part.0) parts))) all in
    and_from (test (without_row row part.0)) (list_all (λ part. part) (map test (parts_without (row - length (cut_of part.0).rows) (map cut_of (map (λ part. part.0) parts)))))
    (part.1 both.0 row) (parts_pass test parts (row - length (cut_of part.0).rows) both.1)

abbrev LayerPasses : (Formula → Bool) → Formula-F Formula → Type 0
LayerPasses test layer = test (roll-Formula layer) ≡ true → (row : ℕ) → test ((cut_layer (map-Formula _ Cut cut_of layer)).without row) ≡ true

layer_passes : (test : Formula → Bool) → Spreads test → (layer : Formula-F ((formula : Formula) × Passes test formula))
    → LayerPasses test (map-Formula _ Formula (λ part. part.0) layer)
layer_passes test spreads (Row form) passes row = by_test (row == 1)
  where
    by_test : (answer : Bool) → test (cond answer never (formulas.Row form)) ≡ true
    by_test true = spreads.of_never
    by_test false = ap test (sym (formulas.rolls-Row form)) ∙ passes
layer_passes test spreads (Flag place is) passes row = ap test (sym (formulas.rolls-Flag place is)) ∙ passes
layer_passes test spreads (Every parts) passes row =
    every_passes test spreads (parts_without row (map cut_of (map (λ part. part.0) parts)))
    (parts_pass test parts row (sym (spreads.of_all (map (λ part. part.0) parts)) ∙ ap test (sym (formulas.rolls-All (map (λ part. part.0) parts))) ∙ passes))
layer_passes test spreads (Some_of parts) passes row =
    some_passes test spreads (parts_without row (map cut_of (map (λ part. part.0) parts)))
    (parts_pass test parts row (sym (spreads.of_any (map (λ part. part.0) parts)) ∙ ap test (sym (formulas.rolls-Any (map (λ part. part.0) parts))) ∙ passes))

without_passes : (test : Formula → Bool) → Spreads test → (formula : Formula) → Passes test formula
without_passes test spreads = ind-Formula (Passes test) (λ layer parts is. whole layer (subst (LayerPasses test) is (layer_passes test spreads parts)))
  where
    whole : (layer : Formula-F Formula) → LayerPasses test layer → Passes test (roll-Formula layer)
    whole layer passes holds row = ap test (cut_roll layer row) ∙ passes holds row

-- ---- it can be negated

pub any_negates : (parts : List Formula) → can_negate (formulas.Any parts) ≡ list_all (λ part. part) (map can_negate parts)
any_negates parts = ap can_negate (sym (formulas.rolls-Any parts)) ∙ fold-roll-Formula Bool can_negate_layer (Some_of parts)

pub all_negates : (parts : List Formula) → can_negate (formulas.All parts) ≡ list_all (λ part. part) (map can_negate parts)
all_negates parts = ap can_negate (sym (formulas.rolls-All parts)) ∙ fold-roll-Formula Bool can_negate_layer (Every parts)

twice : (parts : List Formula) → map can_negate (map negation parts) ≡ map (λ (part : Formula). can_negate (negation part)) parts
twice [] = refl
twice (part ∷ parts) = ap (λ (all : List Bool). can_negate (negation part) ∷ all) (twice parts)

any_negates_twice : (parts : List Formula)
    → can_negate (negation (formulas.Any parts)) ≡ list_all (λ part. part) (map (λ (part : Formula). can_negate (negation part)) parts)
any_negates_twice parts =
    ap can_negate (ap negation (sym (formulas.rolls-Any parts)) ∙ fold-roll-Formula Formula layer_negation (Some_of parts))
    ∙ fold-roll-Formula Bool can_negate_layer (Every (map negation parts)) ∙ ap (list_all (λ part. part)) (twice parts)

all_negates_twice : (parts : List Formula)
    → can_negate (negation (formulas.All parts)) ≡ list_all (λ part. part) (map (λ (part : Formula). can_negate (negation part)) parts)
all_negates_twice parts =
    ap can_negate (ap negation (sym (formulas.rolls-All parts)) ∙ fold-roll-Formula Formula layer_negation (Every parts))
    ∙ fold-roll-Formula Bool can_negate_layer (Some_of (map negation parts)) ∙ ap (list_all (λ part. part)) (twice parts)

pub free_negates : (guard : Formula) (row : ℕ) → can_negate guard ≡ true → can_negate (without_row row guard) ≡ true
free_negates guard row can =
    without_passes can_negate (record { of_never = any_negates []; of_all = all_negates; of_any = any_negates }) guard can row

pub free_negates_twice : (guard : Formula) (row : ℕ) → can_negate (negation guard) ≡ true → can_negate (negation (without_row row guard)) ≡ true
free_negates_twice guard row can =
    without_passes (λ part. can_negate (negation part)) (record { of_never = any_negates_twice []; of_all = all_negates_twice; of_any = any_negates_twice }) guard can row

-- ---- it reads no more

none_reads : (parts : List Formula) → not (list_any (λ part. part) (map reads_inputs parts)) ≡ list_all (λ part. part) (map (λ (part : Formula). not (reads_inputs part)) parts)
none_reads [] = refl
none_reads (part ∷ parts) = by (reads_inputs part) (list_any (λ part. part) (map reads_inputs parts)) ∙ ap (λ (rest : Bool). not (reads_inputs part) && rest) (none_reads parts)
  where
    by : (a b : Bool) → not (a || b) ≡ (not a && not b)
    by true b = refl
    by false b = refl

all_read : (parts : List Formula) → not (reads_inputs (formulas.All parts)) ≡ list_all (λ part. part) (map (λ (part : Formula). not (reads_inputs part)) parts)
all_read parts = ap not (ap reads_inputs (sym (formulas.rolls-All parts)) ∙ fold-roll-Formula Bool reads_step (Every parts)) ∙ none_reads parts

any_read : (parts : List Formula) → not (reads_inputs (formulas.Any parts)) ≡ list_all (λ part. part) (map (λ (part : Formula). not (reads_inputs part)) parts)
any_read parts = ap not (ap reads_inputs (sym (formulas.rolls-Any parts)) ∙ fold-roll-Formula Bool reads_step (Some_of parts)) ∙ none_reads parts

pub free_reads : (guard : Formula) (row : ℕ) → reads_inputs guard ≡ false → reads_inputs (without_row row guard) ≡ false
free_reads guard row reads =
    from_not (reads_inputs (without_row row guard))
    (without_passes (λ part. not (reads_inputs part)) (record { of_never = any_read []; of_all = all_read; of_any = any_read }) guard (ap not reads) row)
  where
    from_not : (b : Bool) → not b ≡ true → b ≡ false
    from_not false is = refl
    from_not true is = absurd cc
