-- The rows of a guard that fits its places and reads no inputs, and the search of one.
use Rattle.std.proofs.Common.{◌≡◌, ℕ, zero, suc, ◌+◌, ◌-◌, ◌^◌, ◌<◌, ◌≤◌, Bool, true, false, ◌||◌, List, [], ◌∷◌, ◌++◌, map, length, drop, get_or, Option, Some, None, sym, ap, subst, refl, ◌∙◌, arith}
use Rattle.std.specs.Prelude.{All, slice_get, unwrap_or, IfOk, Result, Ok, Err}
use Rattle.std.specs.declared.alloc.AllocError.{AllocError}
use Rattle.std.specs.List.{list_all, list_any, flat_map}
use Rattle.std.proofs.lemmas.Bool.{and_parts}
use Rattle.std.proofs.lemmas.Option.{get_or_from_slice_get, unwrap_or-slice_get}
use Rattle.std.proofs.lemmas.List.{at_drop_more, length-append}
use Rattle.std.proofs.lemmas.List.Elements.{All-nil, All-cons, All-head, All-tail, All-append}
use Rattle.lang_base.specs.Numbers.{is_within}
use Rattle.lang_base.specs.declared.kind.Kind.TheVariants as kinds
use Rattle.logic_linear.specs.declared.form.Term.{Term}
use Rattle.logic_linear.specs.declared.formula.Formula.{Formula}
use Rattle.logic_linear.specs.declared.formula.Formula.TheVariants as formulas
use Rattle.logic_linear.specs.declared.formula.Formula.TheOpen.{Formula-F, Row, Flag, All as Every, Any as Some_of}
use Rattle.logic_linear.specs.declared.formula.Formula.TheViews.{roll-Formula}
use Rattle.logic_linear.specs.declared.formula.Formula.TheFolds.{ind-Formula, map-Formula, fold-roll-Formula}
use Rattle.logic_linear.specs.Linear.{Linear}
use Rattle.logic_linear.specs.Places.{rows_of, rows_layer}
use Rattle.lang_monitor.specs.MonitorParts.{Places, fits_term, fits_formula, fits_formula_step, is_kind, kind_at}
use Rattle.lang_monitor.specs.Inputs.{reads_term, reads_step, reads_inputs}
use Rattle.machine_events.specs.Counts.{zero_form, row_measure}
use Rattle.plan_count.specs.inner.Rows.{rows_of_parts, IsFieldTerm, IsCountable}

neither : (a b : Bool) → (a || b) ≡ false → (a ≡ false) × (b ≡ false)
neither false b h = (refl, h)
neither true b h = absurd cc

-- ---- each row is small, and of fields

field_terms : (places : Places) (terms : List Term) → list_all (fits_term places) terms ≡ true
    → list_any reads_term terms ≡ false → All IsFieldTerm terms
field_terms places [] fits reads = All-nil IsFieldTerm
field_terms places (term ∷ terms) fits reads =
    let both = and_parts (fits_term places term) (list_all (fits_term places) terms) fits in
    let own = and_parts (is_kind kinds.Int (kind_at places term.place)) (is_within (2 ^ 31) term.times) both.0 in
    let none = neither (reads_term term) (list_any reads_term terms) reads in
    All-cons IsFieldTerm term terms (record { field = none.0; small = own.1 }) (field_terms places terms both.1 none.1)

abbrev RowsAre : Places → Formula → Type 0
RowsAre places formula = fits_formula places formula ≡ true → reads_inputs formula ≡ false → All IsCountable (rows_of formula)

each_of_parts : (places : Places) (parts : List ((formula : Formula) × RowsAre places formula))
    → list_all (λ part. part) (map (fits_formula places) (map (λ part. part.0) parts)) ≡ true
    → list_any (λ part. part) (map reads_inputs (map (λ part. part.0) parts)) ≡ false
    → All IsCountable (flat_map (λ rows. rows) (map rows_of (map (λ part. part.0) parts)))
each_of_parts places [] fits reads = All-nil IsCountable
each_of_parts places (part ∷ parts) fits reads =
    let both = and_parts (fits_formula places part.0) (list_all (λ part. part) (map (fits_formula places) (map (λ part. part.0) parts))) fits in
    let none = neither (reads_inputs part.0) (list_any (λ part. part) (map reads_inputs (map (λ part. part.0) parts))) reads in
    All-append IsCountable (rows_of part.0) (flat_map (λ rows. rows) (map rows_of (map (λ part. part.0) parts))) (part.1 both.0 none.0) (each_of_parts places parts both.1 none.1)

abbrev LayerRows : Places → Formula-F Formula → Type 0
LayerRows places layer = fits_formula_step places (map-Formula _ Bool (fits_formula places) layer) ≡ true
    → reads_step (map-Formula _ Bool reads_inputs layer) ≡ false
    → All IsCountable (rows_layer (map-Formula _ (List Linear) rows_of layer))

layer_rows : (places : Places) (layer : Formula-F ((formula : Formula) × RowsAre places formula))
    → LayerRows places (map-Formula _ Formula (λ part. part.0) layer)
layer_rows places (Row form) fits reads =
    let both = and_parts (list_all (fits_term places) form.terms) (is_within (2 ^ 64) form.constant) fits in
    All-cons IsCountable form [] (record { terms = field_terms places form.terms both.0 reads; constant = both.1 }) (All-nil IsCountable)
layer_rows places (Flag place is) fits reads = All-nil IsCountable
layer_rows places (Every parts) fits reads = each_of_parts places parts fits reads
layer_rows places (Some_of parts) fits reads = each_of_parts places parts fits reads

pub rows_are : (places : Places) (guard : Formula) → RowsAre places guard
rows_are places = ind-Formula (RowsAre places) (λ layer parts is. whole layer (subst (LayerRows places) is (layer_rows places parts)))
  where
    whole : (layer : Formula-F Formula) → LayerRows places layer → RowsAre places (roll-Formula layer)
    whole layer rows fits reads =
        subst (All IsCountable) (sym (fold-roll-Formula (List Linear) rows_layer layer))
        (rows (sym (fold-roll-Formula Bool (fits_formula_step places) layer) ∙ fits) (sym (fold-roll-Formula Bool reads_step layer) ∙ reads))

zero_is : IsCountable zero_form
zero_is = record { terms = All-nil IsFieldTerm; constant = refl }

row_is : (rows : List Linear) → All IsCountable rows → (index : ℕ)
    → IsCountable (get_or rows index zero_form)
row_is [] all index = zero_is
row_is (row ∷ rows) all zero = All-head IsCountable row rows all
row_is (row ∷ rows) all (suc index) = row_is rows (All-tail IsCountable row rows all) index

-- ---- the form of the measure

pub form_countable : (places : Places) (guard : Formula) (row : ℕ) → fits_formula places guard ≡ true
    → reads_inputs guard ≡ false → IsCountable (row_measure guard row).form
form_countable places guard row fits reads =
    row_is (rows_of guard) (rows_are places guard fits reads) (row - 1)

pub form_found : (rows : List Linear) (index : ℕ) (found : Option Linear) (form : Linear)
    → found ≡ slice_get rows index → found ≡ Some form → form ≡ get_or rows index zero_form
form_found rows index found form is some = sym (get_or_from_slice_get rows index form zero_form (sym is ∙ some))

pub form_missing : (rows : List Linear) (index : ℕ) (found : Option Linear)
    → found ≡ slice_get rows index → found ≡ None → zero_form ≡ get_or rows index zero_form
form_missing rows index found is none =
    ap (λ (held : Option Linear). unwrap_or held zero_form) (sym (sym is ∙ none)) ∙ unwrap_or-slice_get rows index zero_form

terms_read : (terms : List Term) → All IsFieldTerm terms → list_any reads_term terms ≡ false
terms_read [] fields = refl
terms_read (term ∷ terms) fields =
    ap (λ (one : Bool). one || list_any reads_term terms) (All-head IsFieldTerm term terms fields).field ∙ terms_read terms (All-tail IsFieldTerm term terms fields)

pub form_reads : (places : Places) (guard : Formula) (row : ℕ) → fits_formula places guard ≡ true
    → reads_inputs guard ≡ false → list_any reads_term (row_measure guard row).form.terms ≡ false
form_reads places guard row fits reads =
    terms_read (row_measure guard row).form.terms (form_countable places guard row fits reads).terms

-- ---- the rows of parts

pub rows_of_all : (parts : List Formula) → rows_of (formulas.All parts) ≡ rows_of_parts parts
rows_of_all parts = ap rows_of (sym (formulas.rolls-All parts)) ∙ fold-roll-Formula (List Linear) rows_layer (Every parts)

pub rows_of_any : (parts : List Formula) → rows_of (formulas.Any parts) ≡ rows_of_parts parts
rows_of_any parts = ap rows_of (sym (formulas.rolls-Any parts)) ∙ fold-roll-Formula (List Linear) rows_layer (Some_of parts)

pub rows_of_row : (form : Linear) → rows_of (formulas.Row form) ≡ form ∷ []
rows_of_row form = ap rows_of (sym (formulas.rolls-Row form)) ∙ fold-roll-Formula (List Linear) rows_layer (Row form)

pub rows_of_flag : (place : ℕ) (is : Bool) → rows_of (formulas.Flag place is) ≡ []
rows_of_flag place is = ap rows_of (sym (formulas.rolls-Flag place is)) ∙ fold-roll-Formula (List Linear) rows_layer (Flag place is)

-- ---- a row of parts, by its number among the rows of all

length_both : (xs ys : List Linear) → length (xs ++ ys) ≡ length xs + length ys
length_both xs ys = length-append xs ys

pub left_after : (rows more : List Linear) (left : ℕ) → left - length (rows ++ more) ≡ (left - length rows) - length more
left_after rows more left = by (length (rows ++ more)) (length rows) (length more) (length_both rows more)
  where
    by : (all a b : ℕ) → all ≡ a + b → left - all ≡ (left - a) - b
    by all a b is = omega (arith, is)

in_first : (rows more : List Linear) (index : ℕ) → index < length rows → slice_get (rows ++ more) index ≡ slice_get rows index
in_first [] more index low = absurd (omega (arith, low))
in_first (row ∷ rows) more zero low = refl
in_first (row ∷ rows) more (suc index) low = in_first rows more index (omega (arith, low))

in_more : (rows more : List Linear) (place index : ℕ) → place ≡ length rows + index → slice_get (rows ++ more) place ≡ slice_get more index
in_more [] more place index is = ap (slice_get more) (omega (arith, is))
in_more (row ∷ rows) more zero index is = absurd (omega (arith, is))
in_more (row ∷ rows) more (suc place) index is = in_more rows more place index (omega (arith, is))

-- where it is the last or an earlier one of the first part, it is a row of that
found_here : (rows more : List Linear) (left : ℕ) → 1 ≤ left → left - length rows ≡ 0
    → slice_get rows (left - 1) ≡ slice_get (rows ++ more) (left - 1)
found_here rows more left first none = sym (in_first rows more (left - 1) (omega (arith, first, none)))

-- else one of the others
found_there : (rows more : List Linear) (left after : ℕ) → after ≡ left - length rows → 1 ≤ after
    → slice_get more (after - 1) ≡ slice_get (rows ++ more) (left - 1)
found_there rows more left after is some = sym (in_more rows more (left - 1) (after - 1) (omega (arith, is, some)))

-- the rows of the parts that are left
dropped : (parts : List Formula) (index : ℕ) (part : Formula) → index < length parts → part ≡ get_or parts index part
    → rows_of_parts (drop index parts) ≡ rows_of part ++ rows_of_parts (drop (index + 1) parts)
dropped parts index part low is =
    at_drop_more rows_of_parts parts index part low ∙ ap (λ (one : Formula). rows_of one ++ rows_of_parts (drop (index + 1) parts)) (sym is)

-- the row is one of a part
pub row_here : (parts : List Formula) (index left row after : ℕ) (part : Formula) (answer : Result (Option Linear) AllocError)
    → index < length parts → part ≡ get_or parts index part → 1 ≤ left → after ≡ left - length (rows_of part) → after ≡ 0
    → slice_get (rows_of_parts (drop index parts)) (left - 1) ≡ slice_get (rows_of_parts parts) (row - 1)
    → IfOk answer (λ found. found ≡ slice_get (rows_of part) (left - 1)) → IfOk answer (λ found. found ≡ slice_get (rows_of_parts parts) (row - 1))
row_here parts index left row after part answer low is first after_is none stands told = by_answer answer told
  where
    here : slice_get (rows_of part) (left - 1) ≡ slice_get (rows_of_parts parts) (row - 1)
    here =
        found_here (rows_of part) (rows_of_parts (drop (index + 1) parts)) left first (sym after_is ∙ none)
        ∙ ap (λ (rows : List Linear). slice_get rows (left - 1)) (sym (dropped parts index part low is)) ∙ stands

    by_answer : (answer : Result (Option Linear) AllocError) → IfOk answer (λ found. found ≡ slice_get (rows_of part) (left - 1))
        → IfOk answer (λ found. found ≡ slice_get (rows_of_parts parts) (row - 1))
    by_answer (Ok found) told = told ∙ here
    by_answer (Err error) told = tt

-- it is one of the parts after this
pub row_later : (parts : List Formula) (index left row after : ℕ) (part : Formula)
    → index < length parts → part ≡ get_or parts index part → after ≡ left - length (rows_of part) → 1 ≤ after
    → slice_get (rows_of_parts (drop index parts)) (left - 1) ≡ slice_get (rows_of_parts parts) (row - 1)
    → slice_get (rows_of_parts (drop (index + 1) parts)) (after - 1) ≡ slice_get (rows_of_parts parts) (row - 1)
row_later parts index left row after part low is after_is some stands =
    found_there (rows_of part) (rows_of_parts (drop (index + 1) parts)) left after after_is some
    ∙ ap (λ (rows : List Linear). slice_get rows (left - 1)) (sym (dropped parts index part low is)) ∙ stands

pub some_left : (number : ℕ) → (number ≡ 0 → ⊥) → 1 ≤ number
some_left zero some = absurd (some refl)
some_left (suc number) some = omega arith
