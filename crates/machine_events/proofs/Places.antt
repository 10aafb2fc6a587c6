-- Which places formulas read, and formulas at the inputs of a client that waits.
use Rattle.std.proofs.Common.{◌≡◌, ℕ, ◌<◌, Bool, true, false, cond, not, ◌&&◌, ◌||◌, ℤ, pos, ◌+ℤ◌, ◌*ℤ◌, List, [], ◌∷◌, map, refl, sym, ap, ap₂, subst, ◌∙◌}
use Rattle.std.specs.Prelude.{int_le, nat_le}
use Rattle.std.specs.List.{list_all, list_any}
use Rattle.std.proofs.lemmas.Bool.{leb-false, lt-leb, or_parts, or_from}
use Rattle.logic_linear.specs.declared.form.Term.{Term}
use Rattle.logic_linear.specs.Linear.{Linear}
use Rattle.logic_linear.specs.declared.formula.Formula.{Formula}
use Rattle.logic_linear.specs.declared.formula.Formula.TheVariants as formulas
use Rattle.logic_linear.specs.declared.formula.Formula.TheOpen as rows
use Rattle.logic_linear.specs.declared.formula.Formula.TheOpen.{Formula-F, Row, Flag, All as Every, Any as Some_of}
use Rattle.logic_linear.specs.declared.formula.Formula.TheViews.{roll-Formula}
use Rattle.logic_linear.specs.declared.formula.Formula.TheFolds.{fold-Formula, ind-Formula, map-Formula, fold-roll-Formula}
use Rattle.logic_linear.specs.Truth.{Valuation, layer_truth, sum_of, truth_of, value_of}
use Rattle.lang_base.specs.declared.kind.Kind.TheVariants as kinds
use Rattle.lang_base.specs.Numbers.{is_within}
use Rattle.lang_monitor.specs.MonitorParts.{Places, kind_at, is_kind, fits_term, fits_formula_step, fits_formula}
use Rattle.machine_implicit.proofs.Sums.{AreFewPlaces, both_true, place_small}
use Rattle.lang_monitor.specs.Queries.{waiting_place, waiting_term, waiting_layer, waiting_step, for_waiting}

-- ---- formulas read no place from one on

abbrev pub reads_term_from : ℕ → Term → Bool
reads_term_from low term = nat_le low term.place

abbrev pub reads_step_from : ℕ → Formula-F Bool → Bool
reads_step_from low (Row form) = list_any (reads_term_from low) form.terms
reads_step_from low (Flag place is) = nat_le low place
reads_step_from low (Every parts) = list_any (λ part. part) parts
reads_step_from low (Some_of parts) = list_any (λ part. part) parts

abbrev pub reads_from : ℕ → Formula → Bool
reads_from low = fold-Formula Bool (reads_step_from low)

-- two valuations are the same at the places below one
pub record Agree (low : ℕ) (v w : Valuation) : Type 0 where
  pub number : (place : ℕ) → place < low → v.number place ≡ w.number place
  pub flag : (place : ℕ) → place < low → v.flag place ≡ w.flag place

pub sum_agrees : (low : ℕ) (v w : Valuation) (terms : List Term) → Agree low v w
    → list_any (reads_term_from low) terms ≡ false → sum_of v terms ≡ sum_of w terms
sum_agrees low v w [] agree none = refl
sum_agrees low v w (term ∷ terms) agree none =
    let both = or_parts (reads_term_from low term) (list_any (reads_term_from low) terms) none in
    ap₂ (λ (one more : ℤ). term.times *ℤ one +ℤ more) (agree.number term.place (leb-false low term.place both.0)) (sum_agrees low v w terms agree both.1)

abbrev Agrees : ℕ → Valuation → Valuation → Formula → Type 0
Agrees low v w formula = reads_from low formula ≡ false → truth_of v formula ≡ truth_of w formula

abbrev LayerAgrees : ℕ → Valuation → Valuation → Formula-F Formula → Type 0
LayerAgrees low v w layer =
    reads_step_from low (map-Formula _ Bool (reads_from low) layer) ≡ false
    → layer_truth v (map-Formula _ Bool (truth_of v) layer)
    ≡ layer_truth w (map-Formula _ Bool (truth_of w) layer)

all_agree : (low : ℕ) (v w : Valuation) (parts : List ((formula : Formula)
    × Agrees low v w formula))
    → list_any (λ part. part) (map (reads_from low) (map (λ part. part.0) parts)) ≡ false
    → list_all (λ part. part) (map (truth_of v) (map (λ part. part.0) parts))
    ≡ list_all (λ part. part) (map (truth_of w) (map (λ part. part.0) parts))
all_agree low v w [] none = refl
all_agree low v w (part ∷ parts) none =
    let both = or_parts (reads_from low part.0) (list_any (λ part. part) (map (reads_from low) (map (λ part. part.0) parts))) none in
    ap₂ (λ (one more : Bool). one && more) (part.1 both.0) (all_agree low v w parts both.1)

any_agree : (low : ℕ) (v w : Valuation) (parts : List ((formula : Formula)
    × Agrees low v w formula))
    → list_any (λ part. part) (map (reads_from low) (map (λ part. part.0) parts)) ≡ false
    → list_any (λ part. part) (map (truth_of v) (map (λ part. part.0) parts))
    ≡ list_any (λ part. part) (map (truth_of w) (map (λ part. part.0) parts))
any_agree low v w [] none = refl
any_agree low v w (part ∷ parts) none =
    let both = or_parts (reads_from low part.0) (list_any (λ part. part) (map (reads_from low) (map (λ part. part.0) parts))) none in
    ap₂ (λ (one more : Bool). one || more) (part.1 both.0) (any_agree low v w parts both.1)

layer_agrees : (low : ℕ) (v w : Valuation) → Agree low v w
    → (layer : Formula-F ((formula : Formula) × Agrees low v w formula))
    → LayerAgrees low v w (map-Formula _ Formula (λ part. part.0) layer)
layer_agrees low v w agree (Row form) none = ap (λ (sum : ℤ). int_le (sum +ℤ form.constant) (pos 0)) (sum_agrees low v w form.terms agree none)
layer_agrees low v w agree (Flag place is) none = ap (λ (flag : Bool). cond is flag (not flag)) (agree.flag place (leb-false low place none))
layer_agrees low v w agree (Every parts) none = all_agree low v w parts none
layer_agrees low v w agree (Some_of parts) none = any_agree low v w parts none

formula_agrees : (low : ℕ) (v w : Valuation) (layer : Formula-F Formula) → LayerAgrees low v w layer
    → Agrees low v w (roll-Formula layer)
formula_agrees low v w layer agrees none =
    fold-roll-Formula Bool (layer_truth v) layer
    ∙ agrees (sym (fold-roll-Formula Bool (reads_step_from low) layer) ∙ none)
    ∙ sym (fold-roll-Formula Bool (layer_truth w) layer)

-- a formula that reads no other places is as true at the one as at the other
pub agree_on : (low : ℕ) (v w : Valuation) → Agree low v w → (formula : Formula)
    → reads_from low formula ≡ false → truth_of v formula ≡ truth_of w formula
agree_on low v w agree = ind-Formula (Agrees low v w) (λ layer parts is. formula_agrees low v w layer (subst (LayerAgrees low v w) is (layer_agrees low v w agree parts)))

-- ---- a formula that fits reads no place from 26 on

term_low : (kind_is : (place : ℕ) → place < 26
    → nat_le 26 place ≡ false) (places : Places) (terms : List Term) → AreFewPlaces places
    → list_all (fits_term places) terms ≡ true → list_any (reads_term_from 26) terms ≡ false
term_low small places [] few fits = refl
term_low small places (term ∷ terms) few fits =
    let parts = both_true (fits_term places term) (list_all (fits_term places) terms) fits in
    let own = both_true (is_kind kinds.Int (kind_at places term.place)) (is_within 2147483648 term.times) parts.0 in
    or_from (reads_term_from 26 term) (list_any (reads_term_from 26) terms) (small term.place (place_small kinds.Int places term.place few own.0)) (term_low small places terms few parts.1)

abbrev IsLow : Places → Formula → Type 0
IsLow places formula = fits_formula places formula ≡ true → reads_from 26 formula ≡ false

abbrev LayerIsLow : Places → Formula-F Formula → Type 0
LayerIsLow places layer = fits_formula_step places (map-Formula _ Bool (fits_formula places) layer) ≡ true → reads_step_from 26 (map-Formula _ Bool (reads_from 26) layer) ≡ false

parts_low : (places : Places) (parts : List ((formula : Formula) × IsLow places formula))
    → list_all (λ part. part) (map (fits_formula places) (map (λ part. part.0) parts)) ≡ true
    → list_any (λ part. part) (map (reads_from 26) (map (λ part. part.0) parts)) ≡ false
parts_low places [] fits = refl
parts_low places (part ∷ parts) fits =
    let both = both_true (fits_formula places part.0) (list_all (λ part. part) (map (fits_formula places) (map (λ part. part.0) parts))) fits in
    or_from (reads_from 26 part.0) (list_any (λ part. part) (map (reads_from 26) (map (λ part. part.0) parts))) (part.1 both.0) (parts_low places parts both.1)

small_place : (place : ℕ) → place < 26 → nat_le 26 place ≡ false
small_place place below = lt-leb 26 place below

layer_low : (places : Places) → AreFewPlaces places
    → (layer : Formula-F ((formula : Formula) × IsLow places formula))
    → LayerIsLow places (map-Formula _ Formula (λ part. part.0) layer)
layer_low places few (Row form) fits =
    let parts = both_true (list_all (fits_term places) form.terms) (is_within 18446744073709551616 form.constant) fits in
    term_low small_place places form.terms few parts.0
layer_low places few (Flag place is) fits = small_place place (place_small kinds.Bool places place few fits)
layer_low places few (Every parts) fits = parts_low places parts fits
layer_low places few (Some_of parts) fits = parts_low places parts fits

formula_low : (places : Places) (layer : Formula-F Formula) → LayerIsLow places layer
    → IsLow places (roll-Formula layer)
formula_low places layer low fits =
    fold-roll-Formula Bool (reads_step_from 26) layer ∙ low (sym (fold-roll-Formula Bool (fits_formula_step places) layer) ∙ fits)

pub fitting_is_low : (places : Places) → AreFewPlaces places → (formula : Formula)
    → fits_formula places formula ≡ true → reads_from 26 formula ≡ false
fitting_is_low places few = ind-Formula (IsLow places) (λ layer parts is. formula_low places layer (subst (LayerIsLow places) is (layer_low places few parts)))

-- ---- at the inputs of a client that waits

abbrev pub at_waiting : Valuation → Valuation
at_waiting v = record { number = λ place. v.number (waiting_place place); flag = λ place. v.flag (waiting_place place) }

waiting_sum : (v : Valuation) (terms : List Term)
    → sum_of v (map waiting_term terms) ≡ sum_of (at_waiting v) terms
waiting_sum v [] = refl
waiting_sum v (term ∷ terms) = ap (λ (more : ℤ). term.times *ℤ v.number (waiting_place term.place) +ℤ more) (waiting_sum v terms)

abbrev Moves : Valuation → Formula → Type 0
Moves v formula = truth_of v (for_waiting formula) ≡ truth_of (at_waiting v) formula

abbrev LayerMoves : Valuation → Formula-F Formula → Type 0
LayerMoves v layer =
    layer_truth v (map-Formula _ Bool (truth_of v) (waiting_layer (map-Formula _ Formula for_waiting layer))) ≡ layer_truth (at_waiting v) (map-Formula _ Bool (truth_of (at_waiting v)) layer)

all_move : (v : Valuation) (parts : List ((formula : Formula) × Moves v formula))
    → list_all (λ part. part) (map (truth_of v) (map for_waiting (map (λ part. part.0) parts)))
    ≡ list_all (λ part. part) (map (truth_of (at_waiting v)) (map (λ part. part.0) parts))
all_move v [] = refl
all_move v (part ∷ parts) = ap₂ (λ (one more : Bool). one && more) part.1 (all_move v parts)

any_move : (v : Valuation) (parts : List ((formula : Formula) × Moves v formula))
    → list_any (λ part. part) (map (truth_of v) (map for_waiting (map (λ part. part.0) parts)))
    ≡ list_any (λ part. part) (map (truth_of (at_waiting v)) (map (λ part. part.0) parts))
any_move v [] = refl
any_move v (part ∷ parts) = ap₂ (λ (one more : Bool). one || more) part.1 (any_move v parts)

layer_moves : (v : Valuation) (layer : Formula-F ((formula : Formula) × Moves v formula))
    → LayerMoves v (map-Formula _ Formula (λ part. part.0) layer)
layer_moves v (Row form) = ap (λ (sum : ℤ). int_le (sum +ℤ form.constant) (pos 0)) (waiting_sum v form.terms)
layer_moves v (Flag place is) = refl
layer_moves v (Every parts) = all_move v parts
layer_moves v (Some_of parts) = any_move v parts

formula_moves : (v : Valuation) (layer : Formula-F Formula) → LayerMoves v layer
    → Moves v (roll-Formula layer)
formula_moves v layer moves =
    ap (truth_of v) (fold-roll-Formula Formula waiting_step layer)
    ∙ fold-roll-Formula Bool (layer_truth v) (waiting_layer (map-Formula _ Formula for_waiting layer))
    ∙ moves ∙ sym (fold-roll-Formula Bool (layer_truth (at_waiting v)) layer)

pub moves_to_waiting : (v : Valuation) (formula : Formula)
    → truth_of v (for_waiting formula) ≡ truth_of (at_waiting v) formula
moves_to_waiting v = ind-Formula (Moves v) (λ layer parts is. formula_moves v layer (subst (LayerMoves v) is (layer_moves v parts)))

-- ---- truth at the variants

pub truth_row : (v : Valuation) (linear : Linear)
    → truth_of v (formulas.Row linear) ≡ int_le (value_of v linear) (pos 0)
truth_row v linear = ap (truth_of v) (sym (formulas.rolls-Row linear)) ∙ fold-roll-Formula Bool (layer_truth v) (rows.Row linear)

pub truth_all : (v : Valuation) (parts : List Formula)
    → truth_of v (formulas.All parts) ≡ list_all (λ part. part) (map (truth_of v) parts)
truth_all v parts = ap (truth_of v) (sym (formulas.rolls-All parts)) ∙ fold-roll-Formula Bool (layer_truth v) (rows.All parts)

pub truth_any : (v : Valuation) (parts : List Formula)
    → truth_of v (formulas.Any parts) ≡ list_any (λ part. part) (map (truth_of v) parts)
truth_any v parts = ap (truth_of v) (sym (formulas.rolls-Any parts)) ∙ fold-roll-Formula Bool (layer_truth v) (rows.Any parts)

pub reads_row : (low : ℕ) (linear : Linear)
    → reads_from low (formulas.Row linear) ≡ list_any (reads_term_from low) linear.terms
reads_row low linear = ap (reads_from low) (sym (formulas.rolls-Row linear)) ∙ fold-roll-Formula Bool (reads_step_from low) (rows.Row linear)

pub reads_flag : (low place : ℕ) (is : Bool)
    → reads_from low (formulas.Flag place is) ≡ nat_le low place
reads_flag low place is = ap (reads_from low) (sym (formulas.rolls-Flag place is)) ∙ fold-roll-Formula Bool (reads_step_from low) (rows.Flag place is)
