-- A guard that reads no inputs is the same for a client that waits.
use Rattle.std.proofs.Common.{◌≡◌, ℕ, ◌+◌, Bool, true, false, ◌||◌, List, [], ◌∷◌, map, cond, sym, subst, arith, ap, refl, ◌∙◌}
use Rattle.std.specs.Prelude.{nat_lt, nat_le}
use Rattle.std.specs.List.{list_any}
use Rattle.logic_linear.specs.declared.form.Term.{Term}
use Rattle.logic_linear.specs.declared.formula.Formula.{Formula}
use Rattle.logic_linear.specs.declared.formula.Formula.TheOpen.{Formula-F, Row, Flag, All as Every, Any as Some_of}
use Rattle.logic_linear.specs.declared.formula.Formula.TheViews.{roll-Formula}
use Rattle.logic_linear.specs.declared.formula.Formula.TheFolds.{ind-Formula, map-Formula, fold-roll-Formula}
use Rattle.lang_monitor.specs.Inputs.{reads_term, reads_step, reads_inputs}
use Rattle.lang_monitor.specs.Queries.{waiting_place, waiting_term, waiting_layer, waiting_step, for_waiting}

place_stays : (place : ℕ) → nat_le 16 place ≡ false → waiting_place place ≡ place
place_stays place h = by_test (nat_lt place 16) refl
  where
    by_test : (low : Bool) → nat_lt place 16 ≡ low → cond low place (place + 16) ≡ place
    by_test true is = refl
    by_test false is = absurd (grind arith)

term_stays : (term : Term) → reads_term term ≡ false → waiting_term term ≡ term
term_stays term h = λ i. record { place = place_stays term.place h i; times = term.times }

neither : (a b : Bool) → (a || b) ≡ false → (a ≡ false) × (b ≡ false)
neither false b h = (refl, h)
neither true b h = absurd cc

terms_stay : (terms : List Term) → list_any reads_term terms ≡ false → map waiting_term terms ≡ terms
terms_stay [] h = refl
terms_stay (term ∷ terms) h =
    let both = neither (reads_term term) (list_any reads_term terms) h in rw (term_stays term both.0, terms_stay terms both.1) refl

abbrev Stays : Formula → Type 0
Stays formula = reads_inputs formula ≡ false → for_waiting formula ≡ formula

parts_stay : (parts : List ((formula : Formula) × Stays formula)) → list_any (λ part. part) (map reads_inputs (map (λ part. part.0) parts)) ≡ false
    → map for_waiting (map (λ part. part.0) parts) ≡ map (λ part. part.0) parts
parts_stay [] h = refl
parts_stay (part ∷ parts) h =
    let both = neither (reads_inputs part.0) (list_any (λ part. part) (map reads_inputs (map (λ part. part.0) parts))) h in
    rw (part.1 both.0, parts_stay parts both.1) refl

abbrev LayerStays : Formula-F Formula → Type 0
LayerStays layer = reads_step (map-Formula _ Bool reads_inputs layer) ≡ false → waiting_layer (map-Formula _ Formula for_waiting layer) ≡ layer

layer_stays : (layer : Formula-F ((formula : Formula) × Stays formula)) → LayerStays (map-Formula _ Formula (λ part. part.0) layer)
layer_stays (Row form) h = λ i. Row (record { terms = terms_stay form.terms h i; constant = form.constant })
layer_stays (Flag place is) h = ap (λ at. Flag at is) (place_stays place h)
layer_stays (Every parts) h = ap Every (parts_stay parts h)
layer_stays (Some_of parts) h = ap Some_of (parts_stay parts h)

pub guard_stays : (guard : Formula) → Stays guard
guard_stays = ind-Formula Stays (λ layer parts is. whole layer (subst LayerStays is (layer_stays parts)))
  where
    whole : (layer : Formula-F Formula) → LayerStays layer → Stays (roll-Formula layer)
    whole layer stays h = fold-roll-Formula Formula waiting_step layer ∙ ap roll-Formula (stays (sym (fold-roll-Formula Bool reads_step layer) ∙ h))
