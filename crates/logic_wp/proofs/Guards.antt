-- Guards of a monitor can be moved to the places of a waiting client's inputs, and negated twice.
use Rattle.std.proofs.Common.{◌≡◌, ℕ, zero, suc, ◌+◌, ◌-◌, ◌<◌, ◌≤◌, ◌^◌, ℤ, pos, neg_ℤ, ◌-ℤ◌, Bool, true, false, ◌&&◌, List, [], ◌∷◌, map, length, sym, subst, arith, ap, refl, ◌∙◌}
use Rattle.std.specs.Prelude.{nat_lt, slice_get, cond}
use Rattle.std.specs.List.{list_all}
use Rattle.std.proofs.lemmas.Bool.{and_parts}
use Rattle.std.proofs.lemmas.Int.{ints}
use Rattle.lang_base.specs.declared.kind.Kind.{Kind}
use Rattle.lang_base.specs.declared.kind.Kind.TheVariants as kinds
use Rattle.lang_base.specs.Numbers.{is_within}
use Rattle.logic_linear.specs.declared.form.Term.{Term}
use Rattle.logic_linear.specs.Linear.{Linear}
use Rattle.logic_linear.specs.declared.formula.Formula.{Formula}
use Rattle.logic_linear.specs.declared.formula.Formula.TheOpen.{Formula-F, Row, Flag, All as Every, Any as Some_of}
use Rattle.logic_linear.specs.declared.formula.Formula.TheViews.{roll-Formula}
use Rattle.logic_linear.specs.declared.formula.Formula.TheFolds.{fold-Formula, ind-Formula, map-Formula, fold-roll-Formula}
use Rattle.logic_linear.specs.Negation.{negative_term, opposite, negation, can_negate_number, can_negate_term, can_negate_layer, can_negate}
use Rattle.lang_monitor.specs.MonitorParts.{Places, kind_at, is_kind, fits_term, fits_formula_step, fits_formula}
use Rattle.lang_monitor.specs.Queries.{waiting_term, waiting_layer, for_waiting}
use Rattle.logic_wp.specs.inner.Movable.{is_movable_term, movable_layer, is_movable, has_small_times, small_layer, is_small}

both_hold : (a b : Bool) → a ≡ true → b ≡ true → (a && b) ≡ true
both_hold a b e f = rw (e, f) refl

-- ---- tests by layers

-- the test of a layer reads the parts of an all, and of an any, each by itself
record ReadsEach (test : Formula-F Bool → Bool) : Type 0 where
  every : (parts : List Bool) → test (Every parts) ≡ list_all (λ part. part) parts
  some : (parts : List Bool) → test (Some_of parts) ≡ list_all (λ part. part) parts

-- where the one test passes, the other passes the changed formula: at a row, at a flag, and the
-- parts stay
record Carries (first : Formula-F Bool → Bool) (change : Formula-F Formula → Formula-F Formula) (second : Formula-F Bool → Bool) : Type 0 where
  reads_first : ReadsEach first
  row : (form : Linear) → first (Row form) ≡ true
      → second (map-Formula _ Bool (fold-Formula Bool second) (change (Row form))) ≡ true
  flag : (place : ℕ) (is : Bool) → first (Flag place is) ≡ true
      → second (map-Formula _ Bool (fold-Formula Bool second) (change (Flag place is))) ≡ true
  every : (parts : List Formula) → second
      (map-Formula _ Bool (fold-Formula Bool second) (change (Every parts)))
      ≡ list_all (λ part. part) (map (fold-Formula Bool second) parts)
  some : (parts : List Formula) → second
      (map-Formula _ Bool (fold-Formula Bool second) (change (Some_of parts)))
      ≡ list_all (λ part. part) (map (fold-Formula Bool second) parts)

-- the formula with each layer changed
abbrev changed : (Formula-F Formula → Formula-F Formula) → Formula → Formula
changed change = fold-Formula Formula (λ layer. roll-Formula (change layer))

abbrev Carried : (Formula-F Bool → Bool) → (Formula-F Formula → Formula-F Formula)
    → (Formula-F Bool → Bool) → Formula → Type 0
Carried first change second formula = fold-Formula Bool first formula ≡ true → fold-Formula Bool second (changed change formula) ≡ true

parts_carried : (first second : Formula-F Bool → Bool) (change : Formula-F Formula
    → Formula-F Formula) (parts : List ((formula : Formula) × Carried first change second formula))
    → list_all (λ part. part) (map (fold-Formula Bool first) (map (λ part. part.0) parts)) ≡ true
    → list_all (λ part. part) (map (fold-Formula Bool second)
    (map (changed change) (map (λ part. part.0) parts))) ≡ true
parts_carried first second change [] h = refl
parts_carried first second change (part ∷ parts) h =
    let both = and_parts (fold-Formula Bool first part.0) (list_all (λ part. part) (map (fold-Formula Bool first) (map (λ part. part.0) parts))) h in
    both_hold _ _ (part.1 both.0) (parts_carried first second change parts both.1)

abbrev LayerCarried : (Formula-F Bool → Bool) → (Formula-F Formula → Formula-F Formula)
    → (Formula-F Bool → Bool) → Formula-F Formula → Type 0
LayerCarried first change second layer = first (map-Formula _ Bool (fold-Formula Bool first) layer) ≡ true
    → second (map-Formula _ Bool (fold-Formula Bool second) (change (map-Formula _ Formula (changed change) layer))) ≡ true

layer_carried : (first second : Formula-F Bool → Bool) (change : Formula-F Formula
    → Formula-F Formula) → Carries first change second
    → (layer : Formula-F ((formula : Formula) × Carried first change second formula))
    → LayerCarried first change second (map-Formula _ Formula (λ part. part.0) layer)
layer_carried first second change carries (Row form) h = carries.row form h
layer_carried first second change carries (Flag place is) h = carries.flag place is h
layer_carried first second change carries (Every parts) h = carries.every _ ∙ parts_carried first second change parts (sym (carries.reads_first.every _) ∙ h)
layer_carried first second change carries (Some_of parts) h = carries.some _ ∙ parts_carried first second change parts (sym (carries.reads_first.some _) ∙ h)

carried : (first second : Formula-F Bool → Bool) (change : Formula-F Formula → Formula-F Formula)
    → Carries first change second → (formula : Formula) → Carried first change second formula
carried first second change carries = ind-Formula (Carried first change second) (λ layer parts is. whole layer (subst (LayerCarried first change second) is (layer_carried first second change carries parts)))
  where
    whole : (layer : Formula-F Formula) → LayerCarried first change second layer
        → Carried first change second (roll-Formula layer)
    whole layer goes h =
        ap (fold-Formula Bool second) (fold-roll-Formula Formula (λ layer. roll-Formula (change layer)) layer)
        ∙ fold-roll-Formula Bool second (change (map-Formula _ Formula (changed change) layer))
        ∙ goes (sym (fold-roll-Formula Bool first layer) ∙ h)

-- ---- what each test says of a guard

small_reads : (bound : ℕ) → ReadsEach (small_layer bound)
small_reads bound = record { every = λ parts. refl; some = λ parts. refl }

fits_reads : (places : Places) → ReadsEach (fits_formula_step places)
fits_reads places = record { every = λ parts. refl; some = λ parts. refl }

-- at most 2^31 times is at most 2^64 times
wide : (number : ℤ) → is_within (2 ^ 31) number ≡ true → is_within (2 ^ 64) number ≡ true
wide number h = grind (arith, ints)

moved_terms_small : (places : Places) (terms : List Term) → list_all (fits_term places) terms ≡ true
    → list_all (has_small_times (2 ^ 64)) (map waiting_term terms) ≡ true
moved_terms_small places [] h = refl
moved_terms_small places (term ∷ terms) h =
    let both = and_parts (fits_term places term) (list_all (fits_term places) terms) h in
    let number = (and_parts (is_kind kinds.Int (kind_at places term.place)) (is_within (2 ^ 31) term.times) both.0).1 in
    both_hold _ _ (wide term.times number) (moved_terms_small places terms both.1)

moving_keeps_small : (places : Places) → Carries (fits_formula_step places) waiting_layer
    (small_layer (2 ^ 64))
moving_keeps_small places = record {
  reads_first = fits_reads places;
  row = λ form h.
      let both = and_parts (list_all (fits_term places) form.terms) (is_within (2 ^ 64) form.constant) h in
      both_hold _ _ (moved_terms_small places form.terms both.0) both.1;
  flag = λ place is h. refl;
  every = λ parts. refl;
  some = λ parts. refl;
}

negated_number : (number : ℤ) → is_within (2 ^ 64) number ≡ true
    → can_negate_number (neg_ℤ number) ≡ true
negated_number number h = grind (arith, ints)

negated_constant : (number : ℤ) → is_within (2 ^ 64) number ≡ true
    → can_negate_number (pos 1 -ℤ number) ≡ true
negated_constant number h = grind (arith, ints)

negated_terms : (terms : List Term) → list_all (has_small_times (2 ^ 64)) terms ≡ true
    → list_all can_negate_term (map negative_term terms) ≡ true
negated_terms [] h = refl
negated_terms (term ∷ terms) h =
    let both = and_parts (has_small_times (2 ^ 64) term) (list_all (has_small_times (2 ^ 64)) terms) h in
    both_hold _ _ (negated_number term.times both.0) (negated_terms terms both.1)

negation_negates : Carries (small_layer (2 ^ 64)) opposite can_negate_layer
negation_negates = record {
  reads_first = small_reads (2 ^ 64);
  row = λ form h.
      let both = and_parts (list_all (has_small_times (2 ^ 64)) form.terms) (is_within (2 ^ 64) form.constant) h in
      both_hold _ _ (negated_terms form.terms both.0) (negated_constant form.constant both.1);
  flag = λ place is h. refl;
  every = λ parts. refl;
  some = λ parts. refl;
}

number_negates : (number : ℤ) → is_within (2 ^ 64) number ≡ true → can_negate_number number ≡ true
number_negates number h = grind (arith, ints)

terms_negate : (terms : List Term) → list_all (has_small_times (2 ^ 64)) terms ≡ true
    → list_all can_negate_term terms ≡ true
terms_negate [] h = refl
terms_negate (term ∷ terms) h =
    let both = and_parts (has_small_times (2 ^ 64) term) (list_all (has_small_times (2 ^ 64)) terms) h in
    both_hold _ _ (number_negates term.times both.0) (terms_negate terms both.1)

stays_small : Carries (small_layer (2 ^ 64)) (λ layer. layer) can_negate_layer
stays_small = record {
  reads_first = small_reads (2 ^ 64);
  row = λ form h.
      let both = and_parts (list_all (has_small_times (2 ^ 64)) form.terms) (is_within (2 ^ 64) form.constant) h in
      both_hold _ _ (terms_negate form.terms both.0) (number_negates form.constant both.1);
  flag = λ place is h. refl;
  every = λ parts. refl;
  some = λ parts. refl;
}

-- ---- places

below : (places : List Kind) (i : ℕ) (kind : Kind) → is_kind kind (slice_get places i) ≡ true
    → i < length places
below [] i kinds.Int h = absurd cc
below [] i kinds.Bool h = absurd cc
below (first ∷ places) zero kind h = omega arith
below (first ∷ places) (suc i) kind h = let rest = below places i kind h in omega arith

low_place : (places : Places) (place : ℕ) (kind : Kind) → length places.locals ≤ 4
    → is_kind kind (kind_at places place) ≡ true → nat_lt (place + 16) 42 ≡ true
low_place places place kind few h = by_tests (nat_lt place 16) (nat_lt place 22) refl refl h
  where
    by_tests : (low middle : Bool) → nat_lt place 16 ≡ low → nat_lt place 22 ≡ middle
        → is_kind kind (cond low (slice_get places.fields place)
        (cond middle (slice_get places.inputs (place - 16)) (slice_get places.locals (place - 22))))
        ≡ true → nat_lt (place + 16) 42 ≡ true
    by_tests true middle is also e = grind arith
    by_tests false true is also e = grind arith
    by_tests false false is also e = let local = below places.locals (place - 22) kind e in grind arith

low_terms : (places : Places) (terms : List Term) → length places.locals ≤ 4
    → list_all (fits_term places) terms ≡ true → list_all is_movable_term terms ≡ true
low_terms places [] few h = refl
low_terms places (term ∷ terms) few h =
    let both = and_parts (fits_term places term) (list_all (fits_term places) terms) h in
    let kind = (and_parts (is_kind kinds.Int (kind_at places term.place)) (is_within (2 ^ 31) term.times) both.0).0 in
    both_hold _ _ (low_place places term.place kinds.Int few kind) (low_terms places terms few both.1)

stays_low : (places : Places) → length places.locals ≤ 4
    → Carries (fits_formula_step places) (λ layer. layer) movable_layer
stays_low places few = record {
  reads_first = fits_reads places;
  row = λ form h. low_terms places form.terms few (and_parts (list_all (fits_term places) form.terms) (is_within (2 ^ 64) form.constant) h).0;
  flag = λ place is h. low_place places place kinds.Bool few h;
  every = λ parts. refl;
  some = λ parts. refl;
}

-- ---- a formula with no layer changed

abbrev Stays : Formula → Type 0
Stays formula = changed (λ layer. layer) formula ≡ formula

parts_stay : (parts : List ((formula : Formula) × Stays formula))
    → map (changed (λ layer. layer)) (map (λ part. part.0) parts) ≡ map (λ part. part.0) parts
parts_stay [] = refl
parts_stay (part ∷ parts) = rw (part.1, parts_stay parts) refl

layer_stays : (layer : Formula-F ((formula : Formula) × Stays formula))
    → map-Formula _ Formula (changed (λ layer. layer))
    (map-Formula _ Formula (λ part. part.0) layer) ≡ map-Formula _ Formula (λ part. part.0) layer
layer_stays (Row form) = refl
layer_stays (Flag place is) = refl
layer_stays (Every parts) = ap Every (parts_stay parts)
layer_stays (Some_of parts) = ap Some_of (parts_stay parts)

stays : (formula : Formula) → Stays formula
stays = ind-Formula Stays (λ layer parts is. whole layer (subst (λ layer. map-Formula _ Formula (changed (λ layer. layer)) layer ≡ layer) is (layer_stays parts)))
  where
    whole : (layer : Formula-F Formula) → map-Formula _ Formula (changed (λ layer. layer)) layer
        ≡ layer → Stays (roll-Formula layer)
    whole layer same = fold-roll-Formula Formula (λ layer. roll-Formula layer) layer ∙ ap roll-Formula same

-- ---- guards

pub guard_moves : (places : Places) (guard : Formula) → length places.locals ≤ 4
    → fits_formula places guard ≡ true → is_movable guard ≡ true
guard_moves places guard few fits = ap is_movable (sym (stays guard)) ∙ carried (fits_formula_step places) movable_layer (λ layer. layer) (stays_low places few) guard fits

moved_is_small : (places : Places) (guard : Formula) → fits_formula places guard ≡ true
    → is_small (2 ^ 64) (for_waiting guard) ≡ true
moved_is_small places guard fits = carried (fits_formula_step places) (small_layer (2 ^ 64)) waiting_layer (moving_keeps_small places) guard fits

pub moved_negates : (places : Places) (guard : Formula) → fits_formula places guard ≡ true
    → can_negate (for_waiting guard) ≡ true
moved_negates places guard fits =
    ap can_negate (sym (stays (for_waiting guard)))
    ∙ carried (small_layer (2 ^ 64)) can_negate_layer (λ layer. layer) stays_small (for_waiting guard) (moved_is_small places guard fits)

pub negated_negates : (places : Places) (guard : Formula) → fits_formula places guard ≡ true
    → can_negate (negation (for_waiting guard)) ≡ true
negated_negates places guard fits =
    carried (small_layer (2 ^ 64)) can_negate_layer opposite negation_negates (for_waiting guard) (moved_is_small places guard fits)
