-- How large the numbers of rows are, and of which places their variables.
use Rattle.std.proofs.Common.{◌≡◌, ◌⊎◌, inl, inr, ⊎_elim, ℕ, suc, ◌+◌, ◌*◌, ◌<◌, ◌≤◌, ◌^◌, ℤ, pos, negsuc, neg_ℤ, ◌+ℤ◌, ◌*ℤ◌, ◌<ℤ◌, Bool, true, false, cond, ◌&&◌, List, [], ◌∷◌, length, sym, subst, arith, ap, refl, ◌∙◌}
use Rattle.std.specs.Prelude.{◌==◌, int_le}
use Rattle.std.specs.List.{list_all, filter, AllByRecursion as Each}
use Rattle.std.proofs.lemmas.Bool.{and_parts, cases_lt}
use Rattle.std.proofs.lemmas.Int.{ints}
use Rattle.logic_linear.specs.declared.form.Term.{Term}
use Rattle.logic_linear.specs.Linear.{Linear, IsLinear}
use Rattle.logic_linear.specs.Places.{HasPlaces, IsIn}
use Rattle.logic_linear.specs.Substitution.{times_at}
use Rattle.logic_linear.specs.Sums.{combined_terms, fits_128, product_fits, term_fits}
use Rattle.logic_linear.proofs.CombinedLemmas.{combined_times, combined_rises, combined_counts}
use Rattle.logic_linear.proofs.RisingLemmas.{RisesFrom, linear_rises, is_counted, each_counted, no_times, times_here, times_after}
use Rattle.logic_elim.specs.Eliminations.{is_upper, is_lower, is_free, sum_row, sums_of_upper, sums_of_sides, eliminated}
use Rattle.logic_linear.specs.LightCubes.{IsWithin, IsLightRow}
use Rattle.logic_elim.specs.Steps.{CanAdd}
use Rattle.logic_elim.proofs.RowLemmas.{each_append, each_weaker, each_filter}
use Rattle.logic_elim.proofs.NumberLemmas.{times_comm, neg_times, times_none}
use Rattle.logic_elim.proofs.EliminationLemmas.{each_map, each_flat, free_none}

-- ---- magnitudes

pub within_fits : (n : ℕ) (z : ℤ) → n < 2 ^ 127 → IsWithin n z → fits_128 z ≡ true
within_fits n z h within = let low = within.0 in let high = within.1 in grind (arith, ints)

pub within_more : (n m : ℕ) (z : ℤ) → n ≤ m → IsWithin n z → IsWithin m z
within_more n m z h within = let low = within.0 in let high = within.1 in (omega (arith, ints), omega (arith, ints))

pub within_sum : (n : ℕ) (x y : ℤ) → IsWithin n x → IsWithin n y → IsWithin (2 * n) (x +ℤ y)
within_sum n x y h g = let a = h.0 in let b = h.1 in let c = g.0 in let d = g.1 in (omega (arith, ints), omega (arith, ints))

pub within_neg : (n : ℕ) (x : ℤ) → IsWithin n x → IsWithin n (neg_ℤ x)
within_neg n x h = let a = h.0 in let b = h.1 in (omega (arith, ints), omega (arith, ints))

product_most : (p q a b : ℕ) → p ≤ a → q ≤ b → p * q ≤ a * b
product_most p q a b h g = grind arith

within_pos : (n p : ℕ) → p ≤ n → IsWithin n (pos p)
within_pos n p h = (omega (arith, ints), omega (arith, ints))

within_minus : (n p : ℕ) → p ≤ n → IsWithin n (neg_ℤ (pos p))
within_minus n p h = (omega (arith, ints), omega (arith, ints))

pos_most : (n p : ℕ) → IsWithin n (pos p) → p ≤ n
pos_most n p h = let high = h.1 in omega (arith, ints)

negsuc_most : (n p : ℕ) → IsWithin n (negsuc p) → suc p ≤ n
negsuc_most n p h = let low = h.0 in omega (arith, ints)

pub within_product : (a b : ℕ) (x y : ℤ) → IsWithin a x → IsWithin b y → IsWithin (a * b) (x *ℤ y)
within_product a b (pos p) (pos q) h g = within_pos (a * b) (p * q) (product_most p q a b (pos_most a p h) (pos_most b q g))
within_product a b (pos p) (negsuc q) h g = within_minus (a * b) (p * suc q) (product_most p (suc q) a b (pos_most a p h) (negsuc_most b q g))
within_product a b (negsuc p) (pos q) h g = within_minus (a * b) (suc p * q) (product_most (suc p) q a b (negsuc_most a p h) (pos_most b q g))
within_product a b (negsuc p) (negsuc q) h g = within_pos (a * b) (suc p * suc q) (product_most (suc p) (suc q) a b (negsuc_most a p h) (negsuc_most b q g))

within_none : (n : ℕ) → IsWithin n (pos 0)
within_none n = within_pos n 0 (omega arith)

-- ---- what each place counts

-- What holds of the number of each place, and of 0, holds of the number of each term.
pub by_places : (P : ℕ → ℤ → Type 0) → ((place : ℕ) → P place (pos 0)) → (low : ℕ) (terms : List Term) → RisesFrom low terms → ((place : ℕ) → P place (times_at place terms)) → Each (λ (term : Term). P term.place term.times) terms
by_places P none low [] rises all = tt
by_places P none low (term ∷ terms) rises all = (subst (P term.place) (times_here low term terms rises) (all term.place), by_places P none (term.place + 1) terms rises.1 later)
  where
    later : (place : ℕ) → P place (times_at place terms)
    later place =
        ⊎_elim (λ (below : place < term.place + 1). subst (P place) (sym (no_times (term.place + 1) place terms rises.1 below)) (none place))
        (λ (above : term.place + 1 ≤ place). subst (P place) (times_after place term terms (λ same. omega arith)) (all place))
        (cases_lt place (term.place + 1))

-- And the other way round.
pub from_places : (P : ℕ → ℤ → Type 0) → ((place : ℕ) → P place (pos 0)) → (low : ℕ) (terms : List Term) → RisesFrom low terms → Each (λ (term : Term). P term.place term.times) terms → (place : ℕ) → P place (times_at place terms)
from_places P none low [] rises all place = none place
from_places P none low (term ∷ terms) rises all place = by_test (term.place == place) refl (from_places P none (term.place + 1) terms rises.1 all.1 place)
  where
    plus_nothing : (z : ℤ) → z ≡ z +ℤ pos 0
    plus_nothing z = omega (arith, ints)

    by_test : (test : Bool) → (term.place == place) ≡ test → P place (times_at place terms) → P place (cond test (term.times +ℤ times_at place terms) (times_at place terms))
    by_test true e rest =
        let same : term.place ≡ place = grind arith in
        subst (P place) (plus_nothing term.times ∙ ap (λ n. term.times +ℤ n) (sym (no_times (term.place + 1) place terms rises.1 (omega arith)))) (subst (λ at. P at term.times) same all.0)
    by_test false e rest = rest

all_true : (test : Term → Bool) (terms : List Term) → Each (λ (term : Term). test term ≡ true) terms → list_all test terms ≡ true
all_true test [] all = refl
all_true test (term ∷ terms) all = rw (all.0, all_true test terms all.1) refl

-- ---- bounded rows

-- A row whose variables are of these places, with numbers up to these.
pub record IsBounded (places : List ℕ) (most_times most_constant : ℕ) (row : Linear) : Type 0 where
  pub rises : RisesFrom 0 row.terms
  pub counts : list_all is_counted row.terms ≡ true
  pub none : (place : ℕ) → (IsIn places place → ⊥) → times_at place row.terms ≡ pos 0
  pub each : (place : ℕ) → IsWithin most_times (times_at place row.terms)
  pub constant : IsWithin most_constant row.constant

-- The numbers of sums of such rows are larger and fit.
pub record AreSmall (most_times most_constant : ℕ) : Type 0 where
  pub grows_times : most_times ≤ 2 * (most_times * most_times)
  pub grows_constant : most_constant ≤ 2 * (most_times * most_constant)
  pub times_fit : 2 * (most_times * most_times) < 2 ^ 127
  pub constants_fit : 2 * (most_times * most_constant) < 2 ^ 127

abbrev pub IsBoundedSum : List ℕ → ℕ → ℕ → Linear → Type 0
IsBoundedSum places a b row = IsBounded places (2 * (a * a)) (2 * (a * b)) row

-- ---- sums

half_below : (n m : ℕ) → 2 * n < m → n < m
half_below n m h = omega arith

below_through : (n m k : ℕ) → n ≤ m → m < k → n < k
below_through n m k h g = omega arith

both_true : (a b : Bool) → a ≡ true → b ≡ true → (a && b) ≡ true
both_true a b e f = rw (e, f) refl

times_fit : (places : List ℕ) (a b : ℕ) (k : ℤ) (row : Linear) → AreSmall a b → IsWithin a k → IsBounded places a b row → list_all (product_fits k) row.terms ≡ true
times_fit places a b k row small factor bounded =
    all_true (product_fits k) row.terms
    (by_places (λ place times. fits_128 (k *ℤ times) ≡ true) (λ place. rw (times_none k) refl) 0 row.terms bounded.rises
    (λ place. within_fits (a * a) _ (half_below (a * a) (2 ^ 127) small.times_fit) (within_product a a k (times_at place row.terms) factor (bounded.each place))))

sum_within : (a b : ℕ) (k l x y : ℤ) → IsWithin a k → IsWithin a l → IsWithin b x → IsWithin b y → IsWithin (2 * (a * b)) (k *ℤ x +ℤ l *ℤ y)
sum_within a b k l x y h g p q = within_sum (a * b) (k *ℤ x) (l *ℤ y) (within_product a b k x h p) (within_product a b l y g q)

combined_within : (places : List ℕ) (a b : ℕ) (k l : ℤ) (left right : Linear) → IsWithin a k → IsWithin a l → IsBounded places a b left → IsBounded places a b right → (place : ℕ) → IsWithin (2 * (a * a)) (times_at place (combined_terms k left.terms l right.terms))
combined_within places a b k l left right h g p q place =
    subst (IsWithin (2 * (a * a))) (sym (combined_times place k left.terms l right.terms)) (sum_within a a k l (times_at place left.terms) (times_at place right.terms) h g (p.each place) (q.each place))

turned_least : (t : ℤ) → t <ℤ pos 0 → int_le (pos 0) (neg_ℤ t) ≡ true
turned_least t h = grind (arith, ints)

least : (t : ℤ) → pos 0 <ℤ t → int_le (pos 0) t ≡ true
least t h = grind (arith, ints)

pub can_add : (places : List ℕ) (a b place : ℕ) (upper lower : Linear) → AreSmall a b → IsBounded places a b upper → IsBounded places a b lower → pos 0 <ℤ times_at place upper.terms → times_at place lower.terms <ℤ pos 0 → CanAdd place upper lower
can_add places a b place upper lower small up down above below =
    let k = within_neg a (times_at place lower.terms) (down.each place) in
    let l = up.each place in
    record {
      turned = within_fits a _ (below_through a (2 * (a * a)) (2 ^ 127) small.grows_times small.times_fit) k;
      factors = both_true _ _ (turned_least (times_at place lower.terms) below) (least (times_at place upper.terms) above);
      fits = both_true _ _
          (both_true _ _ (times_fit places a b _ upper small k up) (both_true _ _ (times_fit places a b _ lower small l down)
          (all_true term_fits (combined_terms (neg_ℤ (times_at place lower.terms)) upper.terms (times_at place upper.terms) lower.terms)
          (by_places (λ place times. fits_128 times ≡ true) (λ place. refl) 0 _ (combined_rises _ upper.terms _ lower.terms up.rises down.rises)
          (λ at. within_fits (2 * (a * a)) _ small.times_fit (combined_within places a b _ _ upper lower k l up down at))))))
          (both_true _ _ (within_fits (a * b) _ (half_below (a * b) (2 ^ 127) small.constants_fit) (within_product a b _ upper.constant k up.constant))
          (both_true _ _ (within_fits (a * b) _ (half_below (a * b) (2 ^ 127) small.constants_fit) (within_product a b _ lower.constant l down.constant))
          (within_fits (2 * (a * b)) _ small.constants_fit (sum_within a b _ _ upper.constant lower.constant k l up.constant down.constant))));
    }

-- ---- what is left when a variable is eliminated

variable_gone : (t u x y : ℤ) → x ≡ u → y ≡ t → neg_ℤ t *ℤ x +ℤ u *ℤ y ≡ pos 0
variable_gone t u x y e f = rw (e, f) (gone (neg_ℤ t *ℤ u) (t *ℤ u) (u *ℤ t) (neg_times t u) (times_comm u t))
  where
    gone : (x y z : ℤ) → x ≡ neg_ℤ y → z ≡ y → x +ℤ z ≡ pos 0
    gone x y z e f = omega (arith, ints)

both_none : (k l x y : ℤ) → x ≡ pos 0 → y ≡ pos 0 → k *ℤ x +ℤ l *ℤ y ≡ pos 0
both_none k l x y e f = rw (e, f, times_none k, times_none l) refl

not_in_both : (place : ℕ) (rest : List ℕ) (at : ℕ) → (at ≡ place → ⊥) → (IsIn rest at → ⊥) → IsIn (place ∷ rest) at → ⊥
not_in_both place rest at h g (inl e) = h e
not_in_both place rest at h g (inr e) = g e

pub sum_bounded : (place : ℕ) (rest : List ℕ) (a b : ℕ) (upper lower : Linear) → IsBounded (place ∷ rest) a b upper → IsBounded (place ∷ rest) a b lower → IsBoundedSum rest a b (sum_row place upper lower)
sum_bounded place rest a b upper lower up down =
    let k = within_neg a (times_at place lower.terms) (down.each place) in
    let l = up.each place in
    record {
      rises = combined_rises (neg_ℤ (times_at place lower.terms)) upper.terms (times_at place upper.terms) lower.terms up.rises down.rises;
      counts = combined_counts (neg_ℤ (times_at place lower.terms)) upper.terms (times_at place upper.terms) lower.terms;
      none = λ at out. combined_times at (neg_ℤ (times_at place lower.terms)) upper.terms (times_at place upper.terms) lower.terms ∙ by_test at out (at == place) refl;
      each = combined_within (place ∷ rest) a b _ _ upper lower k l up down;
      constant = sum_within a b _ _ upper.constant lower.constant k l up.constant down.constant;
    }
  where
    by_test : (at : ℕ) → (IsIn rest at → ⊥) → (test : Bool) → (at == place) ≡ test → neg_ℤ (times_at place lower.terms) *ℤ times_at at upper.terms +ℤ times_at place upper.terms *ℤ times_at at lower.terms ≡ pos 0
    by_test at out true e = let same : at ≡ place = grind arith in variable_gone _ _ _ _ (ap (λ n. times_at n upper.terms) same) (ap (λ n. times_at n lower.terms) same)
    by_test at out false e = let other : at ≡ place → ⊥ = λ same. absurd (grind arith) in let gone = not_in_both place rest at other out in both_none _ _ _ _ (up.none at gone) (down.none at gone)

pub free_bounded : (place : ℕ) (rest : List ℕ) (a b : ℕ) (row : Linear) → AreSmall a b → IsBounded (place ∷ rest) a b row → times_at place row.terms ≡ pos 0 → IsBoundedSum rest a b row
free_bounded place rest a b row small bounded lacks = record {
  rises = bounded.rises;
  counts = bounded.counts;
  none = λ at out. by_test at out (at == place) refl;
  each = λ at. within_more a (2 * (a * a)) _ small.grows_times (bounded.each at);
  constant = within_more b (2 * (a * b)) _ small.grows_constant bounded.constant;
}
  where
    by_test : (at : ℕ) → (IsIn rest at → ⊥) → (test : Bool) → (at == place) ≡ test → times_at at row.terms ≡ pos 0
    by_test at out true e = let same : at ≡ place = grind arith in ap (λ n. times_at n row.terms) same ∙ lacks
    by_test at out false e = let other : at ≡ place → ⊥ = λ same. absurd (grind arith) in bounded.none at (not_in_both place rest at other out)

pub eliminated_bounded : (place : ℕ) (rest : List ℕ) (a b : ℕ) (rows : List Linear) → AreSmall a b → Each (IsBounded (place ∷ rest) a b) rows → Each (IsBoundedSum rest a b) (eliminated place rows)
eliminated_bounded place rest a b rows small all =
    each_append (IsBoundedSum rest a b) (filter (is_free place) rows) (sums_of_sides place (filter (is_upper place) rows) (filter (is_lower place) rows))
    (each_filter (IsBounded (place ∷ rest) a b) (IsBoundedSum rest a b) (is_free place) (λ row bounded e. free_bounded place rest a b row small bounded (free_none (times_at place row.terms) e)) rows all)
    (each_flat (IsBoundedSum rest a b) (sums_of_upper place (filter (is_lower place) rows)) (filter (is_upper place) rows)
    (each_filter (IsBounded (place ∷ rest) a b) (λ (upper : Linear). Each (IsBoundedSum rest a b) (sums_of_upper place (filter (is_lower place) rows) upper)) (is_upper place)
    (λ upper up e. each_map (IsBoundedSum rest a b) (sum_row place upper) (filter (is_lower place) rows)
    (each_filter (IsBounded (place ∷ rest) a b) (λ (lower : Linear). IsBoundedSum rest a b (sum_row place upper lower)) (is_lower place) (λ lower down f. sum_bounded place rest a b upper lower up down) rows all))
    rows all))

-- ---- the places

is_in : (places : List ℕ) (place : ℕ) → (IsIn places place) ⊎ (IsIn places place → ⊥)
is_in [] place = inr (λ h. h)
is_in (other ∷ others) place = by_test (place == other) refl (is_in others place)
  where
    by_test : (test : Bool) → (place == other) ≡ test → (IsIn others place) ⊎ (IsIn others place → ⊥) → (IsIn (other ∷ others) place) ⊎ (IsIn (other ∷ others) place → ⊥)
    by_test true e rest = inl (inl (let same : place ≡ other = grind arith in same))
    by_test false e (inl h) = inl (inr h)
    by_test false e (inr h) = inr (not_in_both other others place (λ same. absurd (grind arith)) h)

abbrev IsUsed : List ℕ → ℕ → ℤ → Type 0
IsUsed places place times = (times ≡ pos 0 → ⊥) → IsIn places place

counted_places : (places : List ℕ) (terms : List Term) → list_all is_counted terms ≡ true → Each (λ (term : Term). IsUsed places term.place term.times) terms → HasPlaces places terms
counted_places places [] counts all = tt
counted_places places (term ∷ terms) counts all = let both = and_parts (is_counted term) (list_all is_counted terms) counts in (all.0 (λ e. counted term both.0 e), counted_places places terms both.1 all.1)
  where
    counted : (term : Term) → is_counted term ≡ true → term.times ≡ pos 0 → ⊥
    counted term h e = let no : is_counted term ≡ false = rw e refl in absurd cc

pub bounded_places : (places : List ℕ) (a b : ℕ) (row : Linear) → IsBounded places a b row → HasPlaces places row.terms
bounded_places places a b row bounded =
    counted_places places row.terms bounded.counts
    (by_places (IsUsed places) (λ place h. absurd (h refl)) 0 row.terms bounded.rises
    (λ place used. ⊎_elim (λ (h : IsIn places place). h) (λ (h : IsIn places place → ⊥). absurd (used (bounded.none place h))) (is_in places place)))

pub no_places : (terms : List Term) → HasPlaces [] terms → terms ≡ []
no_places [] has = refl
no_places (term ∷ terms) has = absurd has.0

-- The places without one of them.
pub record Others (places : List ℕ) (place : ℕ) : Type 0 where
  pub others : List ℕ
  pub fewer : length others + 1 ≡ length places
  pub covers : (at : ℕ) → IsIn places at → IsIn (place ∷ others) at

pub others_of_place : (places : List ℕ) (place : ℕ) → IsIn places place → Others places place
others_of_place [] place h = absurd h
others_of_place (other ∷ more) place (inl e) = record { others = more; fewer = omega arith; covers = λ at. by_case at }
  where
    by_case : (at : ℕ) → IsIn (other ∷ more) at → IsIn (place ∷ more) at
    by_case at (inl f) = inl (f ∙ sym e)
    by_case at (inr h) = inr h
others_of_place (other ∷ more) place (inr h) =
    let rest = others_of_place more place h in
    let fewer = rest.fewer in
    record { others = other ∷ rest.others; fewer = omega arith; covers = λ at. by_case rest at }
  where
    moved : (rest : Others more place) (at : ℕ) → IsIn (place ∷ rest.others) at → IsIn (place ∷ other ∷ rest.others) at
    moved rest at (inl f) = inl f
    moved rest at (inr g) = inr (inr g)

    by_case : (rest : Others more place) (at : ℕ) → IsIn (other ∷ more) at → IsIn (place ∷ other ∷ rest.others) at
    by_case rest at (inl f) = inr (inl f)
    by_case rest at (inr g) = moved rest at (rest.covers at g)

pub of_more_places : (places others : List ℕ) (a b : ℕ) (row : Linear) → ((at : ℕ) → IsIn places at → IsIn others at) → IsBounded places a b row → IsBounded others a b row
of_more_places places others a b row covers bounded = record {
  rises = bounded.rises;
  counts = bounded.counts;
  none = λ at out. bounded.none at (λ h. out (covers at h));
  each = bounded.each;
  constant = bounded.constant;
}

-- ---- light rows

pub light_bounded : (places : List ℕ) (row : Linear) → IsLinear row → IsLightRow places row → IsBounded places (2 ^ 10) (2 ^ 40) row
light_bounded places row linear light = record {
  rises = linear_rises row linear;
  counts = each_counted row.terms linear.each;
  none = λ place out. from_places (λ at times. (IsIn places at → ⊥) → times ≡ pos 0) (λ at out. refl) 0 row.terms (linear_rises row linear)
      (each_weaker (λ (term : Term). IsIn places term.place) (λ (term : Term). (IsIn places term.place → ⊥) → term.times ≡ pos 0) (λ term h out. absurd (out h)) row.terms light.in_places) place out;
  each = from_places (λ at times. IsWithin (2 ^ 10) times) (λ at. within_none (2 ^ 10)) 0 row.terms (linear_rises row linear) light.times;
  constant = light.constant;
}
