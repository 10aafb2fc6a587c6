-- A variable can be chosen between what bounds it below and above, once all is taken so many times.
use Rattle.std.proofs.Common.{◌≡◌, ◌⊎◌, inl, inr, ℤ, pos, neg_ℤ, ◌+ℤ◌, ◌*ℤ◌, ◌≤ℤ◌, ◌<ℤ◌, List, [], ◌∷◌, subst, arith, refl}
use Rattle.std.specs.List.{AllByRecursion as Each}
use Rattle.std.proofs.lemmas.Int.{ints}
use Rattle.logic_linear.specs.Linear.{Linear}
use Rattle.logic_elim.specs.Steps.{Among}
use Rattle.logic_elim.proofs.RowLemmas.{each_weaker}
use Rattle.logic_elim.proofs.NumberLemmas.{times_comm, times_neg, at_most_or_above, at_most_itself, at_most_further}

pub each_at : (P : Linear → Type 0) (x : Linear) (xs : List Linear) → Each P xs → Among x xs → P x
each_at P x [] all is = absurd is
each_at P x (y ∷ ys) all (inl e) = subst P e all.0
each_at P x (y ∷ ys) all (inr h) = each_at P x ys all.1 h

pub each_both : {X : Type 0} (P Q R : X → Type 0) → ((x : X) → P x → Q x → R x) → (xs : List X) → Each P xs → Each Q xs → Each R xs
each_both P Q R joined [] all more = tt
each_both P Q R joined (x ∷ xs) all more = (joined x all.0 more.0, each_both P Q R joined xs all.1 more.1)

-- The fraction of the first is at most that of the second.
abbrev IsBelow : (Linear → ℤ) → (Linear → ℤ) → Linear → Linear → Type 0
IsBelow weight amount best row = (amount row *ℤ weight best) ≤ℤ (amount best *ℤ weight row)

abbrev IsPositive : (Linear → ℤ) → Linear → Type 0
IsPositive weight row = pos 0 <ℤ weight row

-- The row of the greatest fraction.
pub record Greatest (weight amount : Linear → ℤ) (rows : List Linear) : Type 0 where
  pub best : Linear
  pub among : Among best rows
  pub over : Each (IsBelow weight amount best) rows

greatest_of : (weight amount : Linear → ℤ) (first : Linear) (more : List Linear) → Each (IsPositive weight) (first ∷ more) → Greatest weight amount (first ∷ more)
greatest_of weight amount first [] heavy = record { best = first; among = inl refl; over = (at_most_itself _, tt) }
greatest_of weight amount first (next ∷ more) heavy =
    by_order (greatest_of weight amount next more heavy.1) (at_most_or_above (amount first *ℤ weight (greatest_of weight amount next more heavy.1).best) (amount (greatest_of weight amount next more heavy.1).best *ℤ weight first))
  where
    by_order : (rest : Greatest weight amount (next ∷ more)) → (IsBelow weight amount rest.best first) ⊎ ((amount rest.best *ℤ weight first) ≤ℤ (amount first *ℤ weight rest.best)) → Greatest weight amount (first ∷ next ∷ more)
    by_order rest (inl h) = record { best = rest.best; among = inr rest.among; over = (h, rest.over) }
    by_order rest (inr h) = record {
      best = first;
      among = inl refl;
      over = (
        at_most_itself _,
        each_both (IsPositive weight) (IsBelow weight amount rest.best) (IsBelow weight amount first)
            (λ row row_heavy below. at_most_further (amount row) (amount rest.best) (amount first) (weight row) (weight rest.best) (weight first) row_heavy (each_at (IsPositive weight) rest.best (next ∷ more) heavy.1 rest.among) heavy.0 below h)
            (next ∷ more) heavy.1 rest.over,
      );
    }

-- ---- the choice

-- The row holds with this number at the variable, and all else so many times.
abbrev pub HoldsWith : (Linear → ℤ) → (Linear → ℤ) → ℤ → ℤ → Linear → Type 0
HoldsWith times rest number scale row = (times row *ℤ number +ℤ scale *ℤ rest row) ≤ℤ pos 0

pub record Chosen (times rest : Linear → ℤ) (uppers lowers : List Linear) : Type 0 where
  pub number : ℤ
  pub scale : ℤ
  pub positive : pos 0 <ℤ scale
  pub upper_rows : Each (HoldsWith times rest number scale) uppers
  pub lower_rows : Each (HoldsWith times rest number scale) lowers

abbrev pub BoundsAbove : (Linear → ℤ) → Linear → Type 0
BoundsAbove times row = pos 0 <ℤ times row

abbrev pub BoundsBelow : (Linear → ℤ) → Linear → Type 0
BoundsBelow times row = times row <ℤ pos 0

abbrev pub PairHolds : (Linear → ℤ) → (Linear → ℤ) → Linear → Linear → Type 0
PairHolds times rest upper lower = (neg_ℤ (times lower) *ℤ rest upper +ℤ times upper *ℤ rest lower) ≤ℤ pos 0

one_positive : pos 0 <ℤ pos 1
one_positive = omega (arith, ints)

below_top : (t r a s : ℤ) → (r *ℤ a) ≤ℤ (s *ℤ t) → (t *ℤ neg_ℤ s +ℤ a *ℤ r) ≤ℤ pos 0
below_top t r a s h = let e = times_neg t s in let f = times_comm a r in let g = times_comm s t in by_sum (t *ℤ neg_ℤ s) (t *ℤ s) (a *ℤ r) (r *ℤ a) (s *ℤ t) e f g h
  where
    by_sum : (x y z p q : ℤ) → x ≡ neg_ℤ y → z ≡ p → q ≡ y → p ≤ℤ q → (x +ℤ z) ≤ℤ pos 0
    by_sum x y z p q e f g h = omega (arith, ints)

over_bottom : (t r a s : ℤ) → (r *ℤ neg_ℤ a) ≤ℤ (s *ℤ neg_ℤ t) → (t *ℤ s +ℤ neg_ℤ a *ℤ r) ≤ℤ pos 0
over_bottom t r a s h = by_sum (t *ℤ s) (neg_ℤ a *ℤ r) (r *ℤ neg_ℤ a) (s *ℤ neg_ℤ t) (s *ℤ t) (times_comm t s) (times_comm (neg_ℤ a) r) (times_neg s t) h
  where
    by_sum : (x z p q y : ℤ) → x ≡ y → z ≡ p → q ≡ neg_ℤ y → p ≤ℤ q → (x +ℤ z) ≤ℤ pos 0
    by_sum x z p q y e f g h = omega (arith, ints)

under_bottom : (a t r s : ℤ) → (neg_ℤ a *ℤ r +ℤ t *ℤ s) ≤ℤ pos 0 → (t *ℤ s +ℤ neg_ℤ a *ℤ r) ≤ℤ pos 0
under_bottom a t r s h = omega (arith, ints)

turned_positive : (t : ℤ) → t <ℤ pos 0 → pos 0 <ℤ neg_ℤ t
turned_positive t h = omega (arith, ints)

pub choose : (times rest : Linear → ℤ) (uppers lowers : List Linear) → Each (BoundsAbove times) uppers → Each (BoundsBelow times) lowers → Each (λ (upper : Linear). Each (PairHolds times rest upper) lowers) uppers → Chosen times rest uppers lowers
choose times rest [] [] up down pairs = record { number = pos 0; scale = pos 1; positive = one_positive; upper_rows = tt; lower_rows = tt }
choose times rest (first ∷ more) [] up down pairs =
    let top = greatest_of times rest first more up in
    record {
      number = neg_ℤ (rest top.best);
      scale = times top.best;
      positive = each_at (BoundsAbove times) top.best (first ∷ more) up top.among;
      upper_rows = each_weaker (IsBelow times rest top.best) (HoldsWith times rest (neg_ℤ (rest top.best)) (times top.best)) (λ row below. below_top (times row) (rest row) (times top.best) (rest top.best) below) (first ∷ more) top.over;
      lower_rows = tt;
    }
choose times rest uppers (first ∷ more) up down pairs =
    let heavy = each_weaker (BoundsBelow times) (IsPositive (λ (row : Linear). neg_ℤ (times row))) (λ row h. turned_positive (times row) h) (first ∷ more) down in
    let bottom = greatest_of (λ (row : Linear). neg_ℤ (times row)) rest first more heavy in
    record {
      number = rest bottom.best;
      scale = neg_ℤ (times bottom.best);
      positive = each_at (IsPositive (λ (row : Linear). neg_ℤ (times row))) bottom.best (first ∷ more) heavy bottom.among;
      upper_rows = each_weaker (λ (upper : Linear). Each (PairHolds times rest upper) (first ∷ more)) (HoldsWith times rest (rest bottom.best) (neg_ℤ (times bottom.best)))
          (λ row below. under_bottom (times bottom.best) (times row) (rest row) (rest bottom.best) (each_at (PairHolds times rest row) bottom.best (first ∷ more) below bottom.among)) uppers pairs;
      lower_rows = each_weaker (IsBelow (λ (row : Linear). neg_ℤ (times row)) rest bottom.best) (HoldsWith times rest (rest bottom.best) (neg_ℤ (times bottom.best)))
          (λ row below. over_bottom (times row) (rest row) (times bottom.best) (rest bottom.best) below) (first ∷ more) bottom.over;
    }
