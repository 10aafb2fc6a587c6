-- Sums over hands and over tickets.
use Rattle.std.proofs.Common.{◌≡◌, ◌≢◌, ℕ, zero, suc, ◌+◌, ◌<◌, ◌≤◌, List, [], ◌∷◌, length, set, cond, eqb, eq-eqb, ne_eqb, refl, sym, ap, arith, if◌then◌else◌}
use Rattle.std.specs.Prelude.{sum_by, slice_index_or, Contains}
use Rattle.std.specs.List.{range_with_len}
use Rattle.std.proofs.lemmas.List.Sums.{sum_by-cons}
use mathlib.Core.Logic.{dite}
use mathlib.Core.Option.{some, some-injective, some-ne-none}
use native.Mathlib.Decide.{ℕ_discrete}
use lib.ListN.{get_elem?}
use Rattle.threads_queue.specs.declared.hand.Hand.{Hand}
use Rattle.threads_queue.specs.Tickets.{times, without}

-- ---- hands

-- the sum after a change of one hand
pub sum_set : (f : Hand → ℕ) (hands : List Hand) (place : ℕ) (v w : Hand) → get_elem? hands place ≡ some v → sum_by f (set hands place w) + f v ≡ sum_by f hands + f w
sum_set f [] place v w e = absurd (some-ne-none v (sym e))
sum_set f (x ∷ xs) zero v w e =
    let same : f x ≡ f v = ap f (some-injective x v e) in
    let a = sum_by-cons f w xs in
    let b = sum_by-cons f x xs in
    omega arith
sum_set f (x ∷ xs) (suc place) v w e =
    let rest = sum_set f xs place v w e in
    let a = sum_by-cons f x (set xs place w) in
    let b = sum_by-cons f x xs in
    omega arith

-- one hand has no more than all
pub one_of_sum : (f : Hand → ℕ) (hands : List Hand) (place : ℕ) (v : Hand) → get_elem? hands place ≡ some v → f v ≤ sum_by f hands
one_of_sum f [] place v e = absurd (some-ne-none v (sym e))
one_of_sum f (x ∷ xs) zero v e =
    let same : f x ≡ f v = ap f (some-injective x v e) in
    let b = sum_by-cons f x xs in
    omega arith
one_of_sum f (x ∷ xs) (suc place) v e =
    let rest = one_of_sum f xs place v e in
    let b = sum_by-cons f x xs in
    omega arith

-- two hands have no more than all
pub two_of_sum : (f : Hand → ℕ) (hands : List Hand) (i j : ℕ) (v u : Hand) → get_elem? hands i ≡ some v → get_elem? hands j ≡ some u → j ≢ i → f v + f u ≤ sum_by f hands
two_of_sum f [] i j v u a b apart = absurd (some-ne-none v (sym a))
two_of_sum f (x ∷ xs) zero zero v u a b apart = absurd (apart refl)
two_of_sum f (x ∷ xs) zero (suc j) v u a b apart =
    let same : f x ≡ f v = ap f (some-injective x v a) in
    let other = one_of_sum f xs j u b in
    let c = sum_by-cons f x xs in
    omega arith
two_of_sum f (x ∷ xs) (suc i) zero v u a b apart =
    let same : f x ≡ f u = ap f (some-injective x u b) in
    let other = one_of_sum f xs i v a in
    let c = sum_by-cons f x xs in
    omega arith
two_of_sum f (x ∷ xs) (suc i) (suc j) v u a b apart =
    let rest = two_of_sum f xs i j v u a b (λ e. apart (ap suc e)) in
    let c = sum_by-cons f x xs in
    omega arith

abbrev pub ZeroIfIdle : (Hand → ℕ) → List Hand → Type 0
ZeroIfIdle f hands = (place : ℕ) (v : Hand) → get_elem? hands place ≡ some v → v.parts ≡ 0 → f v ≡ 0

abbrev parts_of : List Hand → ℕ
parts_of = sum_by (λ (v : Hand). v.parts)

all_zero : (f : Hand → ℕ) (hands : List Hand) → ZeroIfIdle f hands → parts_of hands ≡ 0 → sum_by f hands ≡ 0
all_zero f [] z e = refl
all_zero f (x ∷ xs) z e =
    let a = sum_by-cons f x xs in
    let b = sum_by-cons (λ (v : Hand). v.parts) x xs in
    let here = z 0 x refl (omega arith) in
    let rest = all_zero f xs (λ place v at. z (suc place) v at) (omega arith) in
    omega arith

-- a hand with every part has what all have
pub one_is_sum : (f : Hand → ℕ) (hands : List Hand) (place : ℕ) (v : Hand) → ZeroIfIdle f hands → get_elem? hands place ≡ some v → parts_of hands ≡ v.parts → sum_by f hands ≡ f v
one_is_sum f [] place v z at e = absurd (some-ne-none v (sym at))
one_is_sum f (x ∷ xs) zero v z at e =
    let a = sum_by-cons f x xs in
    let b = sum_by-cons (λ (v : Hand). v.parts) x xs in
    let same : f x ≡ f v = ap f (some-injective x v at) in
    let parts : x.parts ≡ v.parts = ap (λ (u : Hand). u.parts) (some-injective x v at) in
    let rest = all_zero f xs (λ place u at'. z (suc place) u at') (omega arith) in
    omega arith
one_is_sum f (x ∷ xs) (suc place) v z at e =
    let a = sum_by-cons f x xs in
    let b = sum_by-cons (λ (v : Hand). v.parts) x xs in
    let most = one_of_sum (λ (u : Hand). u.parts) xs place v at in
    let here = z 0 x refl (omega arith) in
    let rest = one_is_sum f xs place v (λ p u at'. z (suc p) u at') at (omega arith) in
    omega arith

-- ---- tickets

pub sum-one : (h : ℕ → ℕ) (x : ℕ) → sum_by h (x ∷ []) ≡ h x
sum-one h x = let a = sum_by-cons h x [] in let z : sum_by h [] ≡ 0 = refl in omega arith

pub sum-length : (xs : List ℕ) → sum_by (λ _. 1) xs ≡ length xs
sum-length [] = refl
sum-length (x ∷ xs) = let a = sum_by-cons (λ (_ : ℕ). 1) x xs in let rest = sum-length xs in omega arith

pub length-range : (a n : ℕ) → length (range_with_len a n) ≡ n
length-range a zero = refl
length-range a (suc n) = let rest = length-range (a + 1) n in omega arith

-- 1 where the ticket is of this number
abbrev pub here : ℕ → ℕ → ℕ
here number ticket = cond (eqb ticket number) 1 0

pub is_here : (number ticket : ℕ) → ticket ≡ number → here number ticket ≡ 1
is_here number ticket same = ap (λ b. cond b 1 0) (eq-eqb ticket number same)

pub not_here : (number ticket : ℕ) → ticket ≢ number → here number ticket ≡ 0
not_here number ticket other = ap (λ b. cond b 1 0) (ne_eqb ticket number other)

pub times_before : (a n number : ℕ) → number < a → times number (range_with_len a n) ≡ 0
times_before a zero number lt = refl
times_before a (suc n) number lt =
    let c = sum_by-cons (here number) a (range_with_len (a + 1) n) in
    let b = not_here number a (λ same. omega arith) in
    let rest = times_before (a + 1) n number (omega arith) in
    omega arith

pub times_after : (a n number : ℕ) → a + n ≤ number → times number (range_with_len a n) ≡ 0
times_after a zero number le = refl
times_after a (suc n) number le =
    let c = sum_by-cons (here number) a (range_with_len (a + 1) n) in
    let b = not_here number a (λ same. omega arith) in
    let rest = times_after (a + 1) n number (omega arith) in
    omega arith

pub times_within : (a n number : ℕ) → a ≤ number → number < a + n → times number (range_with_len a n) ≡ 1
times_within a zero number le lt = absurd (omega arith)
times_within a (suc n) number le lt =
    let c = sum_by-cons (here number) a (range_with_len (a + 1) n) in
    dite (ℕ_discrete a number)
    (λ (same : a ≡ number). let b = is_here number a same in let rest = times_before (a + 1) n number (omega arith) in omega arith)
    (λ (other : a ≢ number). let b = not_here number a other in let rest = times_within (a + 1) n number (omega arith) (omega arith) in omega arith)

-- what is left without one of them
pub sum_without : (h : ℕ → ℕ) (xs : List ℕ) (x : ℕ) → Contains xs x → sum_by h (without x xs) + h x ≡ sum_by h xs
sum_without h [] x has = absurd (omega (arith, has.1))
sum_without h (y ∷ ys) x has =
    let c = sum_by-cons h y ys in
    dite (ℕ_discrete y x)
    (λ (same : y ≡ x).
    let e : h y ≡ h x = ap h same in
    let is : without x (y ∷ ys) ≡ ys = ap (λ b. if b then ys else y ∷ without x ys) (eq-eqb y x same) in
    let t : sum_by h (without x (y ∷ ys)) ≡ sum_by h ys = ap (sum_by h) is in
    omega arith)
    (λ (other : y ≢ x).
    let is : without x (y ∷ ys) ≡ y ∷ without x ys = ap (λ b. if b then ys else y ∷ without x ys) (ne_eqb y x other) in
    let t : sum_by h (without x (y ∷ ys)) ≡ sum_by h (y ∷ without x ys) = ap (sum_by h) is in
    let d = sum_by-cons h y (without x ys) in
    let rest = sum_without h ys x (later has.0 has.1 has.2 other) in
    omega arith)
  where
    later : (k : ℕ) → k < length (y ∷ ys) → slice_index_or (y ∷ ys) k x ≡ x → y ≢ x → Contains ys x
    later zero lt is other = absurd (other is)
    later (suc k) lt is other = (k, omega arith, is)

pub without_first : (x : ℕ) (xs : List ℕ) → without x (x ∷ xs) ≡ xs
without_first x xs = ap (λ b. if b then xs else x ∷ without x xs) (eq-eqb x x refl)

pub contains_first : (x : ℕ) (xs : List ℕ) → Contains (x ∷ xs) x
contains_first x xs = (0, omega arith, refl)
