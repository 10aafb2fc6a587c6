-- Products of whole numbers, and their order.
use Rattle.std.proofs.Common.{◌≡◌, ◌⊎◌, inl, inr, ℤ, pos, neg_ℤ, ◌+ℤ◌, ◌*ℤ◌, ◌≤ℤ◌, ◌<ℤ◌, sym, subst, arith, ap, ◌∙◌}
use Rattle.std.proofs.lemmas.Int.{ints}
use Rattle.logic_linear.proofs.SumLemmas.{times_add, times_assoc}

pub times_comm : (a b : ℤ) → a *ℤ b ≡ b *ℤ a
times_comm a b = omega (arith, ints)

-- a factor goes outwards
pub times_swap : (t k x : ℤ) → t *ℤ (k *ℤ x) ≡ k *ℤ (t *ℤ x)
times_swap t k x = sym (times_assoc t k x) ∙ ap (λ n. n *ℤ x) (times_comm t k) ∙ times_assoc k t x

pub times_nonpositive : (k x : ℤ) → pos 0 ≤ℤ k → x ≤ℤ pos 0 → (k *ℤ x) ≤ℤ pos 0
times_nonpositive k x h g = grind (arith, ints)

pub both_nonpositive : (a b : ℤ) → a ≤ℤ pos 0 → b ≤ℤ pos 0 → (a +ℤ b) ≤ℤ pos 0
both_nonpositive a b h g = omega (arith, ints)

none_and_more : (b : ℤ) → b +ℤ neg_ℤ b ≡ pos 0
none_and_more b = omega (arith, ints)

pub times_none : (k : ℤ) → k *ℤ pos 0 ≡ pos 0
times_none k = omega (arith, ints)

opposite_of : (x y : ℤ) → x +ℤ y ≡ pos 0 → y ≡ neg_ℤ x
opposite_of x y h = omega (arith, ints)

pub times_neg : (k b : ℤ) → k *ℤ neg_ℤ b ≡ neg_ℤ (k *ℤ b)
times_neg k b = opposite_of _ _ (sym (times_add k b (neg_ℤ b)) ∙ ap (λ n. k *ℤ n) (none_and_more b) ∙ times_none k)

pub neg_times : (a b : ℤ) → neg_ℤ a *ℤ b ≡ neg_ℤ (a *ℤ b)
neg_times a b = times_comm (neg_ℤ a) b ∙ times_neg b a ∙ ap neg_ℤ (times_comm b a)

times_turned : (k a b : ℤ) → k *ℤ (a +ℤ neg_ℤ b) ≡ k *ℤ a +ℤ neg_ℤ (k *ℤ b)
times_turned k a b = times_add k a (neg_ℤ b) ∙ ap (λ n. k *ℤ a +ℤ n) (times_neg k b)

less_is_negative : (a b : ℤ) → a ≤ℤ b → (a +ℤ neg_ℤ b) ≤ℤ pos 0
less_is_negative a b h = omega (arith, ints)

negative_is_less : (a b n : ℤ) → n ≡ a +ℤ neg_ℤ b → n ≤ℤ pos 0 → a ≤ℤ b
negative_is_less a b n e h = omega (arith, ints)

pub at_least_zero : (k : ℤ) → pos 0 <ℤ k → pos 0 ≤ℤ k
at_least_zero k h = omega (arith, ints)

pub times_at_most : (k a b : ℤ) → pos 0 ≤ℤ k → a ≤ℤ b → (k *ℤ a) ≤ℤ (k *ℤ b)
times_at_most k a b h g = negative_is_less (k *ℤ a) (k *ℤ b) _ (times_turned k a b) (times_nonpositive k (a +ℤ neg_ℤ b) h (less_is_negative a b g))

pub at_most_or_above : (a b : ℤ) → (a ≤ℤ b) ⊎ (b ≤ℤ a)
at_most_or_above a b = grind (arith, ints)

at_most_or_more : (a b : ℤ) → (a ≤ℤ b) ⊎ ((b +ℤ pos 1) ≤ℤ a)
at_most_or_more a b = grind (arith, ints)

pub at_most_itself : (a : ℤ) → a ≤ℤ a
at_most_itself a = omega (arith, ints)

pub cancelled : (k a b : ℤ) → pos 0 <ℤ k → (k *ℤ a) ≤ℤ (k *ℤ b) → a ≤ℤ b
cancelled k a b h g = by_order (at_most_or_more a b)
  where
    too_far : (x y : ℤ) → x ≡ y +ℤ k *ℤ pos 1 → x ≤ℤ y → a ≤ℤ b
    too_far x y e l = absurd (let one : k *ℤ pos 1 ≡ k = omega (arith, ints) in omega (arith, ints))

    through : (x y z : ℤ) → x ≤ℤ y → y ≤ℤ z → x ≤ℤ z
    through x y z f l = omega (arith, ints)

    by_order : (a ≤ℤ b) ⊎ ((b +ℤ pos 1) ≤ℤ a) → a ≤ℤ b
    by_order (inl l) = l
    by_order (inr l) = too_far _ _ (times_add k b (pos 1)) (through _ (k *ℤ a) _ (times_at_most k (b +ℤ pos 1) a (at_least_zero k h) l) g)

through : (x y z : ℤ) → x ≤ℤ y → y ≤ℤ z → x ≤ℤ z
through x y z f l = omega (arith, ints)

-- Fractions with positive denominators, told apart by products, are in one order.
pub at_most_further : (s t u a b c : ℤ) → pos 0 <ℤ a → pos 0 <ℤ b → pos 0 <ℤ c → (s *ℤ b) ≤ℤ (t *ℤ a) → (t *ℤ c) ≤ℤ (u *ℤ b) → (s *ℤ c) ≤ℤ (u *ℤ a)
at_most_further s t u a b c a_is b_is c_is h g =
    cancelled b (s *ℤ c) (u *ℤ a) b_is
    (through _ (c *ℤ (t *ℤ a)) _
    (subst (λ (n : ℤ). n ≤ℤ (c *ℤ (t *ℤ a))) (first s b c) (times_at_most c (s *ℤ b) (t *ℤ a) (at_least_zero c c_is) h))
    (through _ (a *ℤ (u *ℤ b)) _
    (subst (λ (n : ℤ). n ≤ℤ (a *ℤ (u *ℤ b))) (middle t c a) (times_at_most a (t *ℤ c) (u *ℤ b) (at_least_zero a a_is) g))
    (subst (λ (n : ℤ). (a *ℤ (u *ℤ b)) ≤ℤ n) (last u b a) (at_most_itself (a *ℤ (u *ℤ b))))))
  where
    first : (s b c : ℤ) → c *ℤ (s *ℤ b) ≡ b *ℤ (s *ℤ c)
    first s b c = times_swap c s b ∙ ap (λ n. s *ℤ n) (times_comm c b) ∙ times_swap s b c

    middle : (t c a : ℤ) → a *ℤ (t *ℤ c) ≡ c *ℤ (t *ℤ a)
    middle t c a = first t c a

    last : (u b a : ℤ) → a *ℤ (u *ℤ b) ≡ b *ℤ (u *ℤ a)
    last u b a = first u b a

pub positive_product : (k d : ℤ) → pos 0 <ℤ k → pos 0 <ℤ d → pos 0 <ℤ (k *ℤ d)
positive_product k d h g = by_order (times_at_most k (pos 1) d (at_least_zero k h) (let l : pos 1 ≤ℤ d = omega (arith, ints) in l))
  where
    by_order : (k *ℤ pos 1) ≤ℤ (k *ℤ d) → pos 0 <ℤ (k *ℤ d)
    by_order l = let one : k *ℤ pos 1 ≡ k = omega (arith, ints) in over k (k *ℤ pos 1) (k *ℤ d) one l h
      where
        over : (k x y : ℤ) → x ≡ k → x ≤ℤ y → pos 0 <ℤ k → pos 0 <ℤ y
        over k x y e l h = omega (arith, ints)
