-- Each step keeps the rule.
use Rattle.std.proofs.Common.{◌≡◌, ◌≢◌, ℕ, zero, suc, ◌+◌, ◌-◌, ◌<◌, ◌≤◌, List, [], ◌∷◌, ◌++◌, set, refl, sym, ap, ◌∙◌, subst, ⊎_elim, arith}
use Rattle.std.specs.Prelude.{sum_by, Contains}
use Rattle.std.specs.List.{range_with_len}
use Rattle.std.proofs.lemmas.List.Sums.{sum_by-append, sum_by-cons, sum_by_push}
use mathlib.Core.Option.{some, some-injective, some-ne-none}
use lib.ListN.{get_elem?}
use Rattle.crossbeam_queue.specs.Fifo.{Pushes, Pops, Forks, Merges, Learns}
use Rattle.crossbeam_queue.proofs.Lists.{at_set, at_snoc}
use Rattle.threads_queue.specs.declared.hand.Hand.{Hand}
use Rattle.threads_queue.specs.Hands.{EachHasOneHolder, IsHand, spent, unset}
use Rattle.threads_queue.specs.Tickets.{without}
use Rattle.threads_queue.specs.inner.Moves.{AreAll, Fit, Gave, Stands, Took, begun, found_empty, one_less, one_part, together, with_ticket, without_ticket}
use Rattle.threads_queue.proofs.Sums.{sum_set, one_of_sum, two_of_sum, one_is_sum, sum-length, length-range, sum_without, without_first, contains_first, here, is_here, times_after}

abbrev parts_of : List Hand → ℕ
parts_of = sum_by (λ (v : Hand). v.parts)

abbrev weighed : (ℕ → ℕ) → List Hand → ℕ
weighed h = sum_by (λ (v : Hand). sum_by h v.tickets)

-- ---- what is so of each hand

abbrev Each : (Hand → Type 0) → List Hand → Type 0
Each P hands = (place : ℕ) (v : Hand) → get_elem? hands place ≡ some v → P v

each_set : (P : Hand → Type 0) (hands : List Hand) (port : ℕ) (w : Hand) → P w → Each P hands → Each P (set hands port w)
each_set P hands port w mine old j u at = ⊎_elim
    (λ (x : (j ≡ port) × (w ≡ u)). subst P x.1 mine)
    (λ (x : (j ≢ port) × (get_elem? hands j ≡ some u)). old j u x.1) (at_set hands port j w u at)

each_snoc : (P : Hand → Type 0) (hands : List Hand) (w : Hand) → P w → Each P hands → Each P (hands ++ w ∷ [])
each_snoc P hands w mine old j u at = ⊎_elim (λ (x : get_elem? hands j ≡ some u). old j u x) (λ (is : w ≡ u). subst P is mine) (at_snoc hands w u j at)

spent_is : (clients passes : ℕ) → IsHand clients passes spent
spent_is clients passes = record { idle = λ _. refl; knows = λ part. absurd (omega arith) }

-- a hand with a part that knows as much as another
live_is : (clients passes : ℕ) (v w : Hand) → IsHand clients passes v → 0 < v.parts → 0 < w.parts → w.clients ≡ v.clients → w.passes ≡ v.passes → IsHand clients passes w
live_is clients passes v w is live part same same' = let k = is.knows live in record { idle = λ zero_parts. absurd (omega arith); knows = λ _. (same ∙ k.0, same' ∙ k.1) }

-- ---- how it begins

pub starts : EachHasOneHolder [] (unset ∷ [])
starts = record {
  clients = 0;
  passes = 1;
  tickets = λ h. sum_by-cons (λ (v : Hand). sum_by h v.tickets) unset [];
  parts = sum_by-cons (λ (v : Hand). v.parts) unset [];
  each = one;
}
  where
    one : (place : ℕ) (v : Hand) → get_elem? (unset ∷ []) place ≡ some v → IsHand 0 1 v
    one zero v at = subst (IsHand 0 1) (some-injective unset v at) (record { idle = λ _. refl; knows = λ _. (refl, refl) })
    one (suc place) v at = absurd (some-ne-none v (sym at))

-- ---- the steps

lt_from_not : (a b : ℕ) → (b ≤ a → ⊥) → a < b
lt_from_not a b apart = grind arith

pub takes : (port : ℕ) (v : Hand) → 0 < v.parts → Pops EachHasOneHolder port v (Took v)
takes port v live x items views rule at =
    let w : Hand = with_ticket x v in
    let k = (rule.each port v at).knows live in (
      w,
      record {
        clients = rule.clients;
        passes = rule.passes;
        tickets = λ h.
            let change = sum_set (λ (u : Hand). sum_by h u.tickets) views port v w at in
            let before = rule.tickets h in
            let was = sum_by-cons h x items in
            let now = sum_by-cons h x v.tickets in
            omega arith;
        parts = (let change = sum_set (λ (u : Hand). u.parts) views port v w at in let before = rule.parts in omega arith);
        each = each_set (IsHand rule.clients rule.passes) views port w (live_is rule.clients rule.passes v w (rule.each port v at) live live refl refl) rule.each;
      },
      (below k.0, refl),
    )
  where
    below : v.clients ≡ rule.clients → x < v.clients
    below same =
        let before = rule.tickets (here x) in
        let was = sum_by-cons (here x) x items in
        let mine = is_here x x refl in
        let far : rule.clients ≤ x → ⊥ = λ le. let none = times_after 0 rule.clients x (omega arith) in absurd (omega arith) in
        lt_from_not x v.clients (λ le. far (omega arith))

set_at : (hands : List Hand) (port : ℕ) (v w : Hand) → get_elem? hands port ≡ some v → get_elem? (set hands port w) port ≡ some w
set_at [] port v w at = absurd (some-ne-none v (sym at))
set_at (x ∷ xs) zero v w at = refl
set_at (x ∷ xs) (suc port) v w at = set_at xs port v w at

pub gives : (n port : ℕ) (v : Hand) (x : ℕ) → 0 < v.parts → Contains v.tickets x → Pushes EachHasOneHolder n port v x (Gave v x)
gives n port v x live has items views room rule at =
    let w : Hand = without_ticket x v in
    let all : EachHasOneHolder (items ++ x ∷ []) (set views port w) = record {
      clients = rule.clients;
      passes = rule.passes;
      tickets = λ h.
          let change = sum_set (λ (u : Hand). sum_by h u.tickets) views port v w at in
          let before = rule.tickets h in
          let was = sum_without h v.tickets x has in
          let now = sum_by_push h items x in
          omega arith;
      parts = (let change = sum_set (λ (u : Hand). u.parts) views port v w at in let before = rule.parts in omega arith);
      each = each_set (IsHand rule.clients rule.passes) views port w (live_is rule.clients rule.passes v w (rule.each port v at) live live refl refl) rule.each;
    } in
    (w, all, (refl, (items, record { hands = set views port w; place = port; own = set_at views port v w at; all = all })))

-- a hand becomes another of the same parts and tickets, and a spent one comes beside it
pub counts : (port : ℕ) (v : Hand) → 0 < v.parts → Forks EachHasOneHolder port v (found_empty v) spent
counts port v live items views rule at =
    let w : Hand = found_empty v in record {
      clients = rule.clients;
      passes = rule.passes;
      tickets = λ h.
          let change = sum_set (λ (u : Hand). sum_by h u.tickets) views port v w at in
          let more = sum_by_push (λ (u : Hand). sum_by h u.tickets) (set views port w) spent in
          let before = rule.tickets h in
          omega arith;
      parts = (let change = sum_set (λ (u : Hand). u.parts) views port v w at in
          let more = sum_by_push (λ (u : Hand). u.parts) (set views port w) spent in
          let before = rule.parts in omega arith);
      each = each_snoc (IsHand rule.clients rule.passes) (set views port w) spent (spent_is rule.clients rule.passes)
          (each_set (IsHand rule.clients rule.passes) views port w (live_is rule.clients rule.passes v w (rule.each port v at) live live refl refl) rule.each);
    }

pub begins : (port clients passes : ℕ) (v : Hand) → v ≡ unset → 0 < passes → Forks EachHasOneHolder port v (begun clients passes) spent
begins port clients passes v new some_pass items views rule at =
    let one : v.parts ≡ 1 = ap (λ (u : Hand). u.parts) new in
    let none : v.clients ≡ 0 = ap (λ (u : Hand). u.clients) new in
    let whole : v.passes ≡ 1 = ap (λ (u : Hand). u.passes) new in
    let empty : v.tickets ≡ [] = ap (λ (u : Hand). u.tickets) new in
    let k = (rule.each port v at).knows (omega arith) in
    let w : Hand = begun clients passes in
    let alone : (j : ℕ) (u : Hand) → j ≢ port → get_elem? views j ≡ some u → u.parts ≡ 0 = λ j u apart there.
    let two = two_of_sum (λ (u : Hand). u.parts) views port j v u at there apart in
    let before = rule.parts in
    omega arith in
    record {
      clients = clients;
      passes = passes;
      tickets = λ h.
          let change = sum_set (λ (u : Hand). sum_by h u.tickets) views port v w at in
          let more = sum_by_push (λ (u : Hand). sum_by h u.tickets) (set views port w) spent in
          let was : sum_by h v.tickets ≡ 0 = ap (sum_by h) empty in
          let nothing : sum_by h (range_with_len 0 rule.clients) ≡ 0 = ap (λ n. sum_by h (range_with_len 0 n)) (sym k.0 ∙ none) in
          let before = rule.tickets h in
          omega arith;
      parts = (let change = sum_set (λ (u : Hand). u.parts) views port v w at in
          let more = sum_by_push (λ (u : Hand). u.parts) (set views port w) spent in
          let before = rule.parts in omega arith);
      each = each_snoc (IsHand clients passes) (set views port w) spent (spent_is clients passes) (λ j u there. ⊎_elim
          (λ (x : (j ≡ port) × (w ≡ u)). subst (IsHand clients passes) x.1 (record { idle = λ zero_parts. absurd (omega arith); knows = λ _. (refl, refl) }))
          (λ (x : (j ≢ port) × (get_elem? views j ≡ some u)).
          record { idle = (rule.each j u x.1).idle; knows = λ part. let nothing = alone j u x.0 x.1 in absurd (omega arith) })
          (at_set views port j w u there));
    }

pub cuts : (port : ℕ) (v : Hand) → 1 < v.parts → Forks EachHasOneHolder port v (one_less v) (one_part v)
cuts port v two items views rule at =
    let w : Hand = one_less v in
    let r : Hand = one_part v in
    record {
      clients = rule.clients;
      passes = rule.passes;
      tickets = λ h.
          let change = sum_set (λ (u : Hand). sum_by h u.tickets) views port v w at in
          let more = sum_by_push (λ (u : Hand). sum_by h u.tickets) (set views port w) r in
          let before = rule.tickets h in
          omega arith;
      parts = (let change = sum_set (λ (u : Hand). u.parts) views port v w at in
          let more = sum_by_push (λ (u : Hand). u.parts) (set views port w) r in
          let before = rule.parts in omega arith);
      each = each_snoc (IsHand rule.clients rule.passes) (set views port w) r (live_is rule.clients rule.passes v r (rule.each port v at) (omega arith) (omega arith) refl refl)
          (each_set (IsHand rule.clients rule.passes) views port w (live_is rule.clients rule.passes v w (rule.each port v at) (omega arith) (omega arith) refl refl) rule.each);
    }

pub joins : (port : ℕ) (v : Hand) (other : ℕ) (w : Hand) → 0 < v.parts → Merges EachHasOneHolder port v other w (together v w) spent
joins port v other w live items views rule at apart at' =
    let both : Hand = together v w in record {
      clients = rule.clients;
      passes = rule.passes;
      tickets = λ h.
          let first = sum_set (λ (u : Hand). sum_by h u.tickets) views port v both at in
          let second = sum_set (λ (u : Hand). sum_by h u.tickets) (set views port both) other w spent at' in
          let two = sum_by-append h v.tickets w.tickets in
          let before = rule.tickets h in
          omega arith;
      parts = (let first = sum_set (λ (u : Hand). u.parts) views port v both at in
          let second = sum_set (λ (u : Hand). u.parts) (set views port both) other w spent at' in
          let before = rule.parts in omega arith);
      each = each_set (IsHand rule.clients rule.passes) (set views port both) other spent (spent_is rule.clients rule.passes)
          (each_set (IsHand rule.clients rule.passes) views port both (live_is rule.clients rule.passes v both (rule.each port v at) live (omega arith) refl refl) rule.each);
    }

-- ---- what is learned

pub stands : (port : ℕ) (v : Hand) → Learns EachHasOneHolder port v (Stands v)
stands port v items views rule at = record { hands = views; place = port; own = at; all = rule }

-- what the queue and a hand have is no more than there is
pub fits : (port : ℕ) (v : Hand) → 0 < v.parts → Learns EachHasOneHolder port v (Fit v)
fits port v live items views rule at =
    let k = (rule.each port v at).knows live in
    let before = rule.tickets (λ _. 1) in
    let part = one_of_sum (λ (u : Hand). sum_by (λ _. 1) u.tickets) views port v at in
    let a = sum-length items in
    let b = sum-length v.tickets in
    let c = sum-length (range_with_len 0 rule.clients) in
    let d = length-range 0 rule.clients in
    let e = k.0 in
    omega arith

-- who has every part knows that the queue has what it has not
pub learns : (port : ℕ) (v : Hand) → 0 < v.parts → v.parts ≡ v.passes → Learns EachHasOneHolder port v (AreAll v)
learns port v live every items views rule at h =
    let k = (rule.each port v at).knows live in
    let mine = one_is_sum (λ (u : Hand). sum_by h u.tickets) views port v (λ j u at' zero_parts. ap (sum_by h) ((rule.each j u at').idle zero_parts)) at (rule.parts ∙ sym (every ∙ k.1)) in
    let all : sum_by h (range_with_len 0 v.clients) ≡ sum_by h (range_with_len 0 rule.clients) = ap (λ n. sum_by h (range_with_len 0 n)) k.0 in
    let before = rule.tickets h in
    omega arith

-- ---- all tickets are put in

pub first_of_range : (k n : ℕ) → k < n → range_with_len k (n - k) ≡ k ∷ range_with_len (k + 1) (n - (k + 1))
first_of_range k n lt = let e : n - k ≡ suc (n - (k + 1)) = omega arith in ap (range_with_len k) e

pub has_first : (v w : Hand) (k n : ℕ) → k < n → w ≡ record v { tickets = range_with_len k (n - k) } → Contains w.tickets k
has_first v w k n lt is = subst (λ ts. Contains ts k) (sym (ap (λ (u : Hand). u.tickets) is ∙ first_of_range k n lt)) (contains_first k (range_with_len (k + 1) (n - (k + 1))))

pub one_less_of_range : (v w u : Hand) (k n : ℕ) → k < n → w ≡ record v { tickets = range_with_len k (n - k) } → u ≡ without_ticket k w
    → u ≡ record v { tickets = range_with_len (k + 1) (n - (k + 1)) }
one_less_of_range v w u k n lt is put =
    let rest : without k (range_with_len k (n - k)) ≡ range_with_len (k + 1) (n - (k + 1)) = ap (without k) (first_of_range k n lt) ∙ without_first k (range_with_len (k + 1) (n - (k + 1))) in
    put ∙ (ap (without_ticket k) is ∙ ap (λ (ts : List ℕ). the_hand v ts) rest)
  where
    the_hand : Hand → List ℕ → Hand
    the_hand h ts = record h { tickets = ts }
