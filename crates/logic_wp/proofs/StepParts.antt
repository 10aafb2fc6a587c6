-- What one step makes of parts, one after the other.
use Rattle.std.proofs.Common.{◌≡◌, inl, inr, ℕ, zero, suc, ◌+◌, ◌-◌, ◌<◌, ◌≤◌, min, true, List, [], ◌∷◌, ◌++◌, map, sum_by, length, get_or, take, Option, Some, None, sym, arith, ap, refl, ◌∙◌}
use Rattle.std.specs.List.{list_all}
use Rattle.std.proofs.lemmas.List.Sums.{sum_by-cons, sum_by_push}
use Rattle.std.proofs.lemmas.List.{map-append, take_all, take_more}
use Rattle.logic_linear.specs.declared.formula.Formula.{Formula}
use Rattle.logic_linear.specs.Measures.{nodes_of, MOST_NODES}
use Rattle.logic_linear.specs.Substitution.{is_formula_within}
use Rattle.logic_wp.specs.declared.step.Step.{Step}
use Rattle.logic_wp.specs.NegatedQueries.{part_before}
use Rattle.logic_wp.specs.inner.Backward.{IsStepped, is_within_after, nodes_after}
use Rattle.logic_wp.specs.inner.Choices.{formula_within}
use Rattle.logic_wp.proofs.Parts.{all_push, held, not_held, one_stops, value_is}

pub record StepSoFar (step : Step) (parts : List Formula) (i : ℕ) (done : List Formula) (left : ℕ) : Type 0 where
  pub made : done ≡ map (part_before step) (take i parts)
  pub kept : list_all (is_within_after step) (take i parts) ≡ true
  pub room : left + sum_by (nodes_after step) (take i parts) ≡ MOST_NODES

pub step_stops : (step : Step) (parts : List Formula) (i : ℕ) (part : Formula) (answer : Option Formula) → i < length parts → part ≡ get_or parts i part
    → answer ≡ formula_within (part_before step part) → answer ≡ None → IsStepped step parts None
step_stops step parts i part answer low is e f =
    inl (one_stops (is_within_after step) parts i part low is (not_held (is_formula_within (part_before step part)) (part_before step part) (sym e ∙ f)))

over : (f : Formula → ℕ) (parts : List Formula) (i room most : ℕ) (part : Formula) → i < length parts → part ≡ get_or parts i part
    → room + sum_by f (take i parts) ≡ most → room < f part → most < sum_by f parts
over f [] i room most part low is e less = absurd (omega arith)
over f (first ∷ parts) zero room most part low is e less =
    first_over room most (f part) (f first) (sum_by f parts) (sum_by f (first ∷ parts)) e less (ap f (sym is)) (sum_by-cons f first parts)
  where
    first_over : (room most a b c w : ℕ) → room + 0 ≡ most → room < a → b ≡ a → w ≡ b + c → most < w
    first_over room most a b c w e less same whole = omega arith
over f (first ∷ parts) (suc i) room most part low is e less =
    later_over (f first) (sum_by f (take i parts)) (sum_by f (first ∷ take i parts)) room most (sum_by f parts) (sum_by f (first ∷ parts)) e (sum_by-cons f first (take i parts)) (sum_by-cons f first parts)
    (over f parts i room (room + sum_by f (take i parts)) part (omega arith) is refl less)
  where
    later_over : (a s t room most c w : ℕ) → room + t ≡ most → t ≡ a + s → w ≡ a + c → room + s < c → most < w
    later_over a s t room most c w e begins whole less = omega arith

large_size : (size room n : ℕ) → size ≡ min n (65536 + 1) → room < size → room < n
large_size size room n e less = grind arith

pub step_over : (step : Step) (parts made : List Formula) (i room size : ℕ) (part next : Formula) (answer : Option Formula) → i < length parts → part ≡ get_or parts i part
    → answer ≡ formula_within (part_before step part) → answer ≡ Some next → size ≡ min (nodes_of next) (MOST_NODES + 1) → room < size
    → StepSoFar step parts i made room → IsStepped step parts None
step_over step parts made i room size part next answer low is e f g less so_far =
    let same = value_is (is_formula_within (part_before step part)) (part_before step part) next (sym e ∙ f) in
    inr (over (nodes_after step) parts i room MOST_NODES part low is so_far.room (large_size size room _ (g ∙ ap (λ (n : Formula). min (nodes_of n) (MOST_NODES + 1)) same) less))

less_room : (room after size n s : ℕ) → room + s ≡ 65536 → size ≡ min n (65536 + 1) → size ≤ room → after ≡ room - size → after + (s + n) ≡ 65536
less_room room after size n s e g fits left = grind arith

pub step_more : (step : Step) (parts made grown : List Formula) (i room after size : ℕ) (part next : Formula) (answer : Option Formula) → i < length parts → part ≡ get_or parts i part
    → answer ≡ formula_within (part_before step part) → answer ≡ Some next → size ≡ min (nodes_of next) (MOST_NODES + 1) → size ≤ room
    → grown ≡ made ++ next ∷ [] → after ≡ room - size → StepSoFar step parts i made room → StepSoFar step parts (i + 1) grown after
step_more step parts made grown i room after size part next answer low is e f g fits pushed left so_far =
    let test = is_formula_within (part_before step part) in
    let same = value_is test (part_before step part) next (sym e ∙ f) in
    let at : take (i + 1) parts ≡ take i parts ++ part ∷ [] = take_more parts i part low ∙ ap (λ (n : Formula). take i parts ++ n ∷ []) (sym is) in
    record {
      made = pushed ∙ ap (λ (m : List Formula). m ++ next ∷ []) so_far.made ∙ ap (λ (n : Formula). map (part_before step) (take i parts) ++ n ∷ []) same
          ∙ sym (map-append (part_before step) (take i parts) (part ∷ [])) ∙ ap (map (part_before step)) (sym at);
      kept = ap (list_all (is_within_after step)) at ∙ all_push (is_within_after step) (take i parts) part so_far.kept (held test (part_before step part) next (sym e ∙ f));
      room = ap (λ (ps : List Formula). after + sum_by (nodes_after step) ps) at ∙ ap (λ (n : ℕ). after + n) (sum_by_push (nodes_after step) (take i parts) part)
          ∙ less_room room after size (nodes_after step part) (sum_by (nodes_after step) (take i parts)) so_far.room (g ∙ ap (λ (n : Formula). min (nodes_of n) (MOST_NODES + 1)) same) fits left;
    }

pub step_begins : (step : Step) (parts made : List Formula) → made ≡ [] → StepSoFar step parts 0 made MOST_NODES
step_begins step parts made e = record { made = e; kept = refl; room = refl }

pub step_done : (step : Step) (parts made : List Formula) (i room : ℕ) → length parts ≤ i → StepSoFar step parts i made room → IsStepped step parts (Some made)
step_done step parts made i room low so_far =
    let whole = take_all i parts low in
    (so_far.made ∙ ap (map (part_before step)) whole, ap (list_all (is_within_after step)) (sym whole) ∙ so_far.kept)
