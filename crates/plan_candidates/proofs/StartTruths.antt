-- Which candidates are true at the start.
use Rattle.std.proofs.Common.{◌≡◌, ℕ, ℤ, pos, neg_ℤ, ◌+ℤ◌, ◌*ℤ◌, Bool, true, false, not, cond, List, [], ◌∷◌, sym, arith, ap, refl, ◌∙◌}
use Rattle.std.specs.Prelude.{int_le, nat_lt}
use mathlib.Core.Bool.{beq}
use Rattle.std.proofs.lemmas.Int.{ints}
use Rattle.logic_linear.specs.declared.formula.Formula.TheVariants as formulas
use Rattle.logic_linear.specs.declared.formula.Formula.TheOpen.{Row, Flag}
use Rattle.logic_linear.specs.declared.formula.Formula.TheFolds.{fold-roll-Formula}
use Rattle.logic_linear.specs.Linear.{Linear}
use Rattle.logic_linear.specs.Truth.{Valuation, layer_truth, truth_of, value_of}
use Rattle.lang_base.specs.declared.value.Value.{Value}
use Rattle.lang_monitor.specs.declared.candidate.Candidate.{Candidate}
use Rattle.lang_monitor.specs.declared.candidate.Candidate.TheVariants as candidates
use Rattle.lang_monitor.specs.Bodies.{no_inputs, number_of_value, truth_of_value, valuation, value_at}
use Rattle.lang_monitor.specs.Candidates.{candidate_truth, once, opposite}

abbrev pub number_in : List Value → ℕ → ℤ
number_in state field = number_of_value (value_at state no_inputs field)

row_truth : (v : Valuation) (form : Linear)
    → truth_of v (formulas.Row form) ≡ int_le (value_of v form) (pos 0)
row_truth v form = ap (truth_of v) (sym (formulas.rolls-Row form)) ∙ fold-roll-Formula Bool (layer_truth v) (Row form)

flag_truth : (v : Valuation) (place : ℕ) (is : Bool)
    → truth_of v (formulas.Flag place is) ≡ cond is (v.flag place) (not (v.flag place))
flag_truth v place is = ap (truth_of v) (sym (formulas.rolls-Flag place is)) ∙ fold-roll-Formula Bool (layer_truth v) (Flag place is)

less : (a b : ℤ) → int_le (pos 1 *ℤ a +ℤ pos 0 +ℤ neg_ℤ b) (pos 0) ≡ int_le a b
less a b = grind (arith, ints)

more : (a b : ℤ) → int_le (neg_ℤ (pos 1) *ℤ a +ℤ pos 0 +ℤ b) (pos 0) ≡ int_le b a
more a b = grind (arith, ints)

pub at_most_truth : (state : List Value) (field : ℕ) (bound : ℤ)
    → candidate_truth state (candidates.AtMost field bound) ≡ int_le (number_in state field) bound
at_most_truth state field bound = row_truth (valuation state no_inputs) _ ∙ less (number_in state field) bound

pub at_least_truth : (state : List Value) (field : ℕ) (bound : ℤ)
    → candidate_truth state (candidates.AtLeast field bound) ≡ int_le bound (number_in state field)
at_least_truth state field bound = row_truth (valuation state no_inputs) _ ∙ more (number_in state field) bound

pub flag_truth_is : (state : List Value) (field : ℕ) (is : Bool)
    → candidate_truth state (candidates.Flag field is)
    ≡ cond is (truth_of_value (value_at state no_inputs field))
    (not (truth_of_value (value_at state no_inputs field)))
flag_truth_is state field is = flag_truth (valuation state no_inputs) field is

left_first : (a b : ℤ) → int_le (pos 1 *ℤ a +ℤ (neg_ℤ (pos 1) *ℤ b +ℤ pos 0) +ℤ pos 0) (pos 0)
    ≡ int_le a b
left_first a b = grind (arith, ints)

right_first : (a b : ℤ) → int_le (neg_ℤ (pos 1) *ℤ b +ℤ (pos 1 *ℤ a +ℤ pos 0) +ℤ pos 0) (pos 0)
    ≡ int_le a b
right_first a b = grind (arith, ints)

pub below_truth : (state : List Value) (left right : ℕ)
    → candidate_truth state (candidates.Below left right)
    ≡ int_le (number_in state left) (number_in state right)
below_truth state left right = row_truth (valuation state no_inputs) _ ∙ by_order (nat_lt left right)
  where
    by_order : (first : Bool) → int_le (value_of (valuation state no_inputs)
        (record {
          terms = cond first (once left ∷ opposite right ∷ []) (opposite right ∷ once left ∷ []);
          constant = pos 0;
        })) (pos 0)
        ≡ int_le (number_in state left) (number_in state right)
    by_order true = left_first (number_in state left) (number_in state right)
    by_order false = right_first (number_in state left) (number_in state right)

-- ---- what the code tests

same_as : (truth is : Bool) → beq truth is ≡ cond is truth (not truth)
same_as true true = refl
same_as true false = refl
same_as false true = refl
same_as false false = refl

pub flag_is : (state : List Value) (candidate : Candidate) (field : ℕ) (wanted truth : Bool)
    → candidate ≡ candidates.Flag field wanted
    → truth ≡ truth_of_value (value_at state no_inputs field)
    → beq truth wanted ≡ candidate_truth state candidate
flag_is state candidate field wanted truth is same =
    ap (λ t. beq t wanted) same ∙ same_as (truth_of_value (value_at state no_inputs field)) wanted ∙ sym (flag_truth_is state field wanted) ∙ ap (candidate_truth state) (sym is)
