-- A condition is counted where the queries of each block are valid.
use Rattle.std.proofs.Common.{◌≡◌, ◌==◌, ℕ, zero, suc, ◌+◌, ◌-◌, ◌≤◌, Bool, true, false, cond, not, ◌&&◌, ◌||◌, ℤ, pos, negsuc, neg_ℤ, ◌+ℤ◌, ◌-ℤ◌, ◌*ℤ◌, List, [], ◌∷◌, Option, Some, length, refl, sym, ap, ◌∙◌, arith, inl, inr}
use Rattle.std.specs.Prelude.{int_le}
use Rattle.std.proofs.lemmas.Int.{ints}
use Rattle.std.proofs.lemmas.Option.{slice_get_within}
use Rattle.std.proofs.lemmas.Bool.{true≢false, eqb-true, cases_Bool}
use Rattle.logic_linear.specs.Linear.{Linear}
use Rattle.logic_linear.specs.declared.formula.Formula.{Formula}
use Rattle.logic_linear.specs.declared.formula.Formula.TheVariants as formulas
use Rattle.logic_linear.specs.Negation.{negation}
use Rattle.logic_linear.specs.Truth.{Valuation, sum_of, value_of, truth_of}
use Rattle.logic_linear.proofs.NegationLemmas.{negation_flips}
use Rattle.logic_linear.proofs.SumLemmas.{sum_value}
use Rattle.lang_base.specs.declared.value.Value.{Value}
use Rattle.lang_base.specs.declared.value.Value.TheVariants as values
use Rattle.lang_monitor.specs.declared.monitor.Block.{Block}
use Rattle.lang_monitor.specs.declared.monitor.Condition.{Condition}
use Rattle.lang_monitor.specs.MonitorParts.{MonitorParts}
use Rattle.lang_monitor.specs.Inputs.{reads_inputs}
use Rattle.lang_monitor.specs.Bodies.{Inputs, no_inputs, valuation, after}
use Rattle.lang_monitor.specs.Queries.{block_guard, waiting_guard}
use Rattle.machine_implicit.specs.Steps.{condition_truth}
use Rattle.machine_events.specs.declared.plan.CondKind.{CondKind}
use Rattle.machine_events.specs.declared.plan.CondKind.TheVariants as kinds
use Rattle.machine_events.specs.declared.plan.Plan.{Plan}
use Rattle.machine_events.specs.Plans.{notes_at, condition_kind, has_note, IsCondition}
use Rattle.machine_events.specs.Running.{MayRun}
use Rattle.machine_events.specs.Counts.{Measure, below_zero, slack, is_free, zero_form, row_measure, one_if, LeavesCounted, IsCounted, IsLawfulByCounting}
use Rattle.machine_events.specs.CountClaims.{is_turned, old_sign, old_form, minus, more_by, net, where_open, ReadsFields, CountsBlock, AreNoted, CountsEach, IsLawfulByGuards}
use Rattle.machine_events.proofs.Places.{sum_agrees, agree_on, truth_all, truth_any, truth_row}
use Rattle.machine_events.proofs.Valuations.{joint, inputs_after, fields_same}
use Rattle.machine_events.proofs.Covered.{not_both}
use Rattle.machine_events.proofs.Counting.{truth_at, guard_shared, slack_true}
use Rattle.machine_events.proofs.Counting.{slack_false, some_may}
use Rattle.machine_events.proofs.Applying.{meets, own_guard, waiting_truth, not_waiting_truth, pair_true, none_needed_applies}

-- ---- whole numbers

-- what the form was worth, as inputs of a client that waits
abbrev noted : Linear → ℤ → Inputs
noted form number = record { arguments = values.Int (old_sign form.terms *ℤ number) ∷ []; locals = [] }

old_value : (form : Linear) (state : List Value) (inputs : Inputs) (number : ℤ)
    → value_of (joint state inputs (noted form number)) (old_form form) ≡ number
old_value form state inputs number = by (is_turned form.terms)
  where
    plain : (x : ℤ) → (pos 1 *ℤ (pos 1 *ℤ x) +ℤ pos 0) +ℤ pos 0 ≡ x
    plain x = omega (arith, ints)

    turned : (x : ℤ) → (neg_ℤ (pos 1) *ℤ (neg_ℤ (pos 1) *ℤ x) +ℤ pos 0) +ℤ pos 0 ≡ x
    turned x = omega (arith, ints)

    by : (test : Bool) → (cond test (neg_ℤ (pos 1)) (pos 1) *ℤ (cond test (neg_ℤ (pos 1)) (pos 1) *ℤ number) +ℤ pos 0) +ℤ pos 0 ≡ number
    by true = turned number
    by false = plain number

difference : (v : Valuation) (left right : Linear) (a b : ℤ) → value_of v left ≡ a
    → value_of v right ≡ b → value_of v (minus left right) ≡ a -ℤ b
difference v left right a b one two = sum_value v (pos 1) left (neg_ℤ (pos 1)) right ∙ by (value_of v left) (value_of v right) one two
  where
    by : (x y : ℤ) → x ≡ a → y ≡ b → pos 1 *ℤ x +ℤ neg_ℤ (pos 1) *ℤ y ≡ a -ℤ b
    by x y one two = omega (arith, ints, one, two)

more_value : (v : Valuation) (form : Linear) (number : ℤ)
    → value_of v (more_by number form) ≡ value_of v form +ℤ number
more_value v form number = by (sum_of v form.terms) form.constant
  where
    by : (s c : ℤ) → s +ℤ (c +ℤ number) ≡ (s +ℤ c) +ℤ number
    by s c = omega (arith, ints)

form_at : (state : List Value) (inputs others : Inputs) (measure : Measure) → ReadsFields measure
    → value_of (joint state inputs others) measure.form
    ≡ value_of (valuation state no_inputs) measure.form
form_at state inputs others measure fields =
    ap (λ (sum : ℤ). sum +ℤ measure.form.constant) (sum_agrees 16 (joint state inputs others) (valuation state no_inputs) measure.form.terms (fields_same state inputs others) fields.form)

-- the formula is as true, and its negation as false, at the places of fields
free_at : (state : List Value) (inputs others : Inputs) (measure : Measure) → ReadsFields measure
    → truth_of (joint state inputs others) (negation measure.free)
    ≡ not (truth_of (valuation state no_inputs) measure.free)
free_at state inputs others measure fields =
    negation_flips (joint state inputs others) measure.free
    ∙ ap not (agree_on 16 (joint state inputs others) (valuation state no_inputs) (fields_same state inputs others) measure.free fields.free)

below_is : (z : ℤ) → int_le z (pos 0) ≡ true → pos (below_zero z) ≡ neg_ℤ z
below_is (pos zero) low = refl
below_is (pos (suc n)) low = grind (arith, ints, low)
below_is (negsuc n) low = grind (arith, ints)

below_least : (z : ℤ) → int_le (neg_ℤ z) (pos (below_zero z)) ≡ true
below_least (pos zero) = refl
below_least (pos (suc n)) = grind (arith, ints)
below_least (negsuc n) = grind (arith, ints)

-- the form falls by no more than the block gives less what it takes
falls : (old new : ℤ) (takes gives : Bool) → int_le new (pos 0) ≡ true
    → int_le ((old -ℤ new) +ℤ net takes gives) (pos 0) ≡ true
    → (1 + below_zero new) + one_if takes ≤ (1 + below_zero old) + one_if gives
falls old new takes gives low fell =
    by (below_zero new) (below_zero old) (one_if takes) (one_if gives) (below_is new low) (below_least old) fell
  where
    by : (a b t g : ℕ) → pos a ≡ neg_ℤ new → int_le (neg_ℤ old) (pos b) ≡ true
        → int_le ((old -ℤ new) +ℤ (pos t -ℤ pos g)) (pos 0) ≡ true → (1 + a) + t ≤ (1 + b) + g
    by a b t g one two three = omega (arith, ints)

-- a form that is at least 0
not_below : (z : ℤ) → int_le (pos 0 -ℤ z) (pos 0) ≡ true → below_zero z ≡ 0
not_below (pos n) high = refl
not_below (negsuc n) high = grind (arith, ints, high)

-- ---- truth at the variants

second_true : (a b : Bool) → (a || (b || false)) ≡ true → a ≡ false → b ≡ true
second_true true b some none = absurd (not_both true refl none)
second_true false true some none = refl
second_true false false some none = some

record BothTrue (a b : Bool) : Type 0 where
  first : a ≡ true
  second : b ≡ true

two_true : (a b : Bool) → (a && (b && true)) ≡ true → BothTrue a b
two_true true true all = record { first = refl; second = refl }
two_true true false all = record { first = refl; second = all }
two_true false b all = absurd (true≢false (sym all))

record AllThree (a b c : Bool) : Type 0 where
  first : a ≡ true
  second : b ≡ true
  third : c ≡ true

three_true : (a b c : Bool) → (a && (b && (c && true))) ≡ true → AllThree a b c
three_true true true true all = record { first = refl; second = refl; third = refl }
three_true true true false all = record { first = refl; second = refl; third = all }
three_true true false c all = absurd (true≢false (sym all))
three_true false b c all = absurd (true≢false (sym all))

five_true : (a b c d e : Bool) → a ≡ true → b ≡ true → c ≡ true → d ≡ true → e ≡ true
    → (a && (b && (c && (d && (e && true))))) ≡ true
five_true a b c d e first second third fourth fifth = cc

-- ---- after the block

-- where the guard is true after it, the rest of the post formula is
opened : (monitor : MonitorParts) (measure : Measure) (condition : ℕ) (which : Condition)
    (more : List Formula) (next : List Value) (given others : Inputs)
    → IsCondition monitor condition which → reads_inputs which.guard ≡ false
    → condition_truth monitor next condition ≡ true
    → truth_of (joint next given others) (where_open monitor measure condition more) ≡ true
    → truth_of (joint next given others) (formulas.All (negation measure.free ∷ more)) ≡ true
opened monitor measure condition which more next given others is plain holds post =
    second_true (truth_of w (negation (waiting_guard monitor condition))) (truth_of w (formulas.All (negation measure.free ∷ more)))
    (sym (truth_any w (negation (waiting_guard monitor condition) ∷ formulas.All (negation measure.free ∷ more) ∷ [])) ∙ post)
    (not_waiting_truth monitor condition which next given others is ∙ ap not (sym (truth_at monitor next others condition which is plain) ∙ holds))
  where
    w : Valuation
    w = joint next given others

from_not : (b : Bool) → not b ≡ true → b ≡ false
from_not false is = refl
from_not true is = absurd (true≢false (sym is))

-- ---- the queries

-- the slack where the guard is true before and after
still_counts : (monitor : MonitorParts) (plan : Plan) (condition : ℕ) (which : Condition)
    (measure : Measure) → IsCondition monitor condition which → reads_inputs which.guard ≡ false
    → ReadsFields measure → (number : ℕ) (block : Block)
    → CountsBlock monitor plan condition measure number block → (inputs : Inputs) (state : List Value)
    → MayRun monitor plan.kept number block inputs state
    → is_free monitor measure state condition ≡ false
    → condition_truth monitor state condition ≡ true
    → condition_truth monitor (after inputs block.body state).state condition ≡ true
    → LeavesCounted monitor plan measure condition number block state
    (after inputs block.body state).state
still_counts monitor plan condition which measure is plain fields number block counts inputs state run free was now =
    let next = (after inputs block.body state).state in
    let given = inputs_after inputs (after inputs block.body state) in
    let old = value_of (valuation state no_inputs) measure.form in
    let new = value_of (valuation next no_inputs) measure.form in
    let v = joint state inputs (noted measure.form old) in
    let w = joint next given (noted measure.form old) in
    let takes = block.condition == condition in
    let gives = has_note (notes_at plan number) condition in
    let not_free : truth_of (valuation state no_inputs) measure.free ≡ false = sym (ap (λ (test : Bool). test && truth_of (valuation state no_inputs) measure.free) was) ∙ free in
    let same_old = form_at state inputs (noted measure.form old) measure fields in
    let noted_now = old_value measure.form state inputs old in
    let hyps = five_true (truth_of v (block_guard monitor number)) (truth_of v (waiting_guard monitor condition)) (truth_of v (negation measure.free))
    (truth_of v (formulas.Row (minus measure.form (old_form measure.form)))) (truth_of v (formulas.Row (minus (old_form measure.form) measure.form)))
    (own_guard monitor plan.kept number block inputs state (noted measure.form old) run)
    (waiting_truth monitor condition which state inputs (noted measure.form old) is ∙ sym (truth_at monitor state (noted measure.form old) condition which is plain) ∙ was)
    (free_at state inputs (noted measure.form old) measure fields ∙ ap not not_free)
    (at_most_zero v (minus measure.form (old_form measure.form)) (difference v measure.form (old_form measure.form) old old same_old noted_now ∙ nothing_left old))
    (at_most_zero v (minus (old_form measure.form) measure.form) (difference v (old_form measure.form) measure.form old old noted_now same_old ∙ nothing_left old)) in
    let post = meets monitor plan.kept number block inputs state (noted measure.form old)
    (block_guard monitor number ∷ waiting_guard monitor condition ∷ negation measure.free ∷ formulas.Row (minus measure.form (old_form measure.form)) ∷ formulas.Row (minus (old_form measure.form) measure.form) ∷ [])
    (where_open monitor measure condition (formulas.Row measure.form ∷ formulas.Row (more_by (net takes gives) (minus (old_form measure.form) measure.form)) ∷ [])) run counts.still hyps in
    let rest = opened monitor measure condition which (formulas.Row measure.form ∷ formulas.Row (more_by (net takes gives) (minus (old_form measure.form) measure.form)) ∷ []) next given (noted measure.form old) is plain now post in
    let parts = three_true (truth_of w (negation measure.free)) (truth_of w (formulas.Row measure.form)) (truth_of w (formulas.Row (more_by (net takes gives) (minus (old_form measure.form) measure.form))))
    (sym (truth_all w (negation measure.free ∷ formulas.Row measure.form ∷ formulas.Row (more_by (net takes gives) (minus (old_form measure.form) measure.form)) ∷ [])) ∙ rest) in
    let same_new = form_at next given (noted measure.form old) measure fields in
    let low : int_le new (pos 0) ≡ true = ap (λ (z : ℤ). int_le z (pos 0)) (sym same_new) ∙ sym (truth_row w measure.form) ∙ parts.second in
    let fell_is : value_of w (more_by (net takes gives) (minus (old_form measure.form) measure.form)) ≡ (old -ℤ new) +ℤ net takes gives =
    more_value w (minus (old_form measure.form) measure.form) (net takes gives)
    ∙ ap (λ (z : ℤ). z +ℤ net takes gives) (difference w (old_form measure.form) measure.form old new (old_value measure.form next given old) same_new) in
    let fell : int_le ((old -ℤ new) +ℤ net takes gives) (pos 0) ≡ true =
    ap (λ (z : ℤ). int_le z (pos 0)) (sym fell_is) ∙ sym (truth_row w (more_by (net takes gives) (minus (old_form measure.form) measure.form))) ∙ parts.third in
    record {
      bounded = ap (λ (test : Bool). condition_truth monitor next condition && test) (from_not (truth_of (valuation next no_inputs) measure.free) (sym (free_at next given (noted measure.form old) measure fields) ∙ parts.first)) ∙ and_false (condition_truth monitor next condition);
      many = at_slacks (slack monitor measure next condition) (1 + below_zero new) (slack monitor measure state condition) (1 + below_zero old) (one_if takes) (one_if gives)
          (slack_true monitor measure next condition now) (slack_true monitor measure state condition was) (falls old new takes gives low fell);
    }
  where
    nothing_left : (z : ℤ) → z -ℤ z ≡ pos 0
    nothing_left z = omega (arith, ints)

    at_most_zero : (v : Valuation) (form : Linear) → value_of v form ≡ pos 0
        → truth_of v (formulas.Row form) ≡ true
    at_most_zero v form is = truth_row v form ∙ ap (λ (z : ℤ). int_le z (pos 0)) is

    and_false : (b : Bool) → (b && false) ≡ false
    and_false true = refl
    and_false false = refl

    at_slacks : (a b c d takes gives : ℕ) → a ≡ b → c ≡ d → b + takes ≤ d + gives
        → a + takes ≤ c + gives
    at_slacks a b c d takes gives one two less = omega (arith, one, two, less)

-- the slack where the guard is false before and true after
fresh_counts : (monitor : MonitorParts) (plan : Plan) (condition : ℕ) (which : Condition)
    (measure : Measure) → IsCondition monitor condition which → reads_inputs which.guard ≡ false
    → ReadsFields measure → (number : ℕ) (block : Block)
    → CountsBlock monitor plan condition measure number block → (inputs : Inputs) (state : List Value)
    → MayRun monitor plan.kept number block inputs state
    → has_note (notes_at plan number) condition ≡ true → (block.condition == condition) ≡ false
    → condition_truth monitor state condition ≡ false
    → condition_truth monitor (after inputs block.body state).state condition ≡ true
    → LeavesCounted monitor plan measure condition number block state
    (after inputs block.body state).state
fresh_counts monitor plan condition which measure is plain fields number block counts inputs state run gives takes was now =
    let next = (after inputs block.body state).state in
    let given = inputs_after inputs (after inputs block.body state) in
    let new = value_of (valuation next no_inputs) measure.form in
    let v = joint state inputs no_inputs in
    let w = joint next given no_inputs in
    let hyps = pair_true (truth_of v (block_guard monitor number)) (truth_of v (negation (waiting_guard monitor condition)))
    (own_guard monitor plan.kept number block inputs state no_inputs run)
    (not_waiting_truth monitor condition which state inputs no_inputs is ∙ ap not (sym (truth_at monitor state no_inputs condition which is plain) ∙ was)) in
    let post = meets monitor plan.kept number block inputs state no_inputs (block_guard monitor number ∷ negation (waiting_guard monitor condition) ∷ [])
    (where_open monitor measure condition (formulas.Row (minus zero_form measure.form) ∷ [])) run (counts.fresh gives takes) hyps in
    let rest = opened monitor measure condition which (formulas.Row (minus zero_form measure.form) ∷ []) next given no_inputs is plain now post in
    let parts = two_true (truth_of w (negation measure.free)) (truth_of w (formulas.Row (minus zero_form measure.form)))
    (sym (truth_all w (negation measure.free ∷ formulas.Row (minus zero_form measure.form) ∷ [])) ∙ rest) in
    let turned : value_of w (minus zero_form measure.form) ≡ pos 0 -ℤ new = difference w zero_form measure.form (pos 0) new refl (form_at next given no_inputs measure fields) in
    let high : int_le (pos 0 -ℤ new) (pos 0) ≡ true = ap (λ (z : ℤ). int_le z (pos 0)) (sym turned) ∙ sym (truth_row w (minus zero_form measure.form)) ∙ parts.second in
    record {
      bounded = ap (λ (test : Bool). condition_truth monitor next condition && test) (from_not (truth_of (valuation next no_inputs) measure.free) (sym (free_at next given no_inputs measure fields) ∙ parts.first)) ∙ and_false (condition_truth monitor next condition);
      many = one_given (slack monitor measure next condition) (below_zero new) (slack monitor measure state condition) (one_if (block.condition == condition)) (one_if (has_note (notes_at plan number) condition))
          (slack_true monitor measure next condition now) (not_below new high) (ap one_if takes) (ap one_if gives);
    }
  where
    and_false : (b : Bool) → (b && false) ≡ false
    and_false true = refl
    and_false false = refl

    one_given : (a b c takes gives : ℕ) → a ≡ 1 + b → b ≡ 0 → takes ≡ 0 → gives ≡ 1 → a + takes ≤ c + gives
    one_given a b c takes gives one two three four = omega (arith, one, two, three, four)

-- where the guard is false after the block
none_counts : (monitor : MonitorParts) (plan : Plan) (condition : ℕ) (measure : Measure)
    (number : ℕ) (block : Block) (state next : List Value)
    → ((block.condition == condition) ≡ true → condition_truth monitor state condition ≡ true)
    → condition_truth monitor next condition ≡ false
    → LeavesCounted monitor plan measure condition number block state next
none_counts monitor plan condition measure number block state next own now = record {
  bounded = ap (λ (test : Bool). test && truth_of (valuation next no_inputs) measure.free) now;
  many = elim (cases_Bool (block.condition == condition)) [
    | inl takes ↦ one_taken (slack monitor measure next condition) (slack monitor measure state condition) (one_if (block.condition == condition)) (one_if (has_note (notes_at plan number) condition))
        (slack_false monitor measure next condition now) (some_may monitor measure state condition (own takes)) (ap one_if takes)
    | inr other ↦ none_taken (slack monitor measure next condition) (slack monitor measure state condition) (one_if (block.condition == condition)) (one_if (has_note (notes_at plan number) condition))
        (slack_false monitor measure next condition now) (ap one_if other)
  ];
}
  where
    one_taken : (a b takes gives : ℕ) → a ≡ 0 → 1 ≤ b → takes ≡ 1 → a + takes ≤ b + gives
    one_taken a b takes gives one two three = omega (arith, one, two, three)

    none_taken : (a b takes gives : ℕ) → a ≡ 0 → takes ≡ 0 → a + takes ≤ b + gives
    none_taken a b takes gives one two = omega (arith, one, two)

pub counting_applies : (monitor : MonitorParts) (plan : Plan) (condition : ℕ) (which : Condition)
    (measure : Measure) → IsCondition monitor condition which → reads_inputs which.guard ≡ false
    → ReadsFields measure → AreNoted monitor plan → CountsEach monitor plan condition measure
    → IsCounted monitor plan condition measure
counting_applies monitor plan condition which measure is plain fields are each number block block_is = elim (each number block block_is) [
  | inl cast ↦ inl cast
  | inr counts ↦ inr (λ inputs state run free. by counts inputs state run free)
]
  where
    own : (inputs : Inputs) (state : List Value) → MayRun monitor plan.kept number block inputs state
        → (block.condition == condition) ≡ true → condition_truth monitor state condition ≡ true
    own inputs state run takes =
        truth_at monitor state inputs condition which is plain
        ∙ ap (truth_of (valuation state inputs)) (guard_shared monitor number block condition which run.rule block_is is (eqb-true block.condition condition takes))
        ∙ run.guard

    last : condition ≤ length monitor.conditions
    last = omega (arith, is.numbered, slice_get_within monitor.conditions (condition - 1) which is.there)

    -- with no note a guard that was false stays so
    stays_false : (inputs : Inputs) (state : List Value)
        → MayRun monitor plan.kept number block inputs state
        → has_note (notes_at plan number) condition ≡ false
        → condition_truth monitor state condition ≡ false
        → condition_truth monitor (after inputs block.body state).state condition ≡ false
    stays_false inputs state run missing was =
        truth_at monitor (after inputs block.body state).state no_inputs condition which is plain
        ∙ none_needed_applies monitor plan.kept number block inputs state no_inputs condition which run is
        (are number condition (slice_get_within monitor.blocks number block block_is) is.numbered last missing)
        (sym (truth_at monitor state no_inputs condition which is plain) ∙ was)

    by : CountsBlock monitor plan condition measure number block → (inputs : Inputs)
        (state : List Value) → MayRun monitor plan.kept number block inputs state
        → is_free monitor measure state condition ≡ false
        → LeavesCounted monitor plan measure condition number block state
        (after inputs block.body state).state
    by counts inputs state run free = elim (cases_Bool (condition_truth monitor (after inputs block.body state).state condition)) [
      | inr gone ↦ none_counts monitor plan condition measure number block state (after inputs block.body state).state (own inputs state run) gone
      | inl now ↦ elim (cases_Bool (condition_truth monitor state condition)) [
        | inl was ↦ still_counts monitor plan condition which measure is plain fields number block counts inputs state run free was now
        | inr was ↦ elim (cases_Bool (has_note (notes_at plan number) condition)) [
          | inr missing ↦ absurd (not_both (condition_truth monitor (after inputs block.body state).state condition) now (stays_false inputs state run missing was))
          | inl gives ↦ elim (cases_Bool (block.condition == condition)) [
            | inl takes ↦ absurd (not_both (condition_truth monitor state condition) (own inputs state run takes) was)
            | inr takes ↦ fresh_counts monitor plan condition which measure is plain fields number block counts inputs state run gives takes was now
          ]
        ]
      ]
    ]

-- ---- plans

two_kinds : (o : Option CondKind) → o ≡ Some kinds.Broadcast → o ≡ Some kinds.Signal → ⊥
two_kinds o is also = cc

-- a condition of kind signal reads no inputs
reads_none : (monitor : MonitorParts) (plan : Plan) → IsLawfulByGuards monitor plan
    → (number : ℕ) (which : Condition) → IsCondition monitor number which
    → condition_kind plan number ≡ Some kinds.Signal → reads_inputs which.guard ≡ false
reads_none monitor plan lawful number which is signal = elim (cases_Bool (reads_inputs which.guard)) [
  | inl reads ↦ absurd (two_kinds (condition_kind plan number) (lawful.reading number which is reads).kind signal)
  | inr none ↦ none
]

pub guards_count : (monitor : MonitorParts) (plan : Plan) → IsLawfulByGuards monitor plan
    → IsLawfulByCounting monitor plan
guards_count monitor plan lawful = record {
  inductive = lawful.inductive;
  noted = lawful.noted;
  reading = lawful.reading;
  broadcasts = lawful.broadcasts;
  signals = λ number which is kind. elim (lawful.signals number which is kind) [
    | inl passed ↦ inl passed
    | inr counted ↦ inr (row_measure which.guard counted.row, counting_applies monitor plan number which (row_measure which.guard counted.row) is (reads_none monitor plan lawful number which is kind) counted.fields lawful.noted counted.each)
  ];
}
