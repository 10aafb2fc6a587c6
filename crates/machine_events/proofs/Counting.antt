-- Conditions of kind signal are counted under each plan that is lawful by counting, as under each
-- lawful one.
use Rattle.std.proofs.Common.{◌≡◌, ◌==◌, ◌⊎◌, ℕ, ◌+◌, ◌-◌, ◌≤◌, Bool, true, false, cond, ◌&&◌, List, [], Some, refl, sym, ap, subst, ◌∙◌, arith, inl, inr}
use Rattle.std.specs.Prelude.{slice_get, length}
use Rattle.std.proofs.lemmas.Option.{slice_get_within, same_Some}
use Rattle.std.proofs.lemmas.Bool.{eqb-true}
use Rattle.logic_linear.specs.Truth.{value_of, truth_of}
use Rattle.lang_base.specs.declared.value.Value.{Value}
use Rattle.lang_monitor.specs.declared.monitor.Block.{Block}
use Rattle.lang_monitor.specs.declared.monitor.Condition.{Condition}
use Rattle.lang_monitor.specs.MonitorParts.{MonitorParts, IsMonitor}
use Rattle.lang_monitor.specs.Triples.{OneEnough}
use Rattle.lang_monitor.specs.Inputs.{reads_inputs}
use Rattle.lang_monitor.specs.Bodies.{Inputs, no_inputs, valuation, after}
use Rattle.machine_implicit.specs.Steps.{condition_truth, condition_guard_truth}
use Rattle.machine_events.specs.declared.plan.CondKind.TheVariants as kinds
use Rattle.machine_events.specs.declared.plan.Plan.{Plan}
use Rattle.machine_events.specs.Plans.{notes_at, condition_kind, has_note, IsCondition, IsLawful}
use Rattle.machine_events.specs.Running.{MayRun}
use Rattle.machine_events.specs.Counts.{Measure, below_zero, slack, is_free, one_passes, one_if, IsCounted, IsPassedOn, IsLawfulByCounting}
use Rattle.machine_events.specs.Configurations.{System, Standing}
use Rattle.machine_events.specs.Pending.{sees_to, SomeStands, seeing, IsEnough}
use Rattle.machine_events.specs.Laws.{HasLawfulPlan, HasCountingPlan}
use Rattle.machine_events.proofs.Places.{truth_any}
use Rattle.machine_events.proofs.Facing.{own_guard}
use Rattle.machine_events.proofs.Seeing.{chain, some_counted}
use Rattle.machine_events.proofs.Valuations.{without_inputs}
use Rattle.machine_events.proofs.Covered.{not_both, reads_not}
use Rattle.machine_events.proofs.Applying.{none_needed_applies, one_enough_applies}

-- ---- conditions that read no inputs

pub truth_at : (monitor : MonitorParts) (state : List Value) (inputs : Inputs) (condition : ℕ)
    (which : Condition) → IsCondition monitor condition which → reads_inputs which.guard ≡ false
    → condition_truth monitor state condition ≡ truth_of (valuation state inputs) which.guard
truth_at monitor state inputs condition which is none =
    ap (condition_guard_truth state) is.there ∙ without_inputs state no_inputs inputs which.guard none

-- a block of a condition has its guard
pub guard_shared : (monitor : MonitorParts) (number : ℕ) (block : Block) (condition : ℕ)
    (which : Condition) → IsMonitor monitor → slice_get monitor.blocks number ≡ Some block
    → IsCondition monitor condition which → block.condition ≡ condition
    → which.guard ≡ block.guard
guard_shared monitor number block condition which rule block_is which_is same =
    let theirs = own_guard monitor number block rule block_is (subst (λ (one : ℕ). 1 ≤ one) (sym same) which_is.numbered) in
    ap (λ (one : Condition). one.guard) (same_Some which theirs.0 (sym which_is.there ∙ ap (λ (one : ℕ). slice_get monitor.conditions (one - 1)) (sym same) ∙ theirs.1.is.there)) ∙ theirs.1.guard

-- ---- a lawful plan is lawful by counting

abbrev OneEnoughOrNoted : MonitorParts → Plan → ℕ → ℕ → Type 0
OneEnoughOrNoted monitor plan condition number = OneEnough monitor plan.kept condition number ⊎ (has_note (notes_at plan number) condition ≡ true)

pub lawful_by_counting : (monitor : MonitorParts) (plan : Plan) → IsLawful monitor plan
    → IsLawfulByCounting monitor plan
lawful_by_counting monitor plan lawful = record {
  inductive = lawful.inductive;
  noted = lawful.noted;
  reading = lawful.reading;
  broadcasts = lawful.broadcasts;
  signals = λ condition which which_is kind. inl (λ number block block_is same.
      subst (λ (one : ℕ). OneEnoughOrNoted monitor plan one number) same
      (lawful.signals number block block_is (subst (λ (one : ℕ). 1 ≤ one) (sym same) which_is.numbered) (subst (λ (one : ℕ). condition_kind plan one ≡ Some kinds.Signal) (sym same) kind)));
}

pub counting_plan : (system : System) → HasLawfulPlan system → HasCountingPlan system
counting_plan system set = record { is = set.is; lawful = lawful_by_counting system.monitor system.plan set.lawful }

-- ---- a slack in a state

pub slack_true : (monitor : MonitorParts) (measure : Measure) (state : List Value) (condition : ℕ)
    → condition_truth monitor state condition ≡ true
    → slack monitor measure state condition
    ≡ 1 + below_zero (value_of (valuation state no_inputs) measure.form)
slack_true monitor measure state condition is = ap (λ (test : Bool). cond test (1 + below_zero (value_of (valuation state no_inputs) measure.form)) 0) is

pub slack_false : (monitor : MonitorParts) (measure : Measure) (state : List Value) (condition : ℕ)
    → condition_truth monitor state condition ≡ false
    → slack monitor measure state condition ≡ 0
slack_false monitor measure state condition is = ap (λ (test : Bool). cond test (1 + below_zero (value_of (valuation state no_inputs) measure.form)) 0) is

pub some_may : (monitor : MonitorParts) (measure : Measure) (state : List Value) (condition : ℕ)
    → condition_truth monitor state condition ≡ true → 1 ≤ slack monitor measure state condition
some_may monitor measure state condition is =
    above (slack monitor measure state condition) (below_zero (value_of (valuation state no_inputs) measure.form)) (slack_true monitor measure state condition is)
  where
    above : (a b : ℕ) → a ≡ 1 + b → 1 ≤ a
    above a b is = omega (arith, is)

-- ---- where one client may pass

one_slack : (monitor : MonitorParts) (state : List Value) (condition : ℕ)
    → slack monitor one_passes state condition ≡ one_if (condition_truth monitor state condition)
one_slack monitor state condition = by (condition_truth monitor state condition)
  where
    by : (test : Bool) → cond test (1 + below_zero (value_of (valuation state no_inputs) one_passes.form)) 0 ≡ one_if test
    by true = refl
    by false = refl

never_free : (monitor : MonitorParts) (state : List Value) (condition : ℕ)
    → is_free monitor one_passes state condition ≡ false
never_free monitor state condition = by (condition_truth monitor state condition)
  where
    by : (test : Bool) → (test && truth_of (valuation state no_inputs) one_passes.free) ≡ false
    by true = truth_any (valuation state no_inputs) []
    by false = refl

-- numbers of one block: what it takes and gives, and what was there before and after
one_leaves : (before after takes gives : Bool) → (takes ≡ true → before ≡ true)
    → (gives ≡ false → before ≡ false → after ≡ false)
    → (gives ≡ false → takes ≡ true → after ≡ false)
    → one_if after + one_if takes ≤ one_if before + one_if gives
one_leaves true true true true runs none one = omega arith
one_leaves true true true false runs none one = absurd (cc (one refl refl))
one_leaves true true false true runs none one = omega arith
one_leaves true true false false runs none one = omega arith
one_leaves true false takes true runs none one = small takes
  where
    small : (takes : Bool) → 0 + one_if takes ≤ 1 + 1
    small true = omega arith
    small false = omega arith
one_leaves true false takes false runs none one = small takes
  where
    small : (takes : Bool) → 0 + one_if takes ≤ 1 + 0
    small true = omega arith
    small false = omega arith
one_leaves false after true gives runs none one = absurd (cc (runs refl))
one_leaves false true false true runs none one = omega arith
one_leaves false false false gives runs none one = small gives
  where
    small : (gives : Bool) → 0 + 0 ≤ 0 + one_if gives
    small true = omega arith
    small false = omega arith
one_leaves false true false false runs none one = absurd (cc (none refl refl))

by_note : {P : Type 0} {test : Bool} → P ⊎ (test ≡ true) → test ≡ false → P
by_note (inl holds) none = holds
by_note {test = test} (inr noted) none = absurd (not_both test noted none)

passed_on_counts : (monitor : MonitorParts) (plan : Plan) → IsLawfulByCounting monitor plan
    → (condition : ℕ) (which : Condition) → IsCondition monitor condition which
    → reads_inputs which.guard ≡ false → IsPassedOn monitor plan condition
    → IsCounted monitor plan condition one_passes
passed_on_counts monitor plan lawful condition which which_is plain passed number block block_is =
    inr (λ inputs state run free. record {
      bounded = never_free monitor (after inputs block.body state).state condition;
      many = at_slack (slack monitor one_passes (after inputs block.body state).state condition) (one_if (condition_truth monitor (after inputs block.body state).state condition)) (slack monitor one_passes state condition) (one_if (condition_truth monitor state condition))
          (one_if (block.condition == condition)) (one_if (has_note (notes_at plan number) condition)) (one_slack monitor (after inputs block.body state).state condition) (one_slack monitor state condition)
          (one_leaves (condition_truth monitor state condition) (condition_truth monitor (after inputs block.body state).state condition) (block.condition == condition) (has_note (notes_at plan number) condition)
          (λ own. own_true inputs state run (eqb-true block.condition condition own))
          (λ missing was. truth_of_own inputs (after inputs block.body state).state
          ∙ none_needed_applies monitor plan.kept number block inputs state no_inputs condition which run which_is
          (lawful.noted number condition (slice_get_within monitor.blocks number block block_is) which_is.numbered last missing)
          (sym (truth_of_own inputs state) ∙ was))
          (λ missing own. truth_of_own inputs (after inputs block.body state).state
          ∙ one_enough_applies monitor plan.kept number block inputs state no_inputs condition which run which_is
          (by_note (passed number block block_is (eqb-true block.condition condition own)) missing)
          (sym (truth_of_own inputs state) ∙ own_true inputs state run (eqb-true block.condition condition own))));
    })
  where
    last : condition ≤ length monitor.conditions
    last = omega (arith, which_is.numbered, slice_get_within monitor.conditions (condition - 1) which which_is.there)

    truth_of_own : (inputs : Inputs) (state : List Value)
        → condition_truth monitor state condition ≡ truth_of (valuation state no_inputs) which.guard
    truth_of_own inputs state = truth_at monitor state no_inputs condition which which_is plain

    -- the guard of a block of the condition is the condition's
    own_true : (inputs : Inputs) (state : List Value) → MayRun monitor plan.kept number block inputs state
        → block.condition ≡ condition → condition_truth monitor state condition ≡ true
    own_true inputs state run same =
        truth_at monitor state inputs condition which which_is plain
        ∙ ap (truth_of (valuation state inputs)) (guard_shared monitor number block condition which run.rule block_is which_is same)
        ∙ run.guard

    at_slack : (a b c d takes gives : ℕ) → a ≡ b → c ≡ d → b + takes ≤ d + gives → a + takes ≤ c + gives
    at_slack a b c d takes gives one two less = omega (arith, one, two, less)

-- ---- a condition of kind signal is counted

pub measure_of : (system : System) → HasCountingPlan system → (condition : ℕ) (which : Condition)
    → IsCondition system.monitor condition which
    → condition_kind system.plan condition ≡ Some kinds.Signal
    → (measure : Measure) × IsCounted system.monitor system.plan condition measure
measure_of system set condition which is kind = elim (set.lawful.signals condition which is kind) [
  | inl passed ↦ (one_passes, passed_on_counts system.monitor system.plan set.lawful condition which is (reads_not system set condition which is kind) passed)
  | inr counted ↦ counted
]

-- where a client may pass one sees to the condition
pub someone_sees : (system : System) (state : List Value) (standings : List Standing)
    (condition : ℕ) (measure : Measure) → IsEnough system state standings condition measure
    → condition_truth system.monitor state condition ≡ true
    → SomeStands standings (λ other others_place stage. sees_to system other others_place stage
    condition)
someone_sees system state standings condition measure enough holds =
    let one = some_counted (λ client standing. sees_to system client standing.place standing.stage condition) standings 0
    (chain 1 (slack system.monitor measure state condition) (seeing system condition standings) (some_may system.monitor measure state condition holds) enough.many) in
    let same : one.1 ≡ one.0 = omega (arith, one.4) in
    (one.0, one.2.place, one.2.stage, one.3, ap (λ (who : ℕ). sees_to system who one.2.place one.2.stage condition) (sym same) ∙ one.5)
