-- A printed test is as true as its block's guard, and as its condition's.
use Rattle.std.proofs.Common.{◌≡◌, ◌≤◌, ℕ, zero, suc, ◌-◌, Bool, true, false, List, [], ◌∷◌, Option, Some, None, refl, sym, ap, subst, ◌∙◌}
use Rattle.std.specs.Prelude.{slice_get, IsSomeAnd}
use Rattle.std.specs.List.{All}
use Rattle.std.proofs.lemmas.List.Elements.{All-head, All-tail}
use Rattle.lang_tree.specs.declared.tree.MonitorTree.{MonitorTree}
use Rattle.logic_linear.specs.declared.formula.Formula.{Formula}
use Rattle.logic_linear.specs.Truth.{truth_of}
use Rattle.lang_base.specs.declared.value.Value.{Value}
use Rattle.lang_forms.specs.Plain.{truth_in}
use Rattle.lang_rules.specs.Rules.{faults_of}
use Rattle.lang_monitor.specs.declared.monitor.Block.{Block}
use Rattle.lang_monitor.specs.declared.monitor.Condition.{Condition}
use Rattle.lang_monitor.specs.Conditions.{HasCondition}
use Rattle.lang_monitor.specs.MonitorParts.{MonitorParts}
use Rattle.lang_monitor.specs.Bodies.{Inputs, no_inputs, valuation}
use Rattle.lang_monitor.specs.Inputs.{reads_inputs}
use Rattle.lang_types.specs.Typed.{IsTyped, PlacedBlock, blocks_from}
use Rattle.lang_types.proofs.ConditionClasses.{typed_conditions}
use Rattle.lang_types.proofs.KeptMeanings.{guards_keep}
use Rattle.machine_implicit.specs.Steps.{block_truth, condition_guard_truth}
use Rattle.machine_events.proofs.Valuations.{without_inputs}
use Rattle.emit_numbers.specs.Calls.{entries}
use Rattle.emit_numbers.specs.Laws.{PrintedTestsHold, SharedTestsHold, scope_in}
use Rattle.emit_numbers.specs.Tests.{printed_test}
use Rattle.emit_numbers.proofs.Worked.{worked_worth}

-- a block of a checked tree, at its place
record IsChecked (tree : MonitorTree) (monitor : MonitorParts) (index : ℕ) (placed : PlacedBlock) (block : Block) : Type 0 where
  none : faults_of tree ≡ []
  typed : IsTyped tree monitor
  here : slice_get (blocks_from 0 tree.methods) index ≡ Some placed
  there : slice_get monitor.blocks index ≡ Some block

module _ (tree : MonitorTree) (monitor : MonitorParts) (index : ℕ) (placed : PlacedBlock) (block : Block) (state : List Value) (it : IsChecked tree monitor index placed block) where
  -- with these inputs, read or not
  taking : (inputs : Inputs) → printed_test tree placed true state inputs ≡ truth_of (valuation state inputs) block.guard
  taking inputs =
      ap truth_in (worked_worth (entries (scope_in tree placed false)) (valuation state inputs) placed.block.guard)
      ∙ sym (guards_keep tree monitor index placed block (valuation state inputs) it.none it.typed it.here it.there)

  -- without any, where none is read
  test_alone : (inputs : Inputs) → reads_inputs block.guard ≡ false → printed_test tree placed false state inputs ≡ truth_of (valuation state inputs) block.guard
  test_alone inputs unread = taking no_inputs ∙ without_inputs state no_inputs inputs block.guard unread

  test_by : (inputs : Inputs) (takes : Bool) → (takes ≡ false → reads_inputs block.guard ≡ false) → printed_test tree placed takes state inputs ≡ truth_of (valuation state inputs) block.guard
  test_by inputs true unread = taking inputs
  test_by inputs false unread = test_alone inputs (unread refl)

pub tests_hold : PrintedTestsHold
tests_hold = λ tree monitor index placed block takes state inputs none typed here there unread.
    test_by tree monitor index placed block state (record { none = none; typed = typed; here = here; there = there }) inputs takes unread
    ∙ sym (ap (block_truth state inputs) there)

-- ---- conditions

all_at : {X : Type 0} (P : X → Type 0) (xs : List X) (index : ℕ) (x : X) → All P xs → slice_get xs index ≡ Some x → P x
all_at P [] index x each is = absurd cc
all_at P (first ∷ xs) zero x each is = let same : first ≡ x = cc in subst P same (All-head P first xs each)
all_at P (first ∷ xs) (suc index) x each is = all_at P xs index x (All-tail P first xs each) is

conditioned : (tree : MonitorTree) (monitor : MonitorParts) (index : ℕ) (block : Block) → IsTyped tree monitor → slice_get monitor.blocks index ≡ Some block → HasCondition monitor.conditions block
conditioned tree monitor index block typed there =
    all_at (HasCondition monitor.conditions) monitor.blocks index block
    (typed_conditions [] (blocks_from 0 tree.methods) monitor.blocks monitor.conditions typed.conditions) there

condition_is : (state : List Value) (which : Option Condition) (guard : Formula) → IsSomeAnd which (λ one. one.guard ≡ guard) → condition_guard_truth state which ≡ truth_of (valuation state no_inputs) guard
condition_is state None guard has = absurd has
condition_is state (Some one) guard has = ap (truth_of (valuation state no_inputs)) has

same_guard : (which : Option Condition) (guard other : Formula) → IsSomeAnd which (λ one. one.guard ≡ guard) → IsSomeAnd which (λ one. one.guard ≡ other) → guard ≡ other
same_guard None guard other has also = absurd has
same_guard (Some one) guard other has also = sym has ∙ also

pub shared_tests_hold : SharedTestsHold
shared_tests_hold = λ tree monitor index placed block other waiting state inputs none typed here there waits some same unread.
    let it : IsChecked tree monitor index placed block = record { none = none; typed = typed; here = here; there = there } in
    let own = conditioned tree monitor index block typed there some in
    let others = conditioned tree monitor other waiting typed waits (subst (λ (number : ℕ). 1 ≤ number) (sym same) some) in
    let theirs = subst (λ (number : ℕ). IsSomeAnd (slice_get monitor.conditions (number - 1)) (λ one. one.guard ≡ waiting.guard)) same others in
    let which = slice_get monitor.conditions (block.condition - 1) in
    let alone = test_alone tree monitor index placed block state it in (
      alone no_inputs unread ∙ sym (condition_is state which block.guard own),
      alone inputs unread ∙ ap (truth_of (valuation state inputs)) (same_guard which block.guard waiting.guard own theirs) ∙ sym (ap (block_truth state inputs) waits),
    )
