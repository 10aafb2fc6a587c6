-- The guard of a condition at the places of a waiting client's inputs.
use Rattle.std.proofs.Common.{◌≡◌, ℕ, zero, suc, ◌-◌, ◌<◌, ◌≤◌, true, List, [], ◌∷◌, length, Some, sym, arith, ap, refl, ◌∙◌}
use Rattle.std.specs.Prelude.{slice_get, slice_index_or, IfOk, IsTrue, Result, Ok, Err}
use Rattle.std.specs.declared.alloc.AllocError.{AllocError}
use Rattle.logic_linear.specs.declared.formula.Formula.{Formula}
use Rattle.logic_linear.specs.Negation.{negation, can_negate}
use Rattle.lang_monitor.specs.declared.monitor.Condition.{Condition}
use Rattle.lang_monitor.specs.MonitorParts.{MonitorParts, IsMonitor}
use Rattle.lang_monitor.specs.Queries.{for_waiting, guard_in_condition, waiting_guard}
use Rattle.logic_wp.specs.inner.Movable.{is_movable}
use Rattle.logic_wp.proofs.Fitting.{GuardFits, condition_fits}
use Rattle.logic_wp.proofs.Guards.{guard_moves, moved_negates, negated_negates}

at_index : {X : Type 0} (xs : List X) (i : ℕ) (x : X) → i < length xs → slice_get xs i ≡ Some (slice_index_or xs i x)
at_index [] i x h = absurd (omega arith)
at_index (first ∷ xs) zero x h = refl
at_index (first ∷ xs) (suc i) x h = at_index xs i x (omega arith)

-- the condition that a read finds is the one of its number
pub condition_at : (monitor : MonitorParts) (number : ℕ) (conditions : List Condition) (found : Condition) → conditions ≡ monitor.conditions → 1 ≤ number → number ≤ length monitor.conditions
    → slice_get monitor.conditions (number - 1) ≡ Some (slice_index_or conditions (number - 1) found)
condition_at monitor number conditions found same first last =
    at_index monitor.conditions (number - 1) found (omega arith) ∙ ap (λ xs. Some (slice_index_or xs (number - 1) found)) (sym same)

fits : (monitor : MonitorParts) (number : ℕ) (conditions : List Condition) (found : Condition) → IsMonitor monitor → conditions ≡ monitor.conditions → 1 ≤ number → number ≤ length monitor.conditions
    → GuardFits (slice_index_or conditions (number - 1) found).guard
fits monitor number conditions found rule same first last =
    condition_fits monitor (number - 1) (slice_index_or conditions (number - 1) found) rule (condition_at monitor number conditions found same first last)

pub moves : (monitor : MonitorParts) (number : ℕ) (conditions : List Condition) (found : Condition) → IsMonitor monitor → conditions ≡ monitor.conditions → 1 ≤ number → number ≤ length monitor.conditions
    → is_movable (slice_index_or conditions (number - 1) found).guard ≡ true
moves monitor number conditions found rule same first last =
    let guard = fits monitor number conditions found rule same first last in guard_moves guard.places _ guard.few guard.fits

pub guard_made : (monitor : MonitorParts) (number : ℕ) (conditions : List Condition) (found : Condition) (made : Result Formula AllocError) → conditions ≡ monitor.conditions → 1 ≤ number → number ≤ length monitor.conditions
    → IfOk made (λ moved. moved ≡ for_waiting (slice_index_or conditions (number - 1) found).guard) → IfOk made (λ guard. guard ≡ waiting_guard monitor number)
guard_made monitor number conditions found (Ok made) same first last is =
    is ∙ ap (λ held. for_waiting (guard_in_condition held)) (sym (condition_at monitor number conditions found same first last))
guard_made monitor number conditions found (Err error) same first last is = tt

pub guard_negates : (monitor : MonitorParts) (number : ℕ) (conditions : List Condition) (found : Condition) (made : Result Formula AllocError) → IsMonitor monitor → conditions ≡ monitor.conditions → 1 ≤ number → number ≤ length monitor.conditions
    → IfOk made (λ moved. moved ≡ for_waiting (slice_index_or conditions (number - 1) found).guard) → IfOk made (λ guard. IsTrue (can_negate guard))
guard_negates monitor number conditions found (Ok made) rule same first last is =
    let guard = fits monitor number conditions found rule same first last in ap can_negate is ∙ moved_negates guard.places _ guard.fits
guard_negates monitor number conditions found (Err error) rule same first last is = tt

pub guard_negates_twice : (monitor : MonitorParts) (number : ℕ) (conditions : List Condition) (found : Condition) (made : Result Formula AllocError) → IsMonitor monitor → conditions ≡ monitor.conditions → 1 ≤ number → number ≤ length monitor.conditions
    → IfOk made (λ moved. moved ≡ for_waiting (slice_index_or conditions (number - 1) found).guard) → IfOk made (λ guard. IsTrue (can_negate (negation guard)))
guard_negates_twice monitor number conditions found (Ok made) rule same first last is =
    let guard = fits monitor number conditions found rule same first last in ap (λ (formula : Formula). can_negate (negation formula)) is ∙ negated_negates guard.places _ guard.fits
guard_negates_twice monitor number conditions found (Err error) rule same first last is = tt
