-- Whether a plan fits, as the code asks.
use Rattle.std.proofs.Common.{◌≡◌, ◌↔◌, ◌-◌, ◌≤◌, Bool, true, false, IsTrue, not, ◌||◌, Option, Some, None, refl, sym, subst, ◌∙◌}
use Rattle.std.specs.Prelude.{slice_get, IsSomeAnd}
use Rattle.std.proofs.lemmas.Bool.{true≢false}
use Rattle.lang_monitor.specs.declared.monitor.Condition.{Condition}
use Rattle.lang_monitor.specs.MonitorParts.{MonitorParts, IsMonitor}
use Rattle.lang_monitor.specs.Conditions.{IsDescribed}
use Rattle.lang_monitor.specs.Inputs.{reads_inputs}
use Rattle.machine_events.specs.declared.plan.Note.{Note}
use Rattle.machine_events.specs.Plans.{FitsNote}
use Rattle.machine_events.proofs.Facing.{all_at}

by_tests : (tested reads : Bool) → IsTrue (not tested || not reads)
    ↔ (tested ≡ true → reads ≡ false)
by_tests true true = (λ held. absurd (true≢false (sym held)), λ never. absurd (true≢false (never refl)))
by_tests true false = (λ held same. refl, λ never. refl)
by_tests false reads = (λ held same. absurd (true≢false (sym same)), λ never. refl)

pub on_condition : (monitor : MonitorParts) (note : Note) (which : Condition) → IsMonitor monitor
    → 1 ≤ note.condition → slice_get monitor.conditions (note.condition - 1) ≡ Some which
    → IsTrue (not note.tested || not which.reads_inputs) ↔ FitsNote monitor note
on_condition monitor note which rule numbered is =
    let described = (all_at IsDescribed monitor.conditions (note.condition - 1) which is rule.described).inputs in
    let test = by_tests note.tested which.reads_inputs in (
      λ held. (
        numbered,
        subst (λ (one : Option Condition). IsSomeAnd one (λ which. note.tested ≡ true → reads_inputs which.guard ≡ false)) (sym is)
            (λ tested. sym described ∙ test.0 held tested),
      ),
      λ fits.
          let own = subst (λ (one : Option Condition). IsSomeAnd one (λ which. note.tested ≡ true → reads_inputs which.guard ≡ false)) is fits.1 in
          test.1 (λ tested. described ∙ own tested),
    )

pub no_condition : (monitor : MonitorParts) (note : Note)
    → slice_get monitor.conditions (note.condition - 1) ≡ None
    → IsTrue false ↔ FitsNote monitor note
no_condition monitor note is = (
  λ held. absurd (true≢false (sym held)),
  λ fits. absurd (subst (λ (one : Option Condition). IsSomeAnd one (λ which. note.tested ≡ true → reads_inputs which.guard ≡ false)) is fits.1),
)
