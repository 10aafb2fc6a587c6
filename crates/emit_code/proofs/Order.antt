-- The order that is printed is an order of a block's notes.
use Rattle.std.proofs.Common.{◌≡◌, ℕ, ◌-◌, Bool, true, false, ◌&&◌, List, [], ◌∷◌, ◌++◌, Option, Some, None, refl, sym, subst, ◌∙◌, inl, inr}
use Rattle.std.specs.Prelude.{All, slice_get, ◌==◌, unwrap_or}
use Rattle.std.specs.List.{list_any}
use Rattle.std.proofs.lemmas.Option.{same_Some}
use Rattle.std.proofs.lemmas.Bool.{or_cases, or_left, or_right}
use Rattle.std.proofs.lemmas.List.Elements.{All-nil, All-cons, All-head, All-tail}
use Rattle.lang_monitor.specs.declared.monitor.Condition.{Condition}
use Rattle.lang_monitor.specs.MonitorParts.{MonitorParts}
use Rattle.lang_monitor.specs.Inputs.{reads_inputs}
use Rattle.machine_implicit.proofs.Fitting.{is_some_and, all_at}
use Rattle.machine_events.specs.declared.plan.Note.{Note}
use Rattle.machine_events.specs.Plans.{notes_at, FitsNote, FitsNotes}
use Rattle.machine_events.specs.Configurations.{System}
use Rattle.machine_events.specs.Pending.{IsSystem}
use Rattle.emit_code.specs.Code.{late_order}
use Rattle.emit_code.specs.Orders.{IsTestable, IsTold}

-- ---- every note is there

all_more : (t : Note → Bool) (notes : List Note) → list_any t notes ≡ true → list_any t (notes ++ []) ≡ true
all_more t [] is = is
all_more t (note ∷ notes) is = elim (or_cases (t note) (list_any t notes) is) [
  | inl here ↦ or_left (t note) (list_any t (notes ++ [])) here
  | inr later ↦ or_right (t note) (list_any t (notes ++ [])) (all_more t notes later)
]

all_more_plain : (P : Note → Type 0) (notes : List Note) → All P notes → All P (notes ++ [])
all_more_plain P [] all = all
all_more_plain P (note ∷ notes) all = All-cons P note (notes ++ []) (All-head P note notes all) (all_more_plain P notes (All-tail P note notes all))

-- ---- plain notes

fitting_plain : (monitor : MonitorParts) (note : Note) → FitsNote monitor note → IsTestable monitor note
fitting_plain monitor note fits tested which is =
    let found = is_some_and (slice_get monitor.conditions (note.condition - 1)) (λ (one : Condition). note.tested ≡ true → reads_inputs one.guard ≡ false) fits.1 in
    subst (λ (one : Condition). reads_inputs one.guard ≡ false) (same_Some found.0 which (sym found.1 ∙ is.there)) (found.2 tested)

all_plain : (monitor : MonitorParts) (notes : List Note) → All (FitsNote monitor) notes → All (IsTestable monitor) notes
all_plain monitor [] all = All-nil (IsTestable monitor)
all_plain monitor (note ∷ notes) all =
    All-cons (IsTestable monitor) note notes (fitting_plain monitor note (All-head (FitsNote monitor) note notes all)) (all_plain monitor notes (All-tail (FitsNote monitor) note notes all))

notes_plain : (system : System) (block : ℕ) (found : Option (List Note)) → slice_get system.plan.notes block ≡ found → IsSystem system → All (IsTestable system.monitor) (unwrap_or found [])
notes_plain system block None is set = All-nil (IsTestable system.monitor)
notes_plain system block (Some notes) is set = all_plain system.monitor notes (all_at (FitsNotes system.monitor) system.plan.notes block notes is set.plan.each).each

pub late_is_told : (system : System) → IsSystem system → IsTold system (late_order system.plan)
late_is_told system set = record {
  shape = λ block. refl;
  notes = λ block. record {
    noted = λ condition is. all_more (λ note. note.condition == condition) (notes_at system.plan block) is;
    broadcast = λ condition is. all_more (λ note. note.condition == condition && note.all) (notes_at system.plan block) is;
  };
  testable = λ block. all_more_plain (IsTestable system.monitor) (notes_at system.plan block) (notes_plain system block (slice_get system.plan.notes block) refl set);
}
