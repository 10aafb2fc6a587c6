-- A plan of the monitor that is lawful fits it.
use Rattle.std.proofs.Common.{◌≡◌, ℕ, ◌-◌, ◌<◌, Bool, true, false, List, [], ◌∷◌, length, Option, refl, sym, subst, ◌∙◌, arith, inl, inr, true≢false}
use Rattle.std.specs.Prelude.{All, IsSomeAnd, get_or}
use Rattle.std.proofs.lemmas.List.Elements.{All-nil, All-cons, All-head, All-tail, All-get_or, All-from_get_or}
use Rattle.std.proofs.lemmas.Option.{slice_get_cases, unwrap_or-slice_get}
use Rattle.lang_monitor.specs.declared.monitor.Condition.{Condition}
use Rattle.lang_monitor.specs.Inputs.{reads_inputs}
use Rattle.lang_monitor.specs.MonitorParts.{MonitorParts}
use Rattle.machine_events.specs.declared.plan.Note.{Note}
use Rattle.machine_events.specs.declared.plan.Plan.{Plan}
use Rattle.machine_events.specs.Plans.{FitsNote, FitsNotes, FitsPlan, IsCondition, IsUntestedBroadcast, WakesAll}
use Rattle.report_verdict.specs.Reports.{AreNotesOf, IsOnCondition, IsPlanOf}

-- a note on the condition, if it is on this one, is an untested broadcast
abbrev IsUntestedOn : ℕ → Note → Type 0
IsUntestedOn number note = note.condition ≡ number → IsUntestedBroadcast note

-- notes on conditions that read inputs are untested
abbrev AreUntested : MonitorParts → List Note → Type 0
AreUntested monitor notes =
    (number : ℕ) (condition : Condition) → IsCondition monitor number condition → reads_inputs condition.guard ≡ true
    → All (IsUntestedOn number) notes

no_test : (note : Note) (reads : Bool) → note.tested ≡ true → (reads ≡ true → IsUntestedBroadcast note) → reads ≡ false
no_test note false tested untested = refl
no_test note true tested untested = absurd (true≢false (sym tested ∙ (untested refl).untested))

fits_note : (monitor : MonitorParts) (note : Note) → IsOnCondition monitor note
    → ((condition : Condition) → IsCondition monitor note.condition condition → reads_inputs condition.guard ≡ true → IsUntestedBroadcast note) → FitsNote monitor note
fits_note monitor note on untested = (
  on.0,
  elim ((slice_get_cases monitor.conditions (note.condition - 1)).1) [
    | inl found ↦ subst (λ (o : Option Condition). IsSomeAnd o (λ which. note.tested ≡ true → reads_inputs which.guard ≡ false)) (sym found.2)
        (λ tested. no_test note (reads_inputs found.0.guard) tested (untested found.0 (record { numbered = on.0; there = found.2 })))
    | inr past ↦ absurd (omega (arith, past.0, on.0, on.1))
  ],
)

fits_each : (monitor : MonitorParts) (notes : List Note) → All (IsOnCondition monitor) notes → AreUntested monitor notes → All (FitsNote monitor) notes
fits_each monitor [] on untested = All-nil (FitsNote monitor)
fits_each monitor (note ∷ notes) on untested = All-cons (FitsNote monitor) note notes
    (fits_note monitor note (All-head (IsOnCondition monitor) note notes on) (λ condition is reads. All-head (IsUntestedOn note.condition) note notes (untested note.condition condition is reads) refl))
    (fits_each monitor notes (All-tail (IsOnCondition monitor) note notes on) (λ number condition is reads. All-tail (IsUntestedOn number) note notes (untested number condition is reads)))

-- a condition that reads inputs has only untested broadcasts
abbrev pub IsReading : MonitorParts → Plan → Type 0
IsReading monitor plan =
    (number : ℕ) (condition : Condition) → IsCondition monitor number condition → reads_inputs condition.guard ≡ true → WakesAll plan number

fits_at : (monitor : MonitorParts) (plan : Plan) → IsPlanOf monitor plan → IsReading monitor plan → (block : ℕ) → block < length plan.notes → FitsNotes monitor (get_or plan.notes block [])
fits_at monitor plan is reading block inside =
    let own : AreNotesOf monitor (get_or plan.notes block []) = All-get_or (AreNotesOf monitor) plan.notes block [] inside is.each in
    record {
      rising = own.rising;
      each = fits_each monitor (get_or plan.notes block []) own.each
          (λ number condition there reads. subst (λ (notes : List Note). All (IsUntestedOn number) notes) (unwrap_or-slice_get plan.notes block []) ((reading number condition there reads).notes block));
    }

pub reading_fits : (monitor : MonitorParts) (plan : Plan) → IsPlanOf monitor plan → IsReading monitor plan → FitsPlan monitor plan
reading_fits monitor plan is reading = record {
  kept = is.kept;
  kinds = is.kinds;
  notes = is.notes;
  each = All-from_get_or (FitsNotes monitor) plan.notes [] (fits_at monitor plan is reading);
}
