-- What may come after the body of a block: its notes, and the mutex is given back, in many orders.
use Rattle.std.specs.Prelude.{◌≡◌, ℕ, Bool, true, false, not, ◌&&◌, List, [], ◌∷◌, ◌++◌, All}
use Rattle.lang_monitor.specs.declared.monitor.Condition.{Condition}
use Rattle.lang_monitor.specs.MonitorParts.{MonitorParts}
use Rattle.lang_monitor.specs.Inputs.{reads_inputs}
use Rattle.machine_events.specs.declared.plan.Note.{Note}
use Rattle.machine_events.specs.Plans.{notes_at, has_note, has_broadcast, IsCondition}
use Rattle.machine_events.specs.Configurations.{System}
use Rattle.emit_code.specs.Code.{Op}
use Rattle.emit_code.specs.Code.Op.{Notify, Unlock, Release}

-- the notes that are made before the mutex is locked again
abbrev pub notes_to_come : List Op → List Note
notes_to_come (Notify note ∷ rest) = note ∷ notes_to_come rest
notes_to_come (Unlock ∷ rest) = notes_to_come rest
notes_to_come (Release notes ∷ rest) = notes ++ notes_to_come rest
notes_to_come ops = []

-- untested notes alone
abbrev pub is_free : List Op → Bool
is_free [] = true
is_free (Notify note ∷ rest) = not note.tested && is_free rest
is_free ops = false

-- notes, the mutex is given back, and then untested notes, which do not read the state
abbrev pub is_locked : List Op → Bool
is_locked (Notify note ∷ rest) = is_locked rest
is_locked (Unlock ∷ rest) = is_free rest
is_locked (Release notes ∷ rest) = is_free rest
is_locked ops = false

-- a tested note can be tested: its condition's guard reads no inputs
abbrev pub IsTestable : MonitorParts → Note → Type 0
IsTestable monitor note =
    note.tested ≡ true → (which : Condition) → IsCondition monitor note.condition which
    → reads_inputs which.guard ≡ false

-- these notes have all of a block's
pub record HasAllNotes (system : System) (block : ℕ) (notes : List Note) : Type 0 where
  pub noted : (condition : ℕ) → has_note (notes_at system.plan block) condition ≡ true
      → has_note notes condition ≡ true
  pub broadcast : (condition : ℕ) → has_broadcast (notes_at system.plan block) condition ≡ true
      → has_broadcast notes condition ≡ true

-- after each body the mutex is given back once, and all notes of the block are made, in any order,
-- before or after that
pub record IsTold (system : System) (told : ℕ → List Op) : Type 0 where
  pub shape : (block : ℕ) → is_locked (told block) ≡ true
  pub notes : (block : ℕ) → HasAllNotes system block (notes_to_come (told block))
  pub testable : (block : ℕ) → All (IsTestable system.monitor) (notes_to_come (told block))
