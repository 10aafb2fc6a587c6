-- For private contracts: whether kinds and notes suit the conditions.
use Rattle.std.specs.Prelude.{◌≡◌, ◌-◌, Bool, true, false, not, ◌&&◌, ◌||◌, List, All, Option, Some}
use Rattle.std.specs.Prelude.{None, slice_get}
use Rattle.std.specs.List.{zip}
use Rattle.lang_monitor.specs.declared.monitor.Condition.{Condition}
use Rattle.lang_monitor.specs.MonitorParts.{MonitorParts}
use Rattle.machine_events.specs.declared.plan.CondKind.{CondKind}
use Rattle.machine_events.specs.declared.plan.CondKind.TheVariants as kinds
use Rattle.machine_events.specs.declared.plan.Note.{Note}
use Rattle.plan_claims.specs.Backing.{reads_none}

abbrev pub is_broadcast : CondKind → Bool
is_broadcast kinds.Signal = false
is_broadcast kinds.Broadcast = true

-- a condition whose guard reads inputs is of kind broadcast
abbrev pub is_kind_suited : Condition → CondKind → Bool
is_kind_suited condition kind = not condition.reads_inputs || is_broadcast kind

abbrev pub AreKindsSuited : List Condition → List CondKind → Type 0
AreKindsSuited conditions all_kinds =
    All (λ one. is_kind_suited one.0 one.1 ≡ true) (zip conditions all_kinds)

abbrev pub is_broadcast_at : Option CondKind → Bool
is_broadcast_at None = false
is_broadcast_at (Some kind) = is_broadcast kind

-- a note on a condition of kind broadcast is a broadcast
abbrev pub is_way_suited : List CondKind → Note → Bool
is_way_suited all_kinds note =
    note.all || not (is_broadcast_at (slice_get all_kinds (note.condition - 1)))

-- a tested note is on a condition that reads no inputs
abbrev pub is_test_suited : MonitorParts → Note → Bool
is_test_suited monitor note = not note.tested || reads_none monitor note.condition

abbrev pub is_note_suited : MonitorParts → List CondKind → Note → Bool
is_note_suited monitor all_kinds note =
    is_way_suited all_kinds note && is_test_suited monitor note

abbrev pub AreNotesSuited : MonitorParts → List CondKind → List Note → Type 0
AreNotesSuited monitor all_kinds notes =
    All (λ note. is_note_suited monitor all_kinds note ≡ true) notes

abbrev pub AreListsSuited : MonitorParts → List CondKind → List (List Note) → Type 0
AreListsSuited monitor all_kinds lists = All (AreNotesSuited monitor all_kinds) lists
