-- A plan without the notes that nobody hears: on conditions on which nobody ever waits.
use Rattle.std.specs.Prelude.{ℕ, suc, Bool, List, [], ◌∷◌, map, if◌then◌else◌}
use Rattle.lang_monitor.specs.MonitorParts.{MonitorParts}
use Rattle.machine_implicit.specs.declared.script.Client.{Client}
use Rattle.machine_events.specs.declared.plan.CondKind.{CondKind}
use Rattle.machine_events.specs.declared.plan.CondKind.TheVariants as kinds
use Rattle.machine_events.specs.declared.plan.Note.{Note}
use Rattle.machine_events.specs.declared.plan.Plan.{Plan}
use Rattle.emit_code.specs.Code.{is_waited_on, code_of}
use Rattle.emit_code.specs.Executions.{Program}

-- the notes on conditions on which someone may wait
abbrev pub heard_notes : MonitorParts → List Note → List Note
heard_notes monitor [] = []
heard_notes monitor (note ∷ notes) =
    if is_waited_on monitor note.condition then note ∷ heard_notes monitor notes
    else heard_notes monitor notes

-- the kinds, broadcast where nobody ever waits; the first condition is the one after this number
abbrev pub heard_kinds : MonitorParts → ℕ → List CondKind → List CondKind
heard_kinds monitor number [] = []
heard_kinds monitor number (kind ∷ kinds_left) =
    (if is_waited_on monitor (suc number) then kind else kinds.Broadcast)
    ∷ heard_kinds monitor (suc number) kinds_left

-- what is kept stays, and the notes that nobody hears are left out
abbrev pub live_plan : MonitorParts → Plan → Plan
live_plan monitor plan = record {
  kept = plan.kept;
  kinds = heard_kinds monitor 0 plan.kinds;
  notes = map (heard_notes monitor) plan.notes;
}

-- the program that is printed of a monitor and its plan, with what threads call, and which of these
-- calls have a time
abbrev pub printed_program : MonitorParts → Plan → List Client → (ℕ → ℕ → Bool) → Program
printed_program monitor plan clients timed = record {
  monitor = monitor;
  code = code_of monitor (live_plan monitor plan);
  clients = clients;
  timed = timed;
}
