-- Stages of clients.
use Rattle.std.specs.Prelude.{Bool, true, false}
use Rattle.machine_events.specs.declared.event.Stage.{Stage}
use Rattle.machine_events.specs.declared.event.Stage.TheVariants.{Idle, Entering, Waiting}
use Rattle.machine_events.specs.declared.event.Stage.TheVariants.{Woken, Inside, Notifying}

-- whether a client at this stage waits
abbrev pub is_waiting_stage : {N : Type 0} → Stage N → Bool
is_waiting_stage (Waiting condition) = true
is_waiting_stage stage = false

-- the same stage, where the notes that are to come are said in another way
abbrev pub map_stage : {M N : Type 0} → (M → N) → Stage M → Stage N
map_stage say Idle = Idle
map_stage say Entering = Entering
map_stage say (Waiting condition) = Waiting condition
map_stage say (Woken condition) = Woken condition
map_stage say Inside = Inside
map_stage say (Notifying notes) = Notifying (say notes)
