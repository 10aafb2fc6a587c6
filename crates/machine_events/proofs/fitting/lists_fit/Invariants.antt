use Rattle.std.specs.Prelude.{All, take}
use Rattle.machine_events.specs.Plans.{FitsNotes}
use Rattle.machine_events.proofs.fitting.lists_fit.Given as goal

abbrev pub invariant-loop-list : goal.invariant-loop-list
invariant-loop-list l = All (FitsNotes l.monitor) (take l.list-index l.lists)
