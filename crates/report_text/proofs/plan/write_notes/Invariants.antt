use Rattle.std.proofs.Common.{◌++◌, Ok, take, codes}
use Rattle.std.specs.List.{flat_map}
use Rattle.machine_events.specs.PlanText.{note_text}
use Rattle.base_io.specs.Writing.{Wrote}
use Rattle.report_text.proofs.plan.write_notes.Given as goal

abbrev pub invariant-loop-note : goal.invariant-loop-note
invariant-loop-note g l =
    Wrote (g.S.Sink.seen l.initial.out) (g.S.Sink.seen l.out) (Ok tt) (flat_map (λ note. codes ", " ++ note_text note) (take l.note-index l.rest))
