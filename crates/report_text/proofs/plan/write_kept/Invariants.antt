use Rattle.std.proofs.Common.{Ok, take}
use Rattle.std.specs.List.{flat_map}
use Rattle.machine_events.specs.PlanText.{kept_text}
use Rattle.base_io.specs.Writing.{Wrote}
use Rattle.report_text.proofs.plan.write_kept.Given as goal

abbrev pub invariant-loop-candidate : goal.invariant-loop-candidate
invariant-loop-candidate g l =
    Wrote (g.S.Sink.seen l.initial.out) (g.S.Sink.seen l.out) (Ok tt) (flat_map (kept_text l.fields) (take l.candidate-index l.kept))
