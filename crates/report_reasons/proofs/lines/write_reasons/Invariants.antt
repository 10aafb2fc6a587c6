use Rattle.std.proofs.Common.{Ok, take}
use Rattle.std.specs.List.{flat_map}
use Rattle.base_io.specs.Writing.{Wrote}
use Rattle.report_reasons.specs.ReasonText.{reason_text}
use Rattle.report_reasons.proofs.lines.write_reasons.Given as goal

abbrev pub invariant-loop-reason : goal.invariant-loop-reason
invariant-loop-reason g l =
    Wrote (g.S.Sink.seen l.initial.out) (g.S.Sink.seen l.out) (Ok tt) (flat_map (reason_text l.tree l.monitor) (take l.reason-index l.reasons))
