use Rattle.std.proofs.Common.{Ok, take}
use Rattle.std.specs.List.{flat_map}
use Rattle.base_io.specs.Writing.{Wrote}
use Rattle.report_reasons.specs.BroadcastText.{broadcast_reason_text}
use Rattle.report_reasons.proofs.broadcasts.write_broadcast_reasons.Given as goal

abbrev pub invariant-loop-reason : goal.invariant-loop-reason
invariant-loop-reason g l =
    Wrote (g.S.Sink.seen l.initial.out) (g.S.Sink.seen l.out) (Ok tt) (flat_map (broadcast_reason_text l.tree l.monitor) (take l.reason-index l.reasons))
