use Rattle.std.proofs.Common.{◌≡◌, All, map, take}
use Rattle.plan_needs.specs.CountedReasons.{IsBroadcastReason}
use Rattle.plan_needs.proofs.broadcasting.broadcast_reasons.Given as goal

abbrev pub invariant-loop-index : goal.invariant-loop-index
invariant-loop-index l = record {
  broadcasts : map (λ reason. reason.broadcast) l.reasons.items ≡ take l.index l.broadcasts.items;
  each : All (IsBroadcastReason l.monitor l.counted) l.reasons.items;
}
