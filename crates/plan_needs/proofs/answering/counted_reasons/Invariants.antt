use Rattle.std.proofs.Common.{◌≡◌, All, map, take}
use Rattle.plan_needs.specs.CountedReasons.{IsCountedReason}
use Rattle.plan_needs.proofs.answering.counted_reasons.Given as goal

abbrev pub invariant-loop-index : goal.invariant-loop-index
invariant-loop-index l = record {
  things : map (λ reason. reason.thing) l.reasons.items ≡ take l.index l.things.items;
  each : All (IsCountedReason l.monitor l.counted) l.reasons.items;
}
