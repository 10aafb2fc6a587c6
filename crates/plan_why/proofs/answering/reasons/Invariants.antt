use Rattle.std.proofs.Common.{◌≡◌, All, map, take}
use Rattle.plan_why.specs.Reasons.{IsReason}
use Rattle.plan_why.proofs.answering.reasons.Given as goal

abbrev pub invariant-loop-index : goal.invariant-loop-index
invariant-loop-index l = record {
  things : map (λ reason. reason.thing) l.reasons.items ≡ take l.index l.things.items;
  each : All (IsReason l.monitor l.plan) l.reasons.items;
}
