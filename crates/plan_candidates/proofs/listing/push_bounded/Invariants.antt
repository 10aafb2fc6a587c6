use Rattle.std.proofs.Common.{◌≡◌, ◌++◌, take}
use Rattle.std.specs.List.{flat_map}
use Rattle.lang_monitor.specs.Candidates.{bounded}
use Rattle.plan_candidates.proofs.listing.push_bounded.Given as goal

abbrev pub invariant-loop-bound : goal.invariant-loop-bound
invariant-loop-bound l = l.candidates.items ≡ l.fn.candidates.items ++ flat_map (bounded l.field) (take l.bound-index l.bounds)
