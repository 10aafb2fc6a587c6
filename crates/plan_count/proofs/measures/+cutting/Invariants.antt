use Rattle.std.proofs.Common.{◌≡◌, ◌++◌, drop, map}
use Rattle.machine_events.specs.Counts.{cut_of, parts_without}
use Rattle.plan_count.proofs.measures.+cutting.Given as goal

abbrev pub invariant-parts_without-loop-part : goal.invariant-parts_without-loop-part
invariant-parts_without-loop-part l = l.cut.items ++ parts_without l.left (map cut_of (drop l.part-index l.parts)) ≡ parts_without l.row (map cut_of l.parts)
