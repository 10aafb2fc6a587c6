use Rattle.std.proofs.Common.{◌≡◌, ◌-◌, drop, length}
use Rattle.plan_count.specs.inner.Rows.{rows_of_parts}
use Rattle.plan_count.proofs.measures.+counting.Given as goal

abbrev pub invariant-rows_after_all-loop-part : goal.invariant-rows_after_all-loop-part
invariant-rows_after_all-loop-part l = l.after - length (rows_of_parts (drop l.part-index l.parts)) ≡ l.left - length (rows_of_parts l.parts)
