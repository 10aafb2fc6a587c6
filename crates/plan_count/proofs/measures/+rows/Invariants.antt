use Rattle.std.proofs.Common.{◌≡◌, ◌-◌, ◌≤◌, drop}
use Rattle.std.specs.Prelude.{slice_get}
use Rattle.plan_count.specs.inner.Rows.{rows_of_parts}
use Rattle.plan_count.proofs.measures.+rows.Given as goal

abbrev pub invariant-row_among-loop-part : goal.invariant-row_among-loop-part
invariant-row_among-loop-part l = record {
  first : 1 ≤ l.left;
  found : slice_get (rows_of_parts (drop l.part-index l.parts)) (l.left - 1) ≡ slice_get (rows_of_parts l.parts) (l.row - 1);
}
