use Rattle.std.proofs.Common.{◌≡◌, take}
use Rattle.logic_elim.specs.Chains.{rows_in}
use Rattle.tests_of_formulas.proofs.deciding.kept_rows.Given as goal

abbrev pub invariant-loop-i : goal.invariant-loop-i
invariant-loop-i l = rows_in l.kept.items ≡ take l.i l.rows
