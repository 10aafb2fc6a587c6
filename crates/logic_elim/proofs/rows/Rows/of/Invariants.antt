use Rattle.std.proofs.Common.{◌≡◌}
use Rattle.logic_elim.proofs.rows.Rows.of.Given as goal

abbrev pub invariant-loop-numbered : goal.invariant-loop-numbered
invariant-loop-numbered l = l.kept ≡ l.yielded
