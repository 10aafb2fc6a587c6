use Rattle.std.proofs.Common.{◌≡◌, ◌++◌, ◌+◌, drop}
use Rattle.logic_solve.specs.inner.Differences.{chain_along}
use Rattle.logic_solve.proofs.differences.chain_along.Given as goal

abbrev pub invariant-loop-i : goal.invariant-loop-i
invariant-loop-i l = record {
  next : l.at ≡ l.next + l.i;
  chain : l.combines.items ++ chain_along l.sum l.at (drop l.i l.path) ≡ chain_along l.number l.next l.path;
}
