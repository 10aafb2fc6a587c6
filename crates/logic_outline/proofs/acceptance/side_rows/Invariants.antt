use Rattle.std.proofs.Common.{◌≡◌, map, take}
use Rattle.logic_outline.specs.inner.Branches.{rows_of}
use Rattle.logic_outline.proofs.acceptance.side_rows.Given as goal

abbrev pub invariant-loop-node : goal.invariant-loop-node
invariant-loop-node l = l.rows.items ≡ map rows_of (take l.node-index l.nodes)
