use Rattle.std.proofs.Common.{◌≤◌, Ok}
use Rattle.base_io.specs.Writing.{Wrote}
use Rattle.emit_statements.specs.Statements.{blocks_ops, method_seen}
use Rattle.emit_statements.proofs.statements.write_blocks.Given as goal

abbrev pub invariant-loop-index : goal.invariant-loop-index
invariant-loop-index g l =
    (l.index ≤ l.count) × Wrote (g.S.Sink.seen l.initial.out) (g.S.Sink.seen l.out) (Ok tt) (blocks_ops (method_seen l.it) l.index)
