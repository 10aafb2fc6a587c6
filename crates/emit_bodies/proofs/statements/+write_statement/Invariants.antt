use Rattle.std.proofs.Common.{Ok, take}
use Rattle.emit_expressions.specs.Scopes.{seen}
use Rattle.emit_bodies.specs.inner.Depths.{levels}
use Rattle.emit_bodies.specs.Statements.{statements_text}
use Rattle.base_io.specs.Writing.{Wrote}
use Rattle.emit_bodies.proofs.statements.+write_statement.Given as goal

abbrev pub invariant-write_statements-loop-statement : goal.invariant-write_statements-loop-statement
invariant-write_statements-loop-statement g l =
    Wrote (g.S.Sink.seen l.initial.out) (g.S.Sink.seen l.out) (Ok tt) (statements_text (seen l.scope) (levels l.depth) (take l.statement-index l.statements))
