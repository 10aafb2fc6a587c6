use Rattle.std.proofs.Common.{Ok, take}
use Rattle.lang_printer.specs.Depths.{levels}
use Rattle.lang_printer.specs.Printing.{statements_text}
use Rattle.base_io.specs.Writing.{Wrote}
use Rattle.lang_printer.proofs.printer.statements.+write_statement.Given as goal

abbrev pub invariant-write_statements-loop-statement : goal.invariant-write_statements-loop-statement
invariant-write_statements-loop-statement g l =
    Wrote (g.S.Sink.seen l.initial.out) (g.S.Sink.seen l.out) (Ok tt) (statements_text (levels l.depth) (take l.statement-index l.statements))
