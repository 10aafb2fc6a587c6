use Rattle.std.proofs.Common.{take, Ok}
use Rattle.base_io.specs.Writing.{Wrote}
use Rattle.emit_comments.proofs.Numbered.{numbered}
use Rattle.emit_module.specs.inner.Lines.{condition_line_at}
use Rattle.emit_statements.specs.Sources.{seen}
use Rattle.std.specs.List.{enumerate_from, flat_map}
use Rattle.emit_module.proofs.fields.write_conditions.Given as goal

abbrev pub invariant-loop-place : goal.invariant-loop-place
invariant-loop-place g l =
    Wrote (g.S.Sink.seen l.initial.out) (g.S.Sink.seen l.out) (Ok tt) (flat_map (numbered (condition_line_at l.line (seen l.source))) (take l.place (enumerate_from 0 l.conditions)))
