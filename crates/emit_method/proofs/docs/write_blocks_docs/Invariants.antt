use Rattle.std.proofs.Common.{take, Ok}
use Rattle.base_io.specs.Writing.{Wrote}
use Rattle.emit_comments.proofs.Numbered.{numbered}
use Rattle.emit_method.specs.Docs.{waiting_text}
use Rattle.emit_statements.specs.Statements.{method_seen}
use Rattle.std.specs.List.{enumerate_from, flat_map}
use Rattle.emit_method.proofs.docs.write_blocks_docs.Given as goal

abbrev pub invariant-loop-place : goal.invariant-loop-place
invariant-loop-place g l =
    Wrote (g.S.Sink.seen l.initial.out) (g.S.Sink.seen l.out) (Ok tt) (flat_map (numbered (waiting_text (method_seen l.it))) (take l.place (enumerate_from 0 l.blocks)))
