use Rattle.std.proofs.Common.{take, Ok}
use Rattle.std.specs.List.{enumerate_from, flat_map}
use Rattle.base_io.specs.Writing.{Wrote}
use Rattle.emit_comments.proofs.Numbered.{numbered}
use Rattle.emit_comments.specs.Comments.{byte_text}
use Rattle.emit_comments.proofs.docs.write_plain.Given as goal

abbrev pub invariant-loop-at : goal.invariant-loop-at
invariant-loop-at g l =
    Wrote (g.S.Sink.seen l.initial.out) (g.S.Sink.seen l.out) (Ok tt) (flat_map (numbered (byte_text l.text)) (take l.at (enumerate_from 0 l.text)))
