use Rattle.std.proofs.Common.{Ok, take}
use Rattle.base_io.specs.Writing.{Wrote, pieces_text}
use Rattle.base_io.proofs.writer.write_pieces.Given as goal

abbrev pub invariant-loop-piece : goal.invariant-loop-piece
invariant-loop-piece g l =
    Wrote (g.S.Sink.seen l.initial.out) (g.S.Sink.seen l.out) (Ok tt) (pieces_text (take l.piece-index l.pieces))
