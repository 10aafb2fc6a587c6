use Rattle.base_io.proofs.Rows.{flat_map-parts}
use Rattle.base_io.proofs.Writing.{wrote_until}
use Rattle.base_io.proofs.writer.write_pieces.Goals as goal

pub returns-in_err-write_piece : goal.returns-in_err-write_piece
returns-in_err-write_piece g c =
    wrote_until _ _ _ (flat_map-parts (λ piece. piece.now) c.args.pieces.now c.loop-piece.piece-index _ c.loop-piece-test.true) c.from_residual.ensures.0 c.loop-piece.invariant c.in_err-write_piece.ensures
