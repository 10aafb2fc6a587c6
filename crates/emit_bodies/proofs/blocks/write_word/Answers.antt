use Rattle.base_io.proofs.Writing.{wrote_both, wrote_fails, wrote_longer}
use Rattle.emit_bodies.proofs.blocks.write_word.Goals as goal

pub returns-in_err-write_mark : goal.returns-in_err-write_mark
returns-in_err-write_mark g c = wrote_fails _ c.from_residual-in_err-write_mark.ensures.0 (wrote_longer _ (wrote_both c.in_ok-write_piece.ensures c.in_err-write_mark.ensures))

pub returns : goal.returns
returns g c = wrote_both (wrote_both c.in_ok-write_piece.ensures c.in_ok-write_mark.ensures) c.write_piece-2.ensures
