use Rattle.emit_module.specs.Fixed.{DEBUG, DEBUG_END}
use Rattle.emit_names.specs.Names.{type_name}
use Rattle.base_io.proofs.Writing.{wrote_both, wrote_fails, wrote_longer, wrote_same}
use Rattle.emit_module.proofs.module.write_debug.Goals as goal

pub returns-in_err-write_piece : goal.returns-in_err-write_piece
returns-in_err-write_piece g c =
    wrote_fails _ c.from_residual.ensures.0 (wrote_longer (DEBUG_END) (wrote_longer (type_name c.args.source.now.tree.now) (wrote_longer (DEBUG) (wrote_longer (type_name c.args.source.now.tree.now) c.in_err-write_piece.ensures))))

pub returns-in_err-write_type : goal.returns-in_err-write_type
returns-in_err-write_type g c =
    wrote_fails _ c.from_residual-in_err-write_type.ensures.0 (wrote_longer (DEBUG_END) (wrote_longer (type_name c.args.source.now.tree.now) (wrote_longer (DEBUG) (wrote_both c.in_ok-write_piece.ensures c.in_err-write_type.ensures))))

pub returns-in_err-write_piece-2 : goal.returns-in_err-write_piece-2
returns-in_err-write_piece-2 g c =
    wrote_fails _ c.from_residual-in_err-write_piece-2.ensures.0 (wrote_longer (DEBUG_END) (wrote_longer (type_name c.args.source.now.tree.now) (wrote_both (wrote_both c.in_ok-write_piece.ensures c.in_ok-write_type.ensures) (wrote_same _ (c.debug_bytes.ensures) c.in_err-write_piece-2.ensures))))

pub returns-in_err-write_type-2 : goal.returns-in_err-write_type-2
returns-in_err-write_type-2 g c =
    wrote_fails _ c.from_residual-in_err-write_type-2.ensures.0 (wrote_longer (DEBUG_END) (wrote_both (wrote_both (wrote_both c.in_ok-write_piece.ensures c.in_ok-write_type.ensures) (wrote_same _ (c.debug_bytes.ensures) c.in_ok-write_piece-2.ensures)) c.in_err-write_type-2.ensures))

pub returns : goal.returns
returns g c =
    wrote_both (wrote_both (wrote_both (wrote_both c.in_ok-write_piece.ensures c.in_ok-write_type.ensures) (wrote_same _ (c.debug_bytes.ensures) c.in_ok-write_piece-2.ensures)) c.in_ok-write_type-2.ensures) (wrote_same _ (c.debug_end.ensures) c.write_piece-3.ensures)
