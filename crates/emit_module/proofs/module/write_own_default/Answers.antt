use Rattle.emit_module.specs.Fixed.{DEFAULT}
use Rattle.emit_names.specs.Names.{type_name}
use Rattle.base_io.proofs.Writing.{wrote_both, wrote_fails, wrote_longer, wrote_same}
use Rattle.emit_module.proofs.module.write_own_default.Goals as goal

pub returns-in_err-write_piece : goal.returns-in_err-write_piece
returns-in_err-write_piece g c = wrote_fails _ c.from_residual.ensures.0 (wrote_longer (DEFAULT) (wrote_longer (type_name c.args.tree.now) c.in_err-write_piece.ensures))

pub returns-in_err-write_type : goal.returns-in_err-write_type
returns-in_err-write_type g c = wrote_fails _ c.from_residual-in_err-write_type.ensures.0 (wrote_longer (DEFAULT) (wrote_both c.in_ok-write_piece.ensures c.in_err-write_type.ensures))

pub returns : goal.returns
returns g c = wrote_both (wrote_both c.in_ok-write_piece.ensures c.in_ok-write_type.ensures) (wrote_same _ (c.default_bytes.ensures) c.write_piece-2.ensures)
