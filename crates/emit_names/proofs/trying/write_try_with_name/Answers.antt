use Rattle.emit_names.specs.Names.{with_name}
use Rattle.base_io.proofs.Writing.{wrote_both, wrote_fails, wrote_longer}
use Rattle.emit_names.proofs.trying.write_try_with_name.Goals as goal

pub returns-in_err-write_piece : goal.returns-in_err-write_piece
returns-in_err-write_piece g c = wrote_fails _ c.from_residual.ensures.0 (wrote_longer (with_name c.args.tree.now c.args.name.now) c.in_err-write_piece.ensures)

pub returns : goal.returns
returns g c = wrote_both c.in_ok-write_piece.ensures c.write_ended_name.ensures
