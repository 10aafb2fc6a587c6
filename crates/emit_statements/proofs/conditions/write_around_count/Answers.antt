use Rattle.base_io.proofs.Writing.{wrote_both, wrote_fails, wrote_longer}
use Rattle.emit_statements.specs.Conditions.{count_name}
use Rattle.emit_statements.specs.Sources.{seen}
use Rattle.emit_statements.proofs.conditions.write_around_count.Goals as goal

pub returns-in_err-write_piece : goal.returns-in_err-write_piece
returns-in_err-write_piece g c =
    wrote_fails _ c.from_residual.ensures.0 (wrote_longer (c.args.after.now) (wrote_longer (count_name (seen c.args.source.now) c.args.condition) c.in_err-write_piece.ensures))

pub returns-in_err-write_count_name : goal.returns-in_err-write_count_name
returns-in_err-write_count_name g c =
    wrote_fails _ c.from_residual-in_err-write_count_name.ensures.0 (wrote_longer (c.args.after.now) (wrote_both c.in_ok-write_piece.ensures c.in_err-write_count_name.ensures))

pub returns : goal.returns
returns g c =
    wrote_both (wrote_both c.in_ok-write_piece.ensures c.in_ok-write_count_name.ensures) c.write_piece-2.ensures
