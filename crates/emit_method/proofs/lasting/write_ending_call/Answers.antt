use Rattle.std.proofs.Common.{codes, length}
use Rattle.emit_method.specs.Lasting.{end_given, parameters_given}
use Rattle.emit_statements.specs.Conditions.{comma_text}
use Rattle.base_io.proofs.Writing.{wrote_both, wrote_fails, wrote_longer, wrote_same}
use Rattle.emit_method.proofs.lasting.write_ending_call.Goals as goal

pub returns-in_err-write_name_of : goal.returns-in_err-write_name_of
returns-in_err-write_name_of g c =
    wrote_fails _ c.from_residual.ensures.0 (wrote_longer (codes ")") (wrote_longer (end_given c.args.it.now.works) (wrote_longer (comma_text (length c.args.it.now.method.now.inputs)) (wrote_longer (parameters_given c.args.it.now.method.now) (wrote_longer (codes "(") c.in_err-write_name_of.ensures)))))

pub returns-in_err-write_piece : goal.returns-in_err-write_piece
returns-in_err-write_piece g c =
    wrote_fails _ c.from_residual-in_err-write_piece.ensures.0 (wrote_longer (codes ")") (wrote_longer (end_given c.args.it.now.works) (wrote_longer (comma_text (length c.args.it.now.method.now.inputs)) (wrote_longer (parameters_given c.args.it.now.method.now) (wrote_both c.in_ok-write_name_of.ensures c.in_err-write_piece.ensures)))))

pub returns-in_err-write_parameters_given : goal.returns-in_err-write_parameters_given
returns-in_err-write_parameters_given g c =
    wrote_fails _ c.from_residual-in_err-write_parameters_given.ensures.0 (wrote_longer (codes ")") (wrote_longer (end_given c.args.it.now.works) (wrote_longer (comma_text (length c.args.it.now.method.now.inputs)) (wrote_both (wrote_both c.in_ok-write_name_of.ensures c.in_ok-write_piece.ensures) c.in_err-write_parameters_given.ensures))))

pub returns-in_err-write_comma : goal.returns-in_err-write_comma
returns-in_err-write_comma g c =
    wrote_fails _ c.from_residual-in_err-write_comma.ensures.0 (wrote_longer (codes ")") (wrote_longer (end_given c.args.it.now.works) (wrote_both (wrote_both (wrote_both c.in_ok-write_name_of.ensures c.in_ok-write_piece.ensures) c.in_ok-write_parameters_given.ensures) c.in_err-write_comma.ensures)))

pub returns-in_err-write_piece-2 : goal.returns-in_err-write_piece-2
returns-in_err-write_piece-2 g c =
    wrote_fails _ c.from_residual-in_err-write_piece-2.ensures.0 (wrote_longer (codes ")") (wrote_both (wrote_both (wrote_both (wrote_both c.in_ok-write_name_of.ensures c.in_ok-write_piece.ensures) c.in_ok-write_parameters_given.ensures) c.in_ok-write_comma.ensures) (wrote_same _ (c.end_given.ensures) c.in_err-write_piece-2.ensures)))

pub returns : goal.returns
returns g c =
    wrote_both (wrote_both (wrote_both (wrote_both (wrote_both c.in_ok-write_name_of.ensures c.in_ok-write_piece.ensures) c.in_ok-write_parameters_given.ensures) c.in_ok-write_comma.ensures) (wrote_same _ (c.end_given.ensures) c.in_ok-write_piece-2.ensures)) c.write_piece-3.ensures
