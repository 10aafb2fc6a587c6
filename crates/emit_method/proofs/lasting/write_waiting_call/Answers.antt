use Rattle.std.proofs.Common.{codes, length}
use Rattle.emit_method.specs.Lasting.{function_given, parameters_given}
use Rattle.base_io.proofs.Writing.{wrote_both, wrote_fails, wrote_longer}
use Rattle.emit_method.proofs.lasting.write_waiting_call.Goals as goal

pub returns-in_err-write_name_of : goal.returns-in_err-write_name_of
returns-in_err-write_name_of g c =
    wrote_fails _ c.from_residual.ensures.0 (wrote_longer (codes ")") (wrote_longer (function_given c.args.it.now.works (length c.args.it.now.method.now.inputs)) (wrote_longer (parameters_given c.args.it.now.method.now) (wrote_longer (codes "(") c.in_err-write_name_of.ensures))))

pub returns-in_err-write_piece : goal.returns-in_err-write_piece
returns-in_err-write_piece g c =
    wrote_fails _ c.from_residual-in_err-write_piece.ensures.0 (wrote_longer (codes ")") (wrote_longer (function_given c.args.it.now.works (length c.args.it.now.method.now.inputs)) (wrote_longer (parameters_given c.args.it.now.method.now) (wrote_both c.in_ok-write_name_of.ensures c.in_err-write_piece.ensures))))

pub returns-in_err-write_parameters_given : goal.returns-in_err-write_parameters_given
returns-in_err-write_parameters_given g c =
    wrote_fails _ c.from_residual-in_err-write_parameters_given.ensures.0 (wrote_longer (codes ")") (wrote_longer (function_given c.args.it.now.works (length c.args.it.now.method.now.inputs)) (wrote_both (wrote_both c.in_ok-write_name_of.ensures c.in_ok-write_piece.ensures) c.in_err-write_parameters_given.ensures)))

pub returns-in_err-write_function_given : goal.returns-in_err-write_function_given
returns-in_err-write_function_given g c =
    wrote_fails _ c.from_residual-in_err-write_function_given.ensures.0 (wrote_longer (codes ")") (wrote_both (wrote_both (wrote_both c.in_ok-write_name_of.ensures c.in_ok-write_piece.ensures) c.in_ok-write_parameters_given.ensures) c.in_err-write_function_given.ensures))

pub returns : goal.returns
returns g c =
    wrote_both (wrote_both (wrote_both (wrote_both c.in_ok-write_name_of.ensures c.in_ok-write_piece.ensures) c.in_ok-write_parameters_given.ensures) c.in_ok-write_function_given.ensures) c.write_piece-2.ensures
