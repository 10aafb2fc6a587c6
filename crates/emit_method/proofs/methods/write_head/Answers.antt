use Rattle.std.proofs.Common.{codes}
use Rattle.std.specs.List.{flat_map}
use Rattle.emit_bodies.specs.Blocks.{parameter_text}
use Rattle.emit_method.specs.Called.{called_text}
use Rattle.emit_method.specs.Methods.{function_text, method_arrow, time_text}
use Rattle.emit_statements.specs.Statements.{method_seen}
use Rattle.base_io.proofs.Writing.{wrote_both, wrote_fails, wrote_longer, wrote_same}
use Rattle.emit_method.proofs.methods.write_head.Goals as goal

pub returns-in_err-write_piece : goal.returns-in_err-write_piece
returns-in_err-write_piece g c =
    wrote_fails _ c.from_residual.ensures.0 (wrote_longer (codes " {\n") (wrote_longer (method_arrow (method_seen c.args.it.now)) (wrote_longer (codes ")") (wrote_longer (function_text (method_seen c.args.it.now)) (wrote_longer (time_text c.args.it.now.way) (wrote_longer (flat_map (parameter_text c.args.it.now.method.now) c.args.it.now.method.now.inputs) (wrote_longer (codes "(&self") (wrote_longer (called_text (method_seen c.args.it.now)) c.in_err-write_piece.ensures))))))))

pub returns-in_err-write_called : goal.returns-in_err-write_called
returns-in_err-write_called g c =
    wrote_fails _ c.from_residual-in_err-write_called.ensures.0 (wrote_longer (codes " {\n") (wrote_longer (method_arrow (method_seen c.args.it.now)) (wrote_longer (codes ")") (wrote_longer (function_text (method_seen c.args.it.now)) (wrote_longer (time_text c.args.it.now.way) (wrote_longer (flat_map (parameter_text c.args.it.now.method.now) c.args.it.now.method.now.inputs) (wrote_longer (codes "(&self") (wrote_both c.in_ok-write_piece.ensures c.in_err-write_called.ensures))))))))

pub returns-in_err-write_piece-2 : goal.returns-in_err-write_piece-2
returns-in_err-write_piece-2 g c =
    wrote_fails _ c.from_residual-in_err-write_piece-2.ensures.0 (wrote_longer (codes " {\n") (wrote_longer (method_arrow (method_seen c.args.it.now)) (wrote_longer (codes ")") (wrote_longer (function_text (method_seen c.args.it.now)) (wrote_longer (time_text c.args.it.now.way) (wrote_longer (flat_map (parameter_text c.args.it.now.method.now) c.args.it.now.method.now.inputs) (wrote_both (wrote_both c.in_ok-write_piece.ensures c.in_ok-write_called.ensures) c.in_err-write_piece-2.ensures)))))))

pub returns-in_err-write_own_parameters : goal.returns-in_err-write_own_parameters
returns-in_err-write_own_parameters g c =
    wrote_fails _ c.from_residual-in_err-write_own_parameters.ensures.0 (wrote_longer (codes " {\n") (wrote_longer (method_arrow (method_seen c.args.it.now)) (wrote_longer (codes ")") (wrote_longer (function_text (method_seen c.args.it.now)) (wrote_longer (time_text c.args.it.now.way) (wrote_both (wrote_both (wrote_both c.in_ok-write_piece.ensures c.in_ok-write_called.ensures) c.in_ok-write_piece-2.ensures) c.in_err-write_own_parameters.ensures))))))

pub returns-in_err-write_piece-3 : goal.returns-in_err-write_piece-3
returns-in_err-write_piece-3 g c =
    wrote_fails _ c.from_residual-in_err-write_piece-3.ensures.0 (wrote_longer (codes " {\n") (wrote_longer (method_arrow (method_seen c.args.it.now)) (wrote_longer (codes ")") (wrote_longer (function_text (method_seen c.args.it.now)) (wrote_both (wrote_both (wrote_both (wrote_both c.in_ok-write_piece.ensures c.in_ok-write_called.ensures) c.in_ok-write_piece-2.ensures) c.in_ok-write_own_parameters.ensures) (wrote_same _ (c.time_bytes.ensures) c.in_err-write_piece-3.ensures))))))

pub returns-in_err-write_function : goal.returns-in_err-write_function
returns-in_err-write_function g c =
    wrote_fails _ c.from_residual-in_err-write_function.ensures.0 (wrote_longer (codes " {\n") (wrote_longer (method_arrow (method_seen c.args.it.now)) (wrote_longer (codes ")") (wrote_both (wrote_both (wrote_both (wrote_both (wrote_both c.in_ok-write_piece.ensures c.in_ok-write_called.ensures) c.in_ok-write_piece-2.ensures) c.in_ok-write_own_parameters.ensures) (wrote_same _ (c.time_bytes.ensures) c.in_ok-write_piece-3.ensures)) c.in_err-write_function.ensures))))

pub returns-in_err-write_piece-4 : goal.returns-in_err-write_piece-4
returns-in_err-write_piece-4 g c =
    wrote_fails _ c.from_residual-in_err-write_piece-4.ensures.0 (wrote_longer (codes " {\n") (wrote_longer (method_arrow (method_seen c.args.it.now)) (wrote_both (wrote_both (wrote_both (wrote_both (wrote_both (wrote_both c.in_ok-write_piece.ensures c.in_ok-write_called.ensures) c.in_ok-write_piece-2.ensures) c.in_ok-write_own_parameters.ensures) (wrote_same _ (c.time_bytes.ensures) c.in_ok-write_piece-3.ensures)) c.in_ok-write_function.ensures) c.in_err-write_piece-4.ensures)))

pub returns-in_err-write_method_arrow : goal.returns-in_err-write_method_arrow
returns-in_err-write_method_arrow g c =
    wrote_fails _ c.from_residual-in_err-write_method_arrow.ensures.0 (wrote_longer (codes " {\n") (wrote_both (wrote_both (wrote_both (wrote_both (wrote_both (wrote_both (wrote_both c.in_ok-write_piece.ensures c.in_ok-write_called.ensures) c.in_ok-write_piece-2.ensures) c.in_ok-write_own_parameters.ensures) (wrote_same _ (c.time_bytes.ensures) c.in_ok-write_piece-3.ensures)) c.in_ok-write_function.ensures) c.in_ok-write_piece-4.ensures) c.in_err-write_method_arrow.ensures))

pub returns : goal.returns
returns g c =
    wrote_both (wrote_both (wrote_both (wrote_both (wrote_both (wrote_both (wrote_both (wrote_both c.in_ok-write_piece.ensures c.in_ok-write_called.ensures) c.in_ok-write_piece-2.ensures) c.in_ok-write_own_parameters.ensures) (wrote_same _ (c.time_bytes.ensures) c.in_ok-write_piece-3.ensures)) c.in_ok-write_function.ensures) c.in_ok-write_piece-4.ensures) c.in_ok-write_method_arrow.ensures) c.write_piece-5.ensures
