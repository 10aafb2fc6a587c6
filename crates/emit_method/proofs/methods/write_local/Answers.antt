use Rattle.std.proofs.Common.{codes, ap}
use Rattle.base_io.proofs.Writing.{wrote_both, wrote_fails, wrote_longer, wrote_same}
use Rattle.emit_choices.specs.Declarations.{typed_start}
use Rattle.emit_names.specs.Names.{input_name}
use Rattle.lang_tree.specs.Names.{declared_name}
use Rattle.emit_method.proofs.methods.write_local.Goals as goal

pub returns-in_err-write_piece : goal.returns-in_err-write_piece
returns-in_err-write_piece g c =
    wrote_fails _ c.from_residual.ensures.0 (wrote_longer (codes ";\n") (wrote_longer (typed_start c.args.local.now) (wrote_longer (input_name c.args.method.now (declared_name c.args.local.now)) c.in_err-write_piece.ensures)))

pub returns-in_err-write_input : goal.returns-in_err-write_input
returns-in_err-write_input g c =
    wrote_fails _ c.from_residual-in_err-write_input.ensures.0 (wrote_longer (codes ";\n") (wrote_longer (typed_start c.args.local.now) (wrote_both c.in_ok-write_piece.ensures (wrote_same _ (ap (input_name c.args.method.now) c.name.ensures) c.in_err-write_input.ensures))))

pub returns-in_err-write_typed_start : goal.returns-in_err-write_typed_start
returns-in_err-write_typed_start g c =
    wrote_fails _ c.from_residual-in_err-write_typed_start.ensures.0 (wrote_longer (codes ";\n") (wrote_both (wrote_both c.in_ok-write_piece.ensures (wrote_same _ (ap (input_name c.args.method.now) c.name.ensures) c.in_ok-write_input.ensures)) c.in_err-write_typed_start.ensures))

pub returns : goal.returns
returns g c =
    wrote_both (wrote_both (wrote_both c.in_ok-write_piece.ensures (wrote_same _ (ap (input_name c.args.method.now) c.name.ensures) c.in_ok-write_input.ensures)) c.in_ok-write_typed_start.ensures) c.write_piece-2.ensures
