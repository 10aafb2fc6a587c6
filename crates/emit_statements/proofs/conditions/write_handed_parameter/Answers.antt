use Rattle.base_io.proofs.Writing.{wrote_both, wrote_same}
use Rattle.emit_statements.proofs.Arguments.{parameter_says}
use Rattle.emit_statements.proofs.conditions.write_handed_parameter.Goals as goal

pub returns : goal.returns
returns g c =
    wrote_same _ (parameter_says c.args.method.now c.args.before c.args.input.now _ c.comma_bytes.ensures) (wrote_both c.in_ok-write_piece.ensures c.write_input.ensures)
