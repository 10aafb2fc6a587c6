use Rattle.std.proofs.Common.{◌++◌, ap}
use Rattle.emit_names.specs.Names.{input_name}
use Rattle.base_io.proofs.Writing.{wrote_both, wrote_same}
use Rattle.emit_expressions.proofs.scope.write_local.Goals as goal

pub returns : goal.returns
returns g c =
    wrote_same _ (ap (λ l. l ++ input_name c.args.scope.now.method.now c.args.name.now) c.lent_bytes.ensures) (wrote_both c.in_ok-write_piece.ensures c.write_input.ensures)
