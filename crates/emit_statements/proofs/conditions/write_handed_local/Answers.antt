use Rattle.std.proofs.Common.{refl}
use Rattle.base_io.proofs.Writing.{wrote_both, wrote_same}
use Rattle.emit_statements.proofs.Arguments.{handed_says}
use Rattle.emit_statements.proofs.conditions.write_handed_local.Goals as goal

pub returns : goal.returns
returns g c =
    wrote_same _ (handed_says c.args.method.now c.args.reach c.args.before _ c.items-inputs.result.now c.args.local.now _ _ _ c.items-inputs.ensures refl c.comma_bytes.ensures c.lending_bytes.ensures c.name.ensures) (wrote_both c.in_ok-write_pieces.ensures c.write_input.ensures)
