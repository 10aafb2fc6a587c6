use Rattle.std.proofs.Common.{codes, ◌+◌, ◌++◌, ap}
use Rattle.base_io.proofs.Writing.{wrote_both, wrote_fails, wrote_longer, wrote_same}
use Rattle.emit_statements.specs.Conditions.{around_name}
use Rattle.emit_statements.specs.Sources.{seen}
use Rattle.emit_module.proofs.fields.write_waited_field.Goals as goal

pub returns-in_err-write_pieces : goal.returns-in_err-write_pieces
returns-in_err-write_pieces g c =
    let same = ap (λ text. codes "    /// For calls that wait until `" ++ text ++ codes "`.\n") c.items-shown.ensures in
    wrote_fails _ c.from_residual.ensures.0 (wrote_longer (around_name (seen c.args.source.now) (codes "    ") (c.args.place + 1) (codes ": Condvar,\n")) (wrote_same _ same c.in_err-write_pieces.ensures))

pub returns : goal.returns
returns g c =
    let same = ap (λ text. codes "    /// For calls that wait until `" ++ text ++ codes "`.\n") c.items-shown.ensures in
    wrote_both (wrote_same _ same c.in_ok-write_pieces.ensures) c.write_around_name.ensures
