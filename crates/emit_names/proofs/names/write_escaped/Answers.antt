use Rattle.std.proofs.Common.{◌++◌, ap}
use Rattle.emit_names.specs.Letters.{spelled}
use Rattle.base_io.proofs.Writing.{wrote_both, wrote_same}
use Rattle.emit_names.proofs.names.write_escaped.Goals as goal

pub returns : goal.returns
returns g c =
    wrote_same _ (ap (λ l. spelled c.args.style 0 c.args.name.now ++ l) c.escape_bytes.ensures)
    (wrote_both c.in_ok-write_spelled.ensures c.write_piece.ensures)
