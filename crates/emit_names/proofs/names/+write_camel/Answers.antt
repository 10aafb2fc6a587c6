use Rattle.base_io.proofs.Writing.{wrote_both, wrote_same}
use Rattle.emit_names.proofs.Reading.{camel_cut}
use Rattle.emit_names.proofs.names.+write_camel.Goals as goal

pub returns : goal.returns
returns g t c =
    wrote_same _ (camel_cut c.args.raise c.args.name.now _ c.raised.result c.is_left_out.result c.in-len1-up.len_at_least c.is_left_out.ensures c.if-is_left_out.false c.raised.ensures)
    (wrote_both c.in_ok-write_piece.ensures c.write_camel-2.ensures)
