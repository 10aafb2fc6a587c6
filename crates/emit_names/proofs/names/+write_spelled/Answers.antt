use Rattle.base_io.proofs.Writing.{wrote_both, wrote_same, wrote_until}
use Rattle.emit_names.proofs.Reading.{spelled_cut}
use Rattle.emit_names.proofs.names.+write_spelled.Goals as goal

pub returns-in_err-write_piece-2 : goal.returns-in_err-write_piece-2
returns-in_err-write_piece-2 g t c =
    wrote_until _ _ _ (spelled_cut c.args.style c.args.before c.args.name.now _ _ c.begins_word.result c.cased.result c.in-len1-up.len_at_least c.begins_word.ensures c.mark_bytes.ensures c.cased.ensures)
    c.from_residual-in_err-write_piece-2.ensures.0 c.in_ok-write_piece.ensures c.in_err-write_piece-2.ensures

pub returns : goal.returns
returns g t c =
    wrote_same _ (spelled_cut c.args.style c.args.before c.args.name.now _ _ c.begins_word.result c.cased.result c.in-len1-up.len_at_least c.begins_word.ensures c.mark_bytes.ensures c.cased.ensures)
    (wrote_both (wrote_both c.in_ok-write_piece.ensures c.in_ok-write_piece-2.ensures) c.write_spelled.ensures)
