use Rattle.base_io.proofs.Writing.{wrote_both, wrote_same}
use Rattle.report_text.proofs.TurnsRows.{inputs-cut}
use Rattle.report_text.proofs.turns.write_inputs.Goals as goal

pub returns : goal.returns
returns g c =
    wrote_same _ (inputs-cut c.args.inputs.now _ _ c.in-len1-up.len_at_least c.value_bytes.ensures) (wrote_both c.in_ok-write_piece.ensures c.write_more_inputs.ensures)
