use Rattle.base_io.proofs.Writing.{wrote_both, wrote_same}
use Rattle.logic_solve.specs.Solutions.{valuation_of}
use Rattle.report_reasons.specs.ReasonText.{value_text}
use Rattle.report_reasons.proofs.Parts.{named_parts}
use Rattle.report_reasons.proofs.values.write_named.Goals as goal

pub returns : goal.returns
returns g c =
    wrote_same _ (named_parts c.args.name.now c.value_bytes.result.now (value_text (valuation_of c.args.at.now) c.args.kind c.args.place) c.value_bytes.ensures)
    (wrote_both c.in_ok-write_piece.ensures c.write_pieces.ensures)
