use Rattle.std.proofs.Common.{◌+◌, refl, slice_get}
use Rattle.base_io.proofs.Writing.{wrote_both, wrote_same}
use Rattle.logic_solve.specs.Solutions.{valuation_of}
use Rattle.report_reasons.specs.ReasonText.{input_name, opening}
use Rattle.report_reasons.proofs.Parts.{same_named}
use Rattle.report_reasons.proofs.clients.write_input.Goals as goal

pub returns : goal.returns
returns g c =
    wrote_same _
    (same_named (valuation_of c.args.at.now) c.opening.result.now (opening c.args.number) c.input_bytes.result.now (input_name (slice_get c.args.inputs.now c.args.number)) c.args.kind c.args.kind c.place_of.result (c.args.first + c.args.number) c.opening.ensures c.input_bytes.ensures
    refl c.place_of.ensures) (wrote_both c.in_ok-write_piece.ensures c.write_named.ensures)
