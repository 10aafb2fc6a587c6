use Rattle.std.proofs.Common.{◌+◌, slice_get}
use Rattle.base_io.proofs.Writing.{wrote_both, wrote_same}
use Rattle.lang_monitor.specs.MonitorParts.{kind_of}
use Rattle.logic_solve.specs.Solutions.{valuation_of}
use Rattle.report_reasons.specs.ReasonText.{local_name, opening}
use Rattle.report_reasons.proofs.Parts.{same_named}
use Rattle.report_reasons.proofs.clients.write_local.Goals as goal

pub returns : goal.returns
returns g c =
    wrote_same _
    (same_named (valuation_of c.args.at.now) c.opening.result.now (opening (c.args.before + c.args.number)) c.local_bytes.result.now (local_name (slice_get c.args.locals.now c.args.number)) c.kind_of.result (kind_of c.args.value.now) c.place_of.result (c.args.first + c.args.number)
    c.opening.ensures c.local_bytes.ensures c.kind_of.ensures c.place_of.ensures) (wrote_both c.in_ok-write_piece.ensures c.write_named.ensures)
