use Rattle.std.proofs.Common.{◌+◌, length, refl, slice_get}
use Rattle.base_io.proofs.Writing.{wrote_both, wrote_fails, wrote_longer, wrote_same}
use Rattle.logic_solve.specs.Solutions.{valuation_of}
use Rattle.report_reasons.specs.ReasonText.{closing, locals_in}
use Rattle.report_reasons.proofs.Parts.{call_parts}
use Rattle.report_reasons.proofs.clients.write_call.Goals as goal

pub returns-in_err-write_inputs : goal.returns-in_err-write_inputs
returns-in_err-write_inputs g c =
    let text = call_parts (valuation_of c.args.at.now) c.args.further (slice_get c.args.tree.now.methods c.args.number) c.args.method.now c.inputs_in.result.now (locals_in (slice_get c.args.tree.now.methods c.args.number)) c.items-kinds.result.now c.args.method.now.locals (closing (length c.items-kinds.result.now + length c.args.method.now.locals)) c.inputs_in.ensures refl c.items-kinds.ensures refl refl in
    wrote_same _ text (wrote_fails _ c.from_residual.ensures.0 (wrote_longer _ (wrote_longer _ c.in_err-write_inputs.ensures)))

pub returns-in_err-write_locals : goal.returns-in_err-write_locals
returns-in_err-write_locals g c =
    let text = call_parts (valuation_of c.args.at.now) c.args.further (slice_get c.args.tree.now.methods c.args.number) c.args.method.now c.inputs_in.result.now c.locals_in.result.now c.items-kinds.result.now c.items-values.result.now (closing (length c.items-kinds.result.now + length c.items-values.result.now)) c.inputs_in.ensures c.locals_in.ensures c.items-kinds.ensures c.items-values.ensures refl in
    wrote_same _ text (wrote_fails _ c.from_residual-in_err-write_locals.ensures.0 (wrote_longer _ (wrote_both c.in_ok-write_inputs.ensures c.in_err-write_locals.ensures)))

pub returns : goal.returns
returns g c =
    let text = call_parts (valuation_of c.args.at.now) c.args.further (slice_get c.args.tree.now.methods c.args.number) c.args.method.now c.inputs_in.result.now c.locals_in.result.now c.items-kinds.result.now c.items-values.result.now c.closing.result.now c.inputs_in.ensures c.locals_in.ensures c.items-kinds.ensures c.items-values.ensures c.closing.ensures in
    wrote_same _ text (wrote_both (wrote_both c.in_ok-write_inputs.ensures c.in_ok-write_locals.ensures) c.write_piece.ensures)
