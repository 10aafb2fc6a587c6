use Rattle.std.proofs.Common.{ap, refl}
use Rattle.std.specs.List.{flat_map, enumerate_from}
use Rattle.base_io.proofs.Rows.{row_went, row_stopped}
use Rattle.base_io.proofs.Writing.{wrote_same}
use Rattle.report_text.proofs.PlanRows.{both}
use Rattle.report_text.proofs.LogRows.{within_enumerated, enumerated_at, enumerated_end}
use Rattle.logic_solve.specs.Solutions.{valuation_of}
use Rattle.report_reasons.specs.ReasonText.{field_text}
use Rattle.report_reasons.proofs.values.write_fields.Goals as goal

pub loop-number-preserved : goal.loop-number-preserved
loop-number-preserved g c =
    row_went (λ one. field_text (valuation_of c.args.at.now) one.0 one.1) (enumerate_from 0 c.args.fields.now) c.loop-number.number (both c.loop-number.number c.index-fields-number.result) _ (within_enumerated c.args.fields.now c.loop-number.number c.loop-number-test.true)
    (enumerated_at c.args.fields.now c.loop-number.number c.index-fields-number.result c.loop-number-test.true c.index-fields-number.is) refl c.loop-number.invariant c.in_ok-write_field.ensures

pub returns-in_err-write_field : goal.returns-in_err-write_field
returns-in_err-write_field g c =
    row_stopped (λ one. field_text (valuation_of c.args.at.now) one.0 one.1) (enumerate_from 0 c.args.fields.now) c.loop-number.number (both c.loop-number.number c.index-fields-number.result) _ _ (within_enumerated c.args.fields.now c.loop-number.number c.loop-number-test.true)
    (enumerated_at c.args.fields.now c.loop-number.number c.index-fields-number.result c.loop-number-test.true c.index-fields-number.is) refl c.from_residual.ensures.0 c.loop-number.invariant c.in_err-write_field.ensures

pub returns : goal.returns
returns g c = wrote_same _ (ap (flat_map (λ one. field_text (valuation_of c.args.at.now) one.0 one.1)) (enumerated_end c.args.fields.now c.loop-number.number c.loop-number-test.false)) c.loop-number.invariant
