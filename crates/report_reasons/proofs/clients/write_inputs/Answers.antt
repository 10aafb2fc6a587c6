use Rattle.std.proofs.Common.{ap, get_or, refl}
use Rattle.std.specs.List.{flat_map, enumerate_from}
use Rattle.std.proofs.lemmas.List.{get_or_default}
use Rattle.lang_base.specs.declared.kind.Kind.TheVariants as kinds
use Rattle.base_io.proofs.Rows.{row_went, row_stopped}
use Rattle.base_io.proofs.Writing.{wrote_same}
use Rattle.report_text.proofs.PlanRows.{both}
use Rattle.report_text.proofs.LogRows.{within_enumerated, enumerated_at, enumerated_end}
use Rattle.logic_solve.specs.Solutions.{valuation_of}
use Rattle.report_reasons.specs.ReasonText.{input_text}
use Rattle.report_reasons.proofs.clients.write_inputs.Goals as goal

pub loop-number-preserved : goal.loop-number-preserved
loop-number-preserved g c =
    row_went (λ one. input_text (valuation_of c.args.at.now) c.args.first c.args.inputs.now one.0 one.1) (enumerate_from 0 c.args.kinds.now) c.loop-number.number (both c.loop-number.number (get_or c.args.kinds.now c.loop-number.number kinds.Int)) _ (within_enumerated c.args.kinds.now c.loop-number.number c.loop-number-test.true)
    (enumerated_at c.args.kinds.now c.loop-number.number (get_or c.args.kinds.now c.loop-number.number kinds.Int) c.loop-number-test.true (get_or_default c.args.kinds.now c.loop-number.number kinds.Int (get_or c.args.kinds.now c.loop-number.number kinds.Int) c.loop-number-test.true)) refl c.loop-number.invariant c.in_ok-write_input.ensures

pub returns-in_err-write_input : goal.returns-in_err-write_input
returns-in_err-write_input g c =
    row_stopped (λ one. input_text (valuation_of c.args.at.now) c.args.first c.args.inputs.now one.0 one.1) (enumerate_from 0 c.args.kinds.now) c.loop-number.number (both c.loop-number.number (get_or c.args.kinds.now c.loop-number.number kinds.Int)) _ _ (within_enumerated c.args.kinds.now c.loop-number.number c.loop-number-test.true)
    (enumerated_at c.args.kinds.now c.loop-number.number (get_or c.args.kinds.now c.loop-number.number kinds.Int) c.loop-number-test.true (get_or_default c.args.kinds.now c.loop-number.number kinds.Int (get_or c.args.kinds.now c.loop-number.number kinds.Int) c.loop-number-test.true)) refl c.from_residual.ensures.0 c.loop-number.invariant c.in_err-write_input.ensures

pub returns : goal.returns
returns g c = wrote_same _ (ap (flat_map (λ one. input_text (valuation_of c.args.at.now) c.args.first c.args.inputs.now one.0 one.1)) (enumerated_end c.args.kinds.now c.loop-number.number c.loop-number-test.false)) c.loop-number.invariant
