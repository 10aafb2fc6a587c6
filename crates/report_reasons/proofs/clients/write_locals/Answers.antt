use Rattle.std.proofs.Common.{ap, get_or, pos, refl}
use Rattle.std.specs.List.{flat_map, enumerate_from}
use Rattle.std.proofs.lemmas.List.{get_or_default}
use Rattle.lang_base.specs.declared.value.Value.TheVariants as values
use Rattle.base_io.proofs.Rows.{row_went, row_stopped}
use Rattle.base_io.proofs.Writing.{wrote_same}
use Rattle.report_text.proofs.PlanRows.{both}
use Rattle.report_text.proofs.LogRows.{within_enumerated, enumerated_at, enumerated_end}
use Rattle.logic_solve.specs.Solutions.{valuation_of}
use Rattle.report_reasons.specs.ReasonText.{local_text}
use Rattle.report_reasons.proofs.clients.write_locals.Goals as goal

pub loop-number-preserved : goal.loop-number-preserved
loop-number-preserved g c =
    row_went (λ one. local_text (valuation_of c.args.at.now) c.args.first c.args.locals.now c.args.before one.0 one.1) (enumerate_from 0 c.args.values.now) c.loop-number.number (both c.loop-number.number (get_or c.args.values.now c.loop-number.number (values.Int (pos 0)))) _ (within_enumerated c.args.values.now c.loop-number.number c.loop-number-test.true)
    (enumerated_at c.args.values.now c.loop-number.number (get_or c.args.values.now c.loop-number.number (values.Int (pos 0))) c.loop-number-test.true (get_or_default c.args.values.now c.loop-number.number (values.Int (pos 0)) (get_or c.args.values.now c.loop-number.number (values.Int (pos 0))) c.loop-number-test.true)) refl c.loop-number.invariant c.in_ok-write_local.ensures

pub returns-in_err-write_local : goal.returns-in_err-write_local
returns-in_err-write_local g c =
    row_stopped (λ one. local_text (valuation_of c.args.at.now) c.args.first c.args.locals.now c.args.before one.0 one.1) (enumerate_from 0 c.args.values.now) c.loop-number.number (both c.loop-number.number (get_or c.args.values.now c.loop-number.number (values.Int (pos 0)))) _ _ (within_enumerated c.args.values.now c.loop-number.number c.loop-number-test.true)
    (enumerated_at c.args.values.now c.loop-number.number (get_or c.args.values.now c.loop-number.number (values.Int (pos 0))) c.loop-number-test.true (get_or_default c.args.values.now c.loop-number.number (values.Int (pos 0)) (get_or c.args.values.now c.loop-number.number (values.Int (pos 0))) c.loop-number-test.true)) refl c.from_residual.ensures.0 c.loop-number.invariant c.in_err-write_local.ensures

pub returns : goal.returns
returns g c = wrote_same _ (ap (flat_map (λ one. local_text (valuation_of c.args.at.now) c.args.first c.args.locals.now c.args.before one.0 one.1)) (enumerated_end c.args.values.now c.loop-number.number c.loop-number-test.false)) c.loop-number.invariant
