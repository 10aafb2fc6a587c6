use Rattle.std.proofs.Common.{List, ◌++◌, ap, codes}
use Rattle.base_io.proofs.Writing.{wrote_both, wrote_fails, wrote_longer, wrote_same}
use Rattle.lang_monitor.specs.declared.monitor.Field.{Field}
use Rattle.logic_solve.specs.Solutions.{valuation_of}
use Rattle.report_reasons.specs.ReasonText.{after_text, fields_text}
use Rattle.report_failures.proofs.kept.write_change.Goals as goal

pub returns-in_err-write_fields : goal.returns-in_err-write_fields
returns-in_err-write_fields g c =
    let text = ap (λ (fields : List Field). fields_text (valuation_of c.args.before.now) fields ++ codes " to" ++ after_text c.args.monitor.now c.args.after.now) c.fields.ensures.fields in
    wrote_same _ text (wrote_fails _ c.from_residual.ensures.0 (wrote_longer (after_text c.args.monitor.now c.args.after.now) (wrote_longer (codes " to") c.in_err-write_fields.ensures)))

pub returns-in_err-write_piece : goal.returns-in_err-write_piece
returns-in_err-write_piece g c =
    let text = ap (λ (fields : List Field). fields_text (valuation_of c.args.before.now) fields ++ codes " to" ++ after_text c.args.monitor.now c.args.after.now) c.fields.ensures.fields in
    wrote_same _ text (wrote_fails _ c.from_residual-in_err-write_piece.ensures.0 (wrote_longer (after_text c.args.monitor.now c.args.after.now) (wrote_both c.in_ok-write_fields.ensures c.in_err-write_piece.ensures)))

pub returns : goal.returns
returns g c =
    let text = ap (λ (fields : List Field). fields_text (valuation_of c.args.before.now) fields ++ codes " to" ++ after_text c.args.monitor.now c.args.after.now) c.fields.ensures.fields in
    wrote_same _ text (wrote_both (wrote_both c.in_ok-write_fields.ensures c.in_ok-write_piece.ensures) c.write_after.ensures)
