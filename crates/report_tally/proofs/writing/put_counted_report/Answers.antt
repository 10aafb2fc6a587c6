use Rattle.std.proofs.Common.{◌++◌, List, Option, ℕ, length, ap, ap₂, sym, subst, arith}
use Rattle.std.specs.Prelude.{All}
use Rattle.std.specs.List.{flat_map}
use Rattle.machine_events.specs.PlanText.{plan_text}
use Rattle.base_pen.proofs.Putting.{adds_three}
use Rattle.plan_claims.specs.declared.placed.Proof.{Proof}
use Rattle.plan_counted.specs.declared.counted.Column.{Column}
use Rattle.report_tally.specs.CountedTexts.{columns_text, still_owed_text}
use Rattle.report_tally.specs.inner.Lines.{IsShortColumn}
use Rattle.report_tally.proofs.WrittenColumns.{short_columns}
use Rattle.report_tally.proofs.writing.put_counted_report.Goals as goal

pub put_columns-requires-clause-few : goal.put_columns-requires-clause-few
put_columns-requires-clause-few g c = omega (arith, ap {B = ℕ} length c.items-columns.ensures, c.requires.many, c.blocks-blocks.ensures.rule.few_conditions)

pub put_columns-requires-clause-short : goal.put_columns-requires-clause-short
put_columns-requires-clause-short g c =
    subst (All IsShortColumn) (sym c.items-columns.ensures) (short_columns c.args.monitor.now c.args.placed.now.plan.kept c.args.counted.now.columns c.blocks-blocks.ensures.rule c.requires.each)

pub returns : goal.returns
returns g c =
    let monitor = c.args.monitor.now in
    let counted = c.args.counted.now in
    adds_three _ c.put_plan.ensures c.put_still_owed.ensures c.put_columns.ensures
    (ap₂ (λ (columns : List (Option Column)) (proofs : List Proof). plan_text monitor counted.plan ++ flat_map (still_owed_text monitor columns) proofs ++ columns_text monitor columns) c.items-columns.ensures c.items.ensures)
