use Rattle.std.proofs.Common.{ℕ, length, ap, arith}
use Rattle.report_verdict.proofs.Counted.{kept_are_few}
use Rattle.report_verdict.proofs.checking.line_of.Goals as goal

pub overflow_add-result-5 : goal.overflow_add-result-5
overflow_add-result-5 c =
    let rule = c.conditions.ensures.rule in
    omega (
      arith,
      kept_are_few c.args.monitor.now c.args.plan.now.kept rule c.requires.kept,
      ap {B = ℕ} length c.items.ensures,
      ap {B = ℕ} length c.conditions.ensures.conditions,
      ap {B = ℕ} length c.blocks-2.ensures.blocks,
      rule.few_conditions,
      rule.few_blocks,
      c.requires.near,
    )
