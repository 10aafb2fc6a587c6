use Rattle.std.proofs.Common.{ℕ, ◌+◌, Option, arith}
use Rattle.std.proofs.lemmas.Grind.{common_steps}
use Rattle.plan_place.proofs.Placing.{each_more}
use Rattle.plan_counted.specs.declared.counted.Column.{Column}
use Rattle.plan_counted.specs.inner.Answers.{IsColumn}
use Rattle.plan_counted.proofs.columns.columns_of.Goals as goal

pub loop-index-preserved : goal.loop-index-preserved
loop-index-preserved c =
    let made = c.in_ok-push.ensures.items in
    let many = c.loop-index.invariant.many in record {
      many = grind (arith, common_steps, made, many);
      each = each_more (λ (one : ℕ × Option Column). IsColumn c.args.monitor.now c.args.plan.now one.0 one.1) 1 c.loop-index.all.items c.push.new.self.items c.in_ok-column_of.field-0
          (c.loop-index.index + 1) made (omega (arith, many)) c.loop-index.invariant.each c.in_ok-column_of.ensures;
    }
