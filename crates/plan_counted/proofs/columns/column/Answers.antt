use Rattle.std.proofs.Common.{◌+◌, sym, subst, ◌∙◌, arith}
use Rattle.std.proofs.lemmas.Bool.{true≢false}
use Rattle.plan_counted.specs.Counted.{IsTried}
use Rattle.plan_counted.specs.inner.Answers.{IsBestBefore}
use Rattle.plan_counted.proofs.Best.{no_more_rows, none_fewer, one_more_row}
use Rattle.plan_counted.proofs.columns.column.Goals as goal

pub returns-then-has_no_broadcast : goal.returns-then-has_no_broadcast
returns-then-has_no_broadcast c =
    none_fewer c.args.monitor.now c.args.plan.now c.args.condition (c.loop-index.index + 1) c.loop-index.best c.requires.reads c.requires.kind c.loop-index.invariant
    (sym c.has_no_broadcast.ensures ∙ c.if-has_no_broadcast.true)

pub returns-then-not-has_row : goal.returns-then-not-has_row
returns-then-not-has_row c =
    no_more_rows c.args.monitor.now c.args.plan.now c.args.condition (c.loop-index.index + 1) c.loop-index.best (omega arith) c.requires.reads c.requires.kind c.loop-index.invariant
    (λ has. absurd (true≢false (sym (c.has_row.ensures.1 has) ∙ c.if-not-has_row.true)))

pub loop-index-preserved : goal.loop-index-preserved
loop-index-preserved c =
    let monitor = c.args.monitor.now in
    let plan = c.args.plan.now in
    let row = c.loop-index.index + 1 in
    let tried : IsTried monitor c.args.condition row = record {
      has = c.has_row.ensures.0 c.if-not-has_row.false;
      limit = omega (arith, c.loop-index-test.true);
    } in
    subst (IsBestBefore monitor plan c.args.condition (row + 1)) (sym c.better_of-best.ensures)
    (one_more_row monitor plan c.args.condition row c.loop-index.best c.in_ok-told.told c.loop-index.invariant tried c.in_ok-told.ensures)
