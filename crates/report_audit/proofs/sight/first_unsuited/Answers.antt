use Rattle.std.proofs.Common.{◌≤◌, ◌<◌, ℕ, length, ap, arith}
use Rattle.report_audit.proofs.AtSight.{suited_more, unsuited_here}
use Rattle.report_audit.proofs.sight.first_unsuited.Goals as goal

pub returns-then-not-suits_as : goal.returns-then-not-suits_as
returns-then-not-suits_as c =
    let rule = c.conditions-index-end.ensures.rule in
    let low : c.loop-index.index < length c.args.monitor.now.conditions = omega (arith, c.loop-index-test.true, ap {B = ℕ} length c.conditions-index-end.ensures.conditions) in
    unsuited_here c.args.monitor.now c.args.plan.now c.loop-index.index c.suits_as.result rule low c.suits_as.ensures c.if-not-suits_as.true c.loop-index.invariant

pub loop-index-preserved : goal.loop-index-preserved
loop-index-preserved c =
    suited_more c.args.monitor.now c.args.plan.now c.loop-index.index c.suits_as.result c.conditions-index-end.ensures.rule c.suits_as.ensures c.if-not-suits_as.false c.loop-index.invariant

pub loop-index-init : goal.loop-index-init
loop-index-init c = λ other first last. absurd (omega (arith, first, last))

pub returns : goal.returns
returns c =
    let end : length c.args.monitor.now.conditions ≤ c.loop-index.index = omega (arith, c.loop-index-test.false, ap {B = ℕ} length c.conditions-index-end.ensures.conditions) in
    λ number is. c.loop-index.invariant number is.0 (omega (arith, end, is.1))
