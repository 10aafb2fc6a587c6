use Rattle.std.proofs.Common.{◌≤◌, List, length, subst}
use Rattle.lang_monitor.specs.declared.monitor.Block.{Block}
use Rattle.plan_why.specs.inner.Answering.{IsAsked}
use Rattle.plan_why.proofs.Shown.{all_spared, one_more_spared}
use Rattle.plan_why.proofs.answering.answer_of.Goals as goal

pub loop-index-preserved : goal.loop-index-preserved
loop-index-preserved c =
    one_more_spared c.args.monitor.now c.args.plan.now c.args.thing c.loop-index.index c.loop-index.invariant (subst (IsAsked c.args.monitor.now c.args.plan.now c.args.thing c.loop-index.index) c.in-None.is c.in_ok-answer_at.ensures)

pub returns : goal.returns
returns c =
    all_spared c.args.monitor.now c.args.plan.now c.args.thing c.loop-index.index (subst (λ (blocks : List Block). length blocks ≤ c.loop-index.index) c.blocks-index-end.ensures.blocks c.loop-index-test.false) c.loop-index.invariant
