use Rattle.std.proofs.Common.{◌≤◌, List, length, subst}
use Rattle.lang_monitor.specs.declared.monitor.Block.{Block}
use Rattle.plan_needs.specs.inner.Asked.{IsAskedOf}
use Rattle.plan_needs.proofs.Needed.{all_spared, one_more_spared, shown_first}
use Rattle.plan_needs.proofs.answering.answer_of.Goals as goal

pub loop-index-preserved : goal.loop-index-preserved
loop-index-preserved c =
    one_more_spared c.args.monitor.now c.args.counted.now c.args.thing c.loop-index.index c.loop-index.invariant (subst (IsAskedOf c.args.monitor.now c.args.counted.now c.args.thing c.loop-index.index) c.in-None.is c.in_ok-answer_at.ensures)

pub returns-in-Some : goal.returns-in-Some
returns-in-Some c =
    shown_first c.args.monitor.now c.args.counted.now c.args.thing c.loop-index.index c.in-Some.answer c.loop-index.invariant (subst (IsAskedOf c.args.monitor.now c.args.counted.now c.args.thing c.loop-index.index) c.in-Some.is c.in_ok-answer_at.ensures)

pub returns : goal.returns
returns c =
    all_spared c.args.monitor.now c.args.counted.now c.args.thing c.loop-index.index (subst (λ (blocks : List Block). length blocks ≤ c.loop-index.index) c.blocks-index-end.ensures.blocks c.loop-index-test.false) c.loop-index.invariant
