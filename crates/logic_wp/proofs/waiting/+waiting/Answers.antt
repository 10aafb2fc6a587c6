use Rattle.std.proofs.Common.{rules}
use Rattle.logic_linear.specs.declared.formula.Formula.TheViews.{the_lemmas}
use Rattle.logic_linear.proofs.LinearLemmas.{mapped_at}
use Rattle.logic_wp.specs.inner.Movable.{is_movable}
use Rattle.logic_wp.proofs.waiting.+waiting.Goals as goal

pub waiting_parts-for_waiting-requires : goal.waiting_parts-for_waiting-requires
waiting_parts-for_waiting-requires t c =
    (search (rules, the_lemmas), rw c.part-item.is (mapped_at is_movable c.args.parts.now _ c.part-item.result c.loop-part-test.true c.requires))
