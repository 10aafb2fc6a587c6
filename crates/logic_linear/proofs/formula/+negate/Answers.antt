use Rattle.std.proofs.Common.{rules}
use Rattle.logic_linear.specs.declared.formula.Formula.TheViews.{the_lemmas}
use Rattle.logic_linear.specs.Negation.{can_negate}
use Rattle.logic_linear.proofs.LinearLemmas.{mapped_at}
use Rattle.logic_linear.proofs.formula.+negate.Goals as goal

pub negate_parts-negate-requires : goal.negate_parts-negate-requires
negate_parts-negate-requires t c =
    (search (rules, the_lemmas), rw c.part-item.is (mapped_at can_negate _ _ c.part-item.result c.loop-part-test.true c.requires))
