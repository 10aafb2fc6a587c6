use Rattle.std.proofs.Common.{◌∙◌, sym}
use Rattle.logic_linear.specs.Substitution.{substituted}
use Rattle.logic_linear.proofs.LimitedLemmas.{parts_stop}
use Rattle.logic_linear.proofs.substitution.+substituted.Goals as goal

pub substituted_parts-returns-in_default : goal.substituted_parts-returns-in_default
substituted_parts-returns-in_default t c = parts_stop (substituted c.args.put.now) c.args.parts.now c.part-item.result c.loop-part.part-index c.loop-part-test.true c.part-item.is (sym c.in_default.is ∙ c.in_ok-part.ensures)
