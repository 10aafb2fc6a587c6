use Rattle.std.proofs.Common.{◌∙◌, sym}
use Rattle.logic_linear.specs.Negation.{negation}
use Rattle.logic_linear.proofs.LimitedLemmas.{parts_stop}
use Rattle.logic_linear.proofs.substitution.+negated.Goals as goal

pub negated_parts-returns-in_default : goal.negated_parts-returns-in_default
negated_parts-returns-in_default t c = parts_stop negation c.args.parts.now c.part-item.result c.loop-part.part-index c.loop-part-test.true c.part-item.is (sym c.in_default.is ∙ c.in_ok-part.ensures)
