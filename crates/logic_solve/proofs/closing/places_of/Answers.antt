use Rattle.std.proofs.Common.{sym, ◌∙◌}
use Rattle.logic_solve.proofs.LiteralLemmas.{places_next}
use Rattle.logic_solve.proofs.closing.places_of.Goals as goal

pub loop-literal-preserved : goal.loop-literal-preserved
loop-literal-preserved c =
    c.in_ok-note_literal.ensures ∙ rw c.loop-literal.invariant (sym (places_next c.args.literals.now c.loop-literal.literal-index c.literal-item.result c.loop-literal-test.true c.literal-item.is))
