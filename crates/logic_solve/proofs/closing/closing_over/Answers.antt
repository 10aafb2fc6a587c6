use Rattle.logic_solve.proofs.LiteralLemmas.{left_open}
use Rattle.logic_solve.proofs.closing.closing_over.Goals as goal

pub returns-in-None : goal.returns-in-None
returns-in-None c =
    left_open c.args.literals.now (rw c.in_default.is at c.in_ok-cert.ensures) (rw c.in-None.is at c.in_ok-refuting_chain.ensures.finds) (rw c.in-None.is at c.in_ok-refuting_chain.ensures.light)
