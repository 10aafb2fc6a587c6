use Rattle.logic_solve.proofs.LiteralLemmas.{chain_certificate}
use Rattle.logic_solve.proofs.closing.chain_over.Goals as goal

pub returns : goal.returns
returns c =
    chain_certificate c.args.literals.now c.first_sum.result c.args.combines.items c.in_ok-combines.combines.items c.of.result c.first_sum.ensures c.of.ensures
    c.in_ok-combines.ensures.closes c.in_ok-combines.ensures.lean c.requires.closes
