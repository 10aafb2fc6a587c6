use Rattle.std.proofs.Common.{rules, FitsSigned}
use Rattle.std.specs.Int.Signed.{nat_abs-le}
use mir.Syntax.{w64}
use Rattle.machine_implicit.proofs.Sums.{term_small}
use Rattle.machine_implicit.proofs.evaluate.term_number.Goals as goal

pub returns-clause-small : goal.returns-clause-small
returns-clause-small c =
    let fits : FitsSigned w64 c.number_at.result = search rules in
    term_small c.args.term.now.times c.number_at.result c.from.result c.requires fits (nat_abs-le c.number_at.result c.number_at.type_inv) c.from.ensures
