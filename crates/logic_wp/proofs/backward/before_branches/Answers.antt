use Rattle.std.proofs.Common.{subst}
use Rattle.logic_linear.specs.declared.formula.Formula.{Formula}
use Rattle.logic_linear.specs.Negation.{negation}
use Rattle.logic_wp.specs.Paths.{assuming}
use Rattle.logic_wp.specs.inner.Backward.{AreMade}
use Rattle.logic_wp.proofs.backward.before_branches.Goals as goal

pub returns : goal.returns
returns c = λ post paths more one two.
    c.in_ok-both_sides.ensures post (assuming c.args.when.now paths) (assuming (negation c.args.when.now) more)
    (subst (λ (when : Formula). AreMade post (assuming when paths) c.in_ok-firsts.firsts) c.in_ok-whens.ensures (c.in_ok-firsts.ensures post paths one))
    (subst (λ (when : Formula). AreMade post (assuming when more) c.in_ok-seconds.seconds) c.in_ok-negated.ensures (c.in_ok-seconds.ensures post more two))
