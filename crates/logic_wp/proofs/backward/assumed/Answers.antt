use Rattle.std.proofs.Common.{List, subst}
use Rattle.logic_linear.specs.declared.formula.Formula.{Formula}
use Rattle.logic_wp.specs.declared.step.Step.TheVariants.{Assume}
use Rattle.logic_wp.specs.inner.Backward.{AreMade, IsStepped}
use Rattle.logic_wp.proofs.BodyParts.{assuming_side, stepping}
use Rattle.logic_wp.proofs.backward.assumed.Goals as goal

pub returns-in-None : goal.returns-in-None
returns-in-None c = λ post paths are. assuming_side post (Assume c.args.when) paths c.args.side c.in-None.is are

pub returns-in_ok-before_step-in-Some : goal.returns-in_ok-before_step-in-Some
returns-in_ok-before_step-in-Some c = λ post paths are.
    stepping post (Assume c.args.when) paths c.in-Some.parts c.in_ok-before_step-in-Some.field-0 (subst (AreMade post paths) c.in-Some.is are)
    (subst (λ (parts : List Formula). IsStepped (Assume c.args.when) parts c.in_ok-before_step-in-Some.field-0) c.items.ensures c.in_ok-before_step-in-Some.ensures)
