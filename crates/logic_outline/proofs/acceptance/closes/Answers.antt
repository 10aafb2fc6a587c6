use Rattle.std.proofs.Common.{refl, ◌∙◌}
use Rattle.logic_linear.specs.declared.formula.Formula.TheVariants as formulas
use Rattle.logic_outline.specs.inner.Branches.{met_literals}
use Rattle.logic_outline.proofs.BranchLemmas.{closed_so}
use Rattle.logic_outline.proofs.acceptance.closes.Goals as goal

pub returns : goal.returns
returns c =
    closed_so (met_literals c.args.met.now) (formulas.All c.of.result) c.of.result c.args.cert.now c.accepts.result refl (c.of.ensures ∙ c.in_ok-parts.ensures) c.accepts.ensures.exact
