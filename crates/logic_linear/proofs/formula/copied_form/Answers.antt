use Rattle.logic_linear.proofs.LimitedLemmas.{when_ok}
use Rattle.logic_linear.proofs.ReplacedLemmas.{linear_in_range}
use Rattle.logic_linear.proofs.formula.copied_form.Goals as goal

pub returns-clause-range : goal.returns-clause-range
returns-clause-range c = when_ok c.clone.result _ (linear_in_range c.args.form.now c.terms-terms.ensures.rule)
