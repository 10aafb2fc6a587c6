use Rattle.logic_wp.proofs.FormRanges.{form_in_range}
use Rattle.logic_wp.proofs.ranges.read_form.Goals as goal

pub returns : goal.returns
returns c = form_in_range c.args.form.now c.terms.ensures.rule
