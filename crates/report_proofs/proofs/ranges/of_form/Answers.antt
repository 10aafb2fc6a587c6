use Rattle.report_proofs.proofs.TypedNumbers.{form_typed}
use Rattle.report_proofs.proofs.ranges.of_form.Goals as goal

pub returns : goal.returns
returns c = form_typed c.args.form.now c.terms-terms.result.now c.terms-terms.ensures.terms c.terms-terms.ensures.rule c.of_places.ensures c.of_count.ensures
