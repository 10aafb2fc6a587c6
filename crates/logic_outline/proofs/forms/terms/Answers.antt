use Rattle.logic_outline.proofs.FormLemmas.{terms_none, terms_rest}
use Rattle.logic_outline.proofs.forms.terms.Goals as goal

pub returns-in-Some : goal.returns-in-Some
returns-in-Some c = terms_rest c.args.bytes.now (c.in-Some.count, c.in-Some.rest) c.all_terms.result c.in-Some.ensures c.all_terms.ensures

pub returns-in-None : goal.returns-in-None
returns-in-None c = terms_none c.args.bytes.now c.in-None.ensures
