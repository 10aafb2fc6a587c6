use Rattle.std.proofs.Common.{◌∙◌, ap}
use Rattle.lang_forms.specs.Forms.{is_limited}
use Rattle.lang_forms.proofs.MakingLemmas.{limited_is_small, difference_form_of}
use Rattle.lang_forms.proofs.making.at_most.Goals as goal

pub into_linear-requires-clause-form : goal.into_linear-requires-clause-form
into_linear-requires-clause-form c = difference_form_of c.args.scope.now c.args.left.now c.args.right.now c.in_ok-form.form c.requires.numbers c.in_ok-form.ensures

pub into_linear-requires-clause-small : goal.into_linear-requires-clause-small
into_linear-requires-clause-small c = limited_is_small c.in_ok-form.form (ap is_limited c.in_ok-form.ensures ∙ c.requires.limited)
