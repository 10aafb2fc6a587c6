use Rattle.std.proofs.Common.{◌∙◌, ap}
use Rattle.lang_forms.specs.Forms.{is_limited}
use Rattle.lang_forms.proofs.MakingLemmas.{difference_form_of, has_room, raised_form_of, raised_small}
use Rattle.lang_forms.proofs.making.less.Goals as goal

pub raise-requires : goal.raise-requires
raise-requires c = has_room c.in_ok-form.form (ap is_limited c.in_ok-form.ensures ∙ c.requires.limited)

pub into_linear-requires-clause-form : goal.into_linear-requires-clause-form
into_linear-requires-clause-form c =
    raised_form_of c.args.scope.now c.in_ok-form.form _ (difference_form_of c.args.scope.now c.args.left.now c.args.right.now c.in_ok-form.form c.requires.numbers c.in_ok-form.ensures) c.raise.ensures

pub into_linear-requires-clause-small : goal.into_linear-requires-clause-small
into_linear-requires-clause-small c = raised_small c.in_ok-form.form _ (ap is_limited c.in_ok-form.ensures ∙ c.requires.limited) c.raise.ensures
