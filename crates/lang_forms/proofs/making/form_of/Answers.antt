use Rattle.lang_forms.proofs.MakingLemmas.{limited_is_small, part_form_of, part_limited}
use Rattle.lang_forms.proofs.making.form_of.Goals as goal

pub into_linear-requires-clause-form : goal.into_linear-requires-clause-form
into_linear-requires-clause-form c = part_form_of c.args.scope.now c.args.expression.now c.in_ok-flat_of.field-0 c.requires.numbers c.in_ok-flat_of.ensures

pub into_linear-requires-clause-small : goal.into_linear-requires-clause-small
into_linear-requires-clause-small c =
    limited_is_small c.in_ok-flat_of.field-0 (part_limited c.args.scope.now c.args.expression.now c.in_ok-flat_of.field-0 c.requires.numbers (record { fine = c.requires.fine; int = c.requires.int }) c.in_ok-flat_of.ensures)
