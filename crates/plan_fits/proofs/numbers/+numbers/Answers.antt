use Rattle.std.proofs.Common.{ap, ◌∙◌}
use Rattle.std.specs.List.{list_all}
use Rattle.plan_fits.specs.Outside.{is_numberless}
use Rattle.plan_fits.proofs.MadeQuestions.{numberless_parts, numberless_put}
use Rattle.plan_fits.proofs.numbers.+numbers.Goals as goal

pub is_numberless-returns-in-Put : goal.is_numberless-returns-in-Put
is_numberless-returns-in-Put t c = numberless_put c.args.statement.now c.in-Put.put c.is_number.result c.in-Put.is c.is_number.ensures

pub is_numberless-returns-in-If : goal.is_numberless-returns-in-If
is_numberless-returns-in-If t c =
    c.both.ensures
    ∙ numberless_parts c.args.statement.now c.in-If.when c.in-If.then c.in-If.other c.are_numberless-body.result c.are_numberless-rest.result c.in-If.is
    (c.are_numberless-body.ensures ∙ ap (list_all is_numberless) c.items.ensures)
    (c.are_numberless-rest.ensures ∙ ap (list_all is_numberless) c.items-in-If.ensures)
