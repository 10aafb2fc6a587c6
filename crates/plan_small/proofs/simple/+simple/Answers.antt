use Rattle.std.proofs.Common.{ap, ◌∙◌}
use Rattle.std.specs.List.{list_all}
use Rattle.logic_wp.specs.PlainClaims.{is_simple_statement}
use Rattle.plan_small.proofs.DifferenceRows.{put_simple, simple_parts}
use Rattle.plan_small.proofs.simple.+simple.Goals as goal

pub is_simple_statement-returns-in-Put : goal.is_simple_statement-returns-in-Put
is_simple_statement-returns-in-Put t c = put_simple c.args.statement.now c.in-Put.put c.is_simple_put.result c.in-Put.is c.is_simple_put.ensures

pub is_simple_statement-returns-in-If : goal.is_simple_statement-returns-in-If
is_simple_statement-returns-in-If t c =
    c.all_three.ensures
    ∙ simple_parts c.args.statement.now c.in-If.when c.in-If.then c.in-If.other c.has_difference_rows-condition.result c.are_simple_statements-body.result c.are_simple_statements-rest.result
    c.in-If.is c.has_difference_rows-condition.ensures
    (c.are_simple_statements-body.ensures ∙ ap (list_all is_simple_statement) c.items.ensures)
    (c.are_simple_statements-rest.ensures ∙ ap (list_all is_simple_statement) c.items-in-If.ensures)
