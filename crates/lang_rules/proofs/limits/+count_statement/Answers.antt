use Rattle.std.proofs.Common.{◌-◌, arith, rules, ◌∙◌, ap}
use Rattle.std.proofs.lemmas.Result.{err_from_is_err_and}
use Rattle.lang_rules.specs.Rules.{places_in, statement_places}
use Rattle.lang_rules.specs.inner.Counting.{counted}
use Rattle.lang_rules.proofs.CountedDown.{counted_more, counted_all, counted_stop}
use Rattle.lang_rules.proofs.Findings.{counted-If_ok, counted-If_err}
use Rattle.lang_rules.proofs.limits.+count_statement.Goals as goal

pub count_statement-returns-in_err-left-in-If : goal.count_statement-returns-in_err-left-in-If
count_statement-returns-in_err-left-in-If t c =
    let p = err_from_is_err_and c.from_residual.result c.from_residual.ensures.1 in
    let first = c.in_err-left-in-If.ensures ∙ ap (λ ss. counted (places_in ss) (c.args.left - 1)) c.items.ensures in
    rw (p.1, p.2, c.in-If.is) (counted-If_err c.in-If.at c.in-If.when c.in-If.«then» c.in-If.other c.args.left _ (search rules) first)

pub count_statement-returns-in_ok-left-in-If : goal.count_statement-returns-in_ok-left-in-If
count_statement-returns-in_ok-left-in-If t c =
    let first = c.in_ok-left-in-If.ensures ∙ ap (λ ss. counted (places_in ss) (c.args.left - 1)) c.items.ensures in
    let second = c.count_statements-in-If.ensures ∙ ap (λ ss. counted (places_in ss) c.in_ok-left-in-If.left) c.items-in-If.ensures in
    rw c.in-If.is (counted-If_ok c.in-If.at c.in-If.when c.in-If.«then» c.in-If.other c.args.left c.in_ok-left-in-If.left _ (search rules) first second)

pub count_statements-loop-statement-preserved : goal.count_statements-loop-statement-preserved
count_statements-loop-statement-preserved t c =
    counted_more statement_places c.args.statements.now c.loop-statement.statement-index c.statement-item.result c.args.left c.loop-statement.rest c.in_ok-rest.rest (search rules) c.statement-item.is c.loop-statement.invariant c.in_ok-rest.ensures

pub count_statements-returns-in_err-rest : goal.count_statements-returns-in_err-rest
count_statements-returns-in_err-rest t c =
    let p = err_from_is_err_and c.from_residual.result c.from_residual.ensures.1 in
    rw (p.1, p.2) (counted_stop statement_places c.args.statements.now c.loop-statement.statement-index c.statement-item.result c.args.left c.loop-statement.rest _ (search rules) c.statement-item.is c.loop-statement.invariant c.in_err-rest.ensures)

pub count_statements-returns : goal.count_statements-returns
count_statements-returns t c =
    counted_all statement_places c.args.statements.now c.loop-statement.statement-index c.args.left _ (omega arith) c.loop-statement.invariant
