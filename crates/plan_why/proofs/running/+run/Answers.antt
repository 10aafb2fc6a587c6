use Rattle.std.proofs.Common.{◌∷◌, [], List, subst, sym, ◌∙◌}
use Rattle.lang_monitor.specs.declared.monitor.Stmt.{Stmt}
use Rattle.logic_solve.specs.Solutions.{valuation_of}
use Rattle.plan_why.specs.inner.Running.{IsRun}
use Rattle.plan_why.proofs.Bodies.{ran_more}
use Rattle.plan_why.proofs.Wide.{put_ran, ran_then, ran_other, wide_at, wide_test}
use Rattle.plan_why.proofs.running.+run.Goals as goal

pub after_body-loop-statement-preserved : goal.after_body-loop-statement-preserved
after_body-loop-statement-preserved t c =
    ran_more c.args.body.now c.loop-statement.statement-index c.statement-item.result (valuation_of c.args.at.now) (valuation_of c.loop-statement.now) (valuation_of c.in-Some.next) c.loop-statement-test.true c.statement-item.is
    c.loop-statement.invariant (subst (IsRun (c.statement-item.result ∷ []) (valuation_of c.loop-statement.now)) c.in-Some.is c.in_ok-after_statement.ensures)

pub after_body-returns-in-None : goal.after_body-returns-in-None
after_body-returns-in-None t c =
    wide_at c.args.body.now c.loop-statement.statement-index c.statement-item.result (valuation_of c.args.at.now) (valuation_of c.loop-statement.now) c.loop-statement-test.true c.statement-item.is c.loop-statement.invariant
    (subst (IsRun (c.statement-item.result ∷ []) (valuation_of c.loop-statement.now)) c.in-None.is c.in_ok-after_statement.ensures)

pub after_statement-returns-in_ok-after_put-in-Put : goal.after_statement-returns-in_ok-after_put-in-Put
after_statement-returns-in_ok-after_put-in-Put t c =
    put_ran c.args.statement.now c.in-Put.put (valuation_of c.args.at.now) c.in_ok-after_put-in-Put.field-0 c.in-Put.is c.in_ok-after_put-in-Put.ensures

pub after_statement-returns-in-None : goal.after_statement-returns-in-None
after_statement-returns-in-None t c = wide_test c.args.statement.now c.in-If.when c.in-If.then c.in-If.other (valuation_of c.args.at.now) c.in-If.is c.in-None.ensures

pub after_statement-returns-in_ok-after_body-in-Some-true : goal.after_statement-returns-in_ok-after_body-in-Some-true
after_statement-returns-in_ok-after_body-in-Some-true t c =
    ran_then c.args.statement.now c.in-If.when c.in-If.then c.in-If.other (valuation_of c.args.at.now) c.in_ok-after_body-in-Some-true.field-0 c.in-If.is (sym c.in-Some-true.field-0-test ∙ c.in-Some-true.ensures)
    (subst (λ (body : List Stmt). IsRun body (valuation_of c.args.at.now) c.in_ok-after_body-in-Some-true.field-0) c.items.ensures c.in_ok-after_body-in-Some-true.ensures)

pub after_statement-returns-in_ok-after_body-in-Some-false : goal.after_statement-returns-in_ok-after_body-in-Some-false
after_statement-returns-in_ok-after_body-in-Some-false t c =
    ran_other c.args.statement.now c.in-If.when c.in-If.then c.in-If.other (valuation_of c.args.at.now) c.in_ok-after_body-in-Some-false.field-0 c.in-If.is (sym c.in-Some-false.field-0-test ∙ c.in-Some-false.ensures)
    (subst (λ (body : List Stmt). IsRun body (valuation_of c.args.at.now) c.in_ok-after_body-in-Some-false.field-0) c.items-in-Some-false.ensures c.in_ok-after_body-in-Some-false.ensures)
