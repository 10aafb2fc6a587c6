use Rattle.std.proofs.Common.{OnErr, OnOk, rules, subst, sym, ◌∙◌}
use Rattle.std.proofs.lemmas.Result.{IfOk-weaker}
use Rattle.lang_monitor.specs.declared.monitor.Stmt.TheViews.{the_lemmas}
use Rattle.lang_monitor.specs.Bodies.{Memory}
use Rattle.lang_monitor.specs.Statements.{Effect}
use Rattle.machine_implicit.specs.inner.Held.{given, held, held_places, Leaves64, RunsWhole}
use Rattle.machine_implicit.proofs.Running.{few_kept, left_more, left_fails, statement_fits}
use Rattle.machine_implicit.proofs.StatementForms.{branch_runs, on_any_err, other_runs, put_fits, put_is}
use Rattle.machine_implicit.proofs.run.+run_statement.Goals as goal

-- ---- assignments

pub run_statement-assign-requires-clause-fits : goal.run_statement-assign-requires-clause-fits
run_statement-assign-requires-clause-fits t c =
    put_fits (held_places c.args.state.now (given c.args.inputs.now c.args.locals.now)) c.args.statement.now c.in-Put.put c.in-Put.is c.requires.fits

pub run_statement-returns-in-Put-clause-ran : goal.run_statement-returns-in-Put-clause-ran
run_statement-returns-in-Put-clause-ran t c =
    subst (λ (effect : Effect Memory). OnOk c.assign.result (RunsWhole effect (held c.args.state.now c.args.locals.now) (held c.assign.new.state c.assign.new.locals)))
    (put_is c.args.inputs.now c.args.statement.now c.in-Put.put c.in-Put.is) c.assign.ensures.ran

pub run_statement-returns-in-Put-clause-overflowed : goal.run_statement-returns-in-Put-clause-overflowed
run_statement-returns-in-Put-clause-overflowed t c =
    subst (λ (effect : Effect Memory). OnErr c.assign.result (Leaves64 effect (held c.args.state.now c.args.locals.now)))
    (put_is c.args.inputs.now c.args.statement.now c.in-Put.put c.in-Put.is) c.assign.ensures.overflowed

-- ---- branches

pub run_statement-returns-then-formula_truth-clause-ran : goal.run_statement-returns-then-formula_truth-clause-ran
run_statement-returns-then-formula_truth-clause-ran t c =
    IfOk-weaker c.run_statements.result _ _
    (λ x runs. branch_runs c.args.inputs.now (held c.args.state.now c.args.locals.now) (held c.run_statements.new.state c.run_statements.new.locals) c.args.statement.now c.in-If.when c.in-If.«then» c.in-If.other c.in-If.is
    (sym (rw (c.values.ensures.values, c.values-in-If.ensures.values) at c.formula_truth.ensures) ∙ c.if-formula_truth.true) runs)
    (rw c.items.ensures at c.run_statements.ensures.ran)

pub run_statement-returns-else-formula_truth-clause-ran : goal.run_statement-returns-else-formula_truth-clause-ran
run_statement-returns-else-formula_truth-clause-ran t c =
    IfOk-weaker c.run_statements-else-formula_truth.result _ _
    (λ x runs. other_runs c.args.inputs.now (held c.args.state.now c.args.locals.now) (held c.run_statements-else-formula_truth.new.state c.run_statements-else-formula_truth.new.locals) c.args.statement.now c.in-If.when c.in-If.«then» c.in-If.other c.in-If.is
    (sym (rw (c.values.ensures.values, c.values-in-If.ensures.values) at c.formula_truth.ensures) ∙ c.if-formula_truth.false) runs)
    (rw c.items-else-formula_truth.ensures at c.run_statements-else-formula_truth.ensures.ran)

-- ---- one after the other

pub run_statements-run_statement-requires : goal.run_statements-run_statement-requires
run_statements-run_statement-requires t c = (
  search (rules, the_lemmas),
  (
    few_kept (held c.args.state.now c.args.locals.now) (held c.loop-statement.state c.loop-statement.locals) c.args.inputs.now c.loop-statement.invariant.kinds c.requires.few,
    statement_fits c.args.inputs.now c.args.body.now (held c.args.state.now c.args.locals.now) (held c.loop-statement.state c.loop-statement.locals) c.loop-statement.statement-index c.statement-item.result c.loop-statement-test.true
        c.statement-item.is c.loop-statement.invariant.kinds c.requires.fits,
  ),
)

pub run_statements-returns-in_err-run_statement-clause-overflowed : goal.run_statements-returns-in_err-run_statement-clause-overflowed
run_statements-returns-in_err-run_statement-clause-overflowed t c =
    on_any_err _ c.from_residual.result
    (left_fails c.args.inputs.now c.args.body.now (held c.args.state.now c.args.locals.now) (held c.loop-statement.state c.loop-statement.locals) c.loop-statement.statement-index c.statement-item.result c.loop-statement-test.true
    c.statement-item.is c.loop-statement.invariant c.in_err-run_statement.ensures.overflowed)

pub run_statements-loop-statement-preserved : goal.run_statements-loop-statement-preserved
run_statements-loop-statement-preserved t c =
    left_more c.args.inputs.now c.args.body.now (held c.args.state.now c.args.locals.now) (held c.loop-statement.state c.loop-statement.locals) (held c.run_statement.new.state c.run_statement.new.locals) c.loop-statement.statement-index c.statement-item.result
    c.loop-statement-test.true c.statement-item.is c.loop-statement.invariant c.in_ok-run_statement.ensures.ran c.in_ok-run_statement.ensures.kinds
