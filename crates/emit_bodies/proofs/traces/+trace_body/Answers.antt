use Rattle.std.proofs.Common.{◌∙◌}
use Rattle.emit_expressions.specs.Scopes.{seen}
use Rattle.emit_bodies.specs.Traces.{statement_trace}
use Rattle.emit_bodies.proofs.Turns.{trace-If, trace-Return, trace-Set, turn_ends, turn_goes}
use Rattle.emit_bodies.proofs.traces.+trace_body.Goals as goal

pub trace_body-loop-statement-preserved : goal.trace_body-loop-statement-preserved
trace_body-loop-statement-preserved t c =
    c.and_then-so_far.ensures ∙ turn_goes (statement_trace (seen c.args.scope.now)) c.args.statements.now c.loop-statement.statement-index c.statement-item.result _ c.trace_statement.result c.loop-statement-test.true c.statement-item.is c.trace_statement.ensures c.loop-statement.invariant

pub trace_body-returns : goal.trace_body-returns
trace_body-returns t c =
    turn_ends (statement_trace (seen c.args.scope.now)) c.args.statements.now c.loop-statement.statement-index _ c.loop-statement-test.false c.loop-statement.invariant

pub trace_statement-returns-in-Set : goal.trace_statement-returns-in-Set
trace_statement-returns-in-Set t c =
    c.of_value.ensures ∙ trace-Set (seen c.args.scope.now) _ _ _ _ _ c.is_declared-writes.result c.in-Set.is c.bytes.ensures c.is_declared-writes.ensures

pub trace_statement-returns-in-If : goal.trace_statement-returns-in-If
trace_statement-returns-in-If t c =
    c.or_else.ensures ∙ trace-If (seen c.args.scope.now) _ _ _ _ _ _ _ c.trace_body-one.result c.trace_body-next.result c.in-If.is c.items.ensures c.items-in-If.ensures c.trace_body-one.ensures c.trace_body-next.ensures

pub trace_statement-returns-in-Return : goal.trace_statement-returns-in-Return
trace_statement-returns-in-Return t c =
    c.of_value-in-Return.ensures ∙ trace-Return (seen c.args.scope.now) _ _ _ c.in-Return.is
