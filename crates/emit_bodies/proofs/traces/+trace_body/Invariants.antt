use Rattle.std.proofs.Common.{◌≡◌, map, take}
use Rattle.emit_expressions.specs.Scopes.{seen}
use Rattle.emit_bodies.specs.Traces.{in_turn, nothing, statement_trace}
use Rattle.emit_bodies.proofs.traces.+trace_body.Given as goal

abbrev pub invariant-trace_body-loop-statement : goal.invariant-trace_body-loop-statement
invariant-trace_body-loop-statement l =
    l.so_far ≡ in_turn nothing (map (statement_trace (seen l.scope)) (take l.statement-index l.statements))
