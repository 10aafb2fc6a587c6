use Rattle.machine_implicit.specs.inner.Held.{held}
use Rattle.std.proofs.Common.{drop}
use Rattle.machine_implicit.proofs.Running.{IsLeft}
use Rattle.machine_implicit.proofs.run.+run_statement.Given as goal

abbrev pub invariant-run_statements-loop-statement : goal.invariant-run_statements-loop-statement
invariant-run_statements-loop-statement l = IsLeft l.inputs l.body (held l.initial.state l.initial.locals) (drop l.statement-index l.body) (held l.state l.locals)
