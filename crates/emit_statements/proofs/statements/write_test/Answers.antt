use Rattle.std.proofs.Common.{rules}
use Rattle.base_io.proofs.Writing.{wrote_same}
use Rattle.emit_statements.proofs.Runs.{test_none, test_refuses, test_waits}
use Rattle.emit_statements.specs.Statements.{method_seen}
use Rattle.emit_statements.proofs.statements.write_test.Goals as goal

pub returns-then-not-is_guarded : goal.returns-then-not-is_guarded
returns-then-not-is_guarded g c =
    wrote_same _ (test_none (method_seen c.args.it.now) c.args.block c.args.tries _ c.is_guarded.ensures c.if-not-is_guarded.true) (search rules)

pub returns-then-refuses_at : goal.returns-then-refuses_at
returns-then-refuses_at g c =
    wrote_same _ (test_refuses (method_seen c.args.it.now) c.args.block c.args.tries _ _ c.is_guarded.ensures c.if-not-is_guarded.false c.refuses_at.ensures c.if-refuses_at.true) c.write_refusal.ensures

pub returns : goal.returns
returns g c =
    wrote_same _ (test_waits (method_seen c.args.it.now) c.args.block c.args.tries _ _ c.is_guarded.ensures c.if-not-is_guarded.false c.refuses_at.ensures c.if-refuses_at.false) c.write_loop.ensures
