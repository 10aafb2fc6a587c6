use Rattle.base_io.proofs.Writing.{wrote_same}
use Rattle.emit_statements.proofs.Tests.{test_own, test_shared}
use Rattle.emit_statements.specs.Statements.{method_seen}
use Rattle.emit_statements.proofs.statements.write_call_of_test.Goals as goal

pub returns-then-tests_alone : goal.returns-then-tests_alone
returns-then-tests_alone g c =
    wrote_same _ (test_own (method_seen c.args.it.now) c.args.block _ _ c.condition_of.ensures c.tests_alone.ensures c.if-tests_alone.true) c.write_own_call.ensures

pub returns : goal.returns
returns g c =
    wrote_same _ (test_shared (method_seen c.args.it.now) c.args.block _ _ c.condition_of.ensures c.tests_alone.ensures c.if-tests_alone.false) c.write_around_own_name.ensures
