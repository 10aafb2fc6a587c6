use Rattle.std.proofs.Common.{rules}
use Rattle.base_io.proofs.Writing.{wrote_same}
use Rattle.emit_module.proofs.Functions.{no_test, some_test}
use Rattle.emit_statements.specs.Sources.{seen}
use Rattle.emit_module.proofs.state.write_test_function.Goals as goal

pub returns-then-not-tests_guard : goal.returns-then-not-tests_guard
returns-then-not-tests_guard g c =
    wrote_same _ (no_test (seen c.args.source.now) c.args.method.now c.args.place c.args.block c.args.parts.now _ _ c.condition_of-condition.ensures c.tests_guard.ensures c.if-not-tests_guard.true) (search rules)

pub returns : goal.returns
returns g c =
    wrote_same _ (some_test (seen c.args.source.now) c.args.method.now c.args.place c.args.block c.args.parts.now _ _ _ c.condition_of-condition.ensures c.tests_guard.ensures c.tests_alone-alone.ensures c.if-not-tests_guard.false) c.write_own_guard.ensures
