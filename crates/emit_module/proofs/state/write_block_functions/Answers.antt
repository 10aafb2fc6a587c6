use Rattle.std.proofs.Common.{◌+◌}
use Rattle.base_io.proofs.Writing.{wrote_both, wrote_fails, wrote_longer}
use Rattle.emit_module.specs.Modules.{body_function}
use Rattle.emit_statements.specs.Sources.{seen}
use Rattle.emit_module.proofs.state.write_block_functions.Goals as goal

pub returns-in_err-write_test_function : goal.returns-in_err-write_test_function
returns-in_err-write_test_function g c =
    wrote_fails _ c.from_residual.ensures.0 (wrote_longer (body_function (seen c.args.source.now) c.args.method.now c.args.place (c.args.first + c.args.place) c.args.parts.now) c.in_err-write_test_function.ensures)

pub returns : goal.returns
returns g c =
    wrote_both c.in_ok-write_test_function.ensures c.write_body_function.ensures
