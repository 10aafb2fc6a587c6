use Rattle.emit_statements.specs.Sources.{seen}
use Rattle.emit_module.specs.Modules.{with_impl}
use Rattle.base_io.proofs.Writing.{wrote_both, wrote_fails, wrote_longer}
use Rattle.emit_module.proofs.module.write_impl.Goals as goal

pub returns-in_err-write_own_impl : goal.returns-in_err-write_own_impl
returns-in_err-write_own_impl g c =
    wrote_fails _ c.from_residual.ensures.0 (wrote_longer (with_impl (seen c.args.source.now)) c.in_err-write_own_impl.ensures)

pub returns : goal.returns
returns g c =
    wrote_both c.in_ok-write_own_impl.ensures c.write_with_impl.ensures
