use Rattle.base_io.proofs.Writing.{wrote_both, wrote_fails, wrote_longer}
use Rattle.emit_module.specs.Modules.{debug_text}
use Rattle.emit_statements.specs.Sources.{seen}
use Rattle.emit_module.proofs.module.write_traits.Goals as goal

pub returns-in_err-write_default : goal.returns-in_err-write_default
returns-in_err-write_default g c =
    wrote_fails _ c.from_residual.ensures.0 (wrote_longer (debug_text (seen c.args.source.now)) c.in_err-write_default.ensures)

pub returns : goal.returns
returns g c =
    wrote_both c.in_ok-write_default.ensures c.write_debug.ensures
