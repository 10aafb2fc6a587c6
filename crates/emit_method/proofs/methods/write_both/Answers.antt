use Rattle.emit_method.specs.Methods.{with_text}
use Rattle.emit_statements.specs.Sources.{seen}
use Rattle.base_io.proofs.Writing.{wrote_both, wrote_fails, wrote_longer}
use Rattle.emit_method.proofs.methods.write_both.Goals as goal

pub returns-in_err-write_method : goal.returns-in_err-write_method
returns-in_err-write_method g c =
    wrote_fails _ c.from_residual.ensures.0 (wrote_longer (with_text (seen c.args.source.now) c.args.number c.args.method.now c.args.way) c.in_err-write_method.ensures)

pub returns : goal.returns
returns g c =
    wrote_both c.in_ok-write_method.ensures c.write_with.ensures
