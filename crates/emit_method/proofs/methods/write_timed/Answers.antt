use Rattle.emit_method.specs.Methods.{both_text}
use Rattle.emit_statements.specs.Sources.{seen}
use Rattle.emit_statements.specs.declared.ways.Way.TheVariants as ways
use Rattle.base_io.proofs.Writing.{wrote_both, wrote_fails, wrote_longer}
use Rattle.emit_method.proofs.methods.write_timed.Goals as goal

pub returns-in_err-write_both : goal.returns-in_err-write_both
returns-in_err-write_both g c =
    wrote_fails _ c.from_residual.ensures.0 (wrote_longer (both_text (seen c.args.source.now) c.args.number c.args.method.now ways.For) c.in_err-write_both.ensures)

pub returns : goal.returns
returns g c =
    wrote_both c.in_ok-write_both.ensures c.write_both-2.ensures
