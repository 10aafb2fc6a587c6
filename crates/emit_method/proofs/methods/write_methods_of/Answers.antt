use Rattle.std.proofs.Common.{ap}
use Rattle.emit_method.specs.Methods.{both_text, times_text, try_text}
use Rattle.emit_statements.specs.Sources.{seen}
use Rattle.base_io.proofs.Writing.{wrote_both, wrote_fails, wrote_longer, wrote_same}
use Rattle.emit_method.proofs.methods.write_methods_of.Goals as goal

pub returns-in_err-write_both : goal.returns-in_err-write_both
returns-in_err-write_both g c =
    wrote_fails _ c.from_residual.ensures.0 (wrote_longer (times_text (seen c.args.source.now) c.args.number c.args.method.now) (wrote_longer (try_text (seen c.args.source.now) c.args.number c.args.method.now) (wrote_same _ (ap (both_text (seen c.args.source.now) c.args.number c.args.method.now) c.own_way-way.ensures) c.in_err-write_both.ensures)))

pub returns-in_err-write_try : goal.returns-in_err-write_try
returns-in_err-write_try g c =
    wrote_fails _ c.from_residual-in_err-write_try.ensures.0 (wrote_longer (times_text (seen c.args.source.now) c.args.number c.args.method.now) (wrote_both (wrote_same _ (ap (both_text (seen c.args.source.now) c.args.number c.args.method.now) c.own_way-way.ensures) c.in_ok-write_both.ensures) c.in_err-write_try.ensures))

pub returns : goal.returns
returns g c =
    wrote_both (wrote_both (wrote_same _ (ap (both_text (seen c.args.source.now) c.args.number c.args.method.now) c.own_way-way.ensures) c.in_ok-write_both.ensures) c.in_ok-write_try.ensures) c.write_times.ensures
