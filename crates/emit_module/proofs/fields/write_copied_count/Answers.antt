use Rattle.std.proofs.Common.{codes}
use Rattle.emit_statements.specs.Sources.{seen}
use Rattle.emit_statements.specs.Conditions.{around_count}
use Rattle.base_io.proofs.Writing.{wrote_both, wrote_fails, wrote_longer}
use Rattle.emit_module.proofs.fields.write_copied_count.Goals as goal

pub returns-in_err-write_around_count : goal.returns-in_err-write_around_count
returns-in_err-write_around_count g c =
    wrote_fails _ c.from_residual.ensures.0 (wrote_longer (around_count (seen c.args.source.now) (codes ": self.") c.args.number (codes ",\n")) c.in_err-write_around_count.ensures)

pub returns : goal.returns
returns g c =
    wrote_both c.in_ok-write_around_count.ensures c.write_around_count-2.ensures
