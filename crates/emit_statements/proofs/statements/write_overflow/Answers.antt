use Rattle.std.proofs.Common.{◌∙◌, ap, codes}
use Rattle.base_io.proofs.Writing.{wrote_same}
use Rattle.machine_events.specs.Configurations.{block_condition}
use Rattle.emit_statements.specs.Conditions.{around_name}
use Rattle.emit_statements.specs.Sources.{seen}
use Rattle.emit_statements.specs.inner.Parts.{guarded_end}
use Rattle.emit_statements.proofs.statements.write_overflow.Goals as goal

pub returns : goal.returns
returns g c =
    wrote_same _ (ap (around_name (seen c.args.it.now.source.now) (codes " else {\n            self.") (block_condition c.args.it.now.source.now.monitor.now c.args.block)) (c.guarded_end.ensures ∙ ap guarded_end c.may_refuse.ensures)) c.write_around_own_name.ensures
