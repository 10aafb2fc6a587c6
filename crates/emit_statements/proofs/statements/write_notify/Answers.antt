use Rattle.std.proofs.Common.{codes, ap}
use Rattle.base_io.proofs.Writing.{wrote_same}
use Rattle.emit_statements.specs.Conditions.{around_name}
use Rattle.emit_statements.specs.Sources.{seen}
use Rattle.emit_statements.proofs.statements.write_notify.Goals as goal

pub returns : goal.returns
returns g c =
    wrote_same _ (ap (λ t. around_name (seen c.args.source.now) (codes "        self.") c.args.note.condition t) c.notify_bytes.ensures) c.write_around_name.ensures
