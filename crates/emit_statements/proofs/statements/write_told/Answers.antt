use Rattle.std.proofs.Common.{refl}
use Rattle.base_io.proofs.Writing.{wrote_same}
use Rattle.emit_statements.proofs.Blocks.{told_says}
use Rattle.emit_statements.specs.Statements.{method_seen}
use Rattle.emit_statements.proofs.statements.write_told.Goals as goal

pub returns : goal.returns
returns g c =
    wrote_same _ (told_says (method_seen c.args.it.now) c.args.it.now.source.now.plan.now c.args.block c.notes_of.result.now refl c.notes_of.ensures) c.write_release.ensures
