use Rattle.base_io.proofs.Writing.{wrote_same}
use Rattle.emit_statements.proofs.Blocks.{releases_none, releases_some}
use Rattle.emit_statements.specs.Sources.{seen}
use Rattle.emit_statements.proofs.statements.write_release.Goals as goal

pub returns-then-not-are_heard : goal.returns-then-not-are_heard
returns-then-not-are_heard g c =
    wrote_same _ (releases_none (seen c.args.source.now) c.args.notes.now _ c.are_heard.ensures c.if-not-are_heard.true) c.write_piece.ensures

pub returns : goal.returns
returns g c =
    wrote_same _ (releases_some (seen c.args.source.now) c.args.notes.now _ c.are_heard.ensures c.if-not-are_heard.false) c.write_copy.ensures
