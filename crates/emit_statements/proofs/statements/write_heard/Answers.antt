use Rattle.std.proofs.Common.{[], rules}
use Rattle.emit_code.specs.Code.{is_waited_on}
use Rattle.base_io.proofs.Writing.{wrote_same}
use Rattle.emit_statements.proofs.Choices.{no_text, yes_text}
use Rattle.emit_statements.specs.Sources.{seen}
use Rattle.emit_statements.specs.Statements.{note_text}
use Rattle.emit_statements.proofs.statements.write_heard.Goals as goal

pub returns-then-not-is_waited_on : goal.returns-then-not-is_waited_on
returns-then-not-is_waited_on g c =
    wrote_same _ (no_text (is_waited_on c.args.source.now.monitor.now c.args.note.condition) _ (note_text (seen c.args.source.now) c.args.note) [] c.is_waited_on.ensures c.if-not-is_waited_on.true) (search rules)

pub returns : goal.returns
returns g c =
    wrote_same _ (yes_text (is_waited_on c.args.source.now.monitor.now c.args.note.condition) _ (note_text (seen c.args.source.now) c.args.note) [] c.is_waited_on.ensures c.if-not-is_waited_on.false) c.write_note.ensures
