use Rattle.std.proofs.Common.{codes, [], rules}
use Rattle.base_io.proofs.Writing.{wrote_same}
use Rattle.emit_statements.proofs.Choices.{if_false, if_true}
use Rattle.emit_statements.specs.Conditions.{around_name}
use Rattle.emit_statements.specs.Sources.{seen}
use Rattle.emit_statements.proofs.statements.write_note_test.Goals as goal

pub returns-then-note : goal.returns-then-note
returns-then-note g c =
    wrote_same _ (if_true c.args.note.tested (around_name (seen c.args.source.now) (codes " && copy.state.") c.args.note.condition (codes "()")) [] c.if-note.true) c.write_around_name.ensures

pub returns : goal.returns
returns g c =
    wrote_same _ (if_false c.args.note.tested (around_name (seen c.args.source.now) (codes " && copy.state.") c.args.note.condition (codes "()")) [] c.if-note.false) (search rules)
