use Rattle.std.proofs.Common.{rules}
use Rattle.base_io.proofs.Writing.{wrote_same}
use Rattle.emit_comments.specs.Comments.{empty_line}
use Rattle.emit_comments.proofs.Lasts.{due_none, due_whole}
use Rattle.emit_comments.proofs.docs.write_gap.Goals as goal

pub returns-then-not-due : goal.returns-then-not-due
returns-then-not-due g c =
    wrote_same _ (due_none c.args.due (empty_line c.args.indent.now) c.if-not-due.true) (search rules)

pub returns : goal.returns
returns g c =
    wrote_same _ (due_whole c.args.due (empty_line c.args.indent.now) c.if-not-due.false) c.write_empty.ensures
