use Rattle.std.proofs.Common.{codes, ap}
use Rattle.emit_comments.specs.Comments.{leading_docs}
use Rattle.base_io.proofs.Writing.{wrote_same}
use Rattle.emit_method.proofs.docs.write_own_comments.Goals as goal

pub returns : goal.returns
returns g c =
    (wrote_same _ (ap (leading_docs (codes "    ") c.args.it.now.source.now.text.now) c.line_of-place.ensures) c.write_leading.ensures)
