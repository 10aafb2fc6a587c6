use Rattle.std.proofs.Common.{codes}
use Rattle.base_io.proofs.Writing.{wrote_same}
use Rattle.emit_comments.specs.Comments.{comment_docs, has_comments}
use Rattle.emit_statements.proofs.Choices.{no_text, yes_text}
use Rattle.emit_module.specs.Modules.{plain_docs}
use Rattle.emit_module.proofs.module.write_constant_docs.Goals as goal

pub returns-then-has_comments : goal.returns-then-has_comments
returns-then-has_comments g c =
    wrote_same _ (yes_text (has_comments c.args.text.now c.args.place) _ (comment_docs (codes "    ") c.args.text.now c.args.place) (plain_docs c.args.declared.now) c.has_comments.ensures c.if-has_comments.true) c.write_comments.ensures

pub returns : goal.returns
returns g c =
    wrote_same _ (no_text (has_comments c.args.text.now c.args.place) _ (comment_docs (codes "    ") c.args.text.now c.args.place) (plain_docs c.args.declared.now) c.has_comments.ensures c.if-has_comments.false) c.write_plain_docs.ensures
