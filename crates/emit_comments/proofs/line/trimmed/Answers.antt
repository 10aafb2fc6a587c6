use Rattle.std.proofs.Common.{refl}
use Rattle.std.proofs.lemmas.Str.Ascii.{trim_ascii_is}
use Rattle.emit_comments.specs.Comments.{unindented}
use Rattle.emit_comments.proofs.line.trimmed.Goals as goal

pub returns : goal.returns
returns c = trim_ascii_is c.args.text.now c.trim_ascii.result.now (unindented c.args.text.now) refl c.trim_ascii.ensures.value
