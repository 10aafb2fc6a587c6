use Rattle.emit_names.specs.Letters.{spelled}
use Rattle.emit_names.specs.Words.{KEYWORDS}
use Rattle.emit_names.specs.Names.{is_shifted}
use Rattle.emit_names.proofs.Reading.{any_says}
use Rattle.emit_names.proofs.names.is_escaped.Goals as goal

pub returns : goal.returns
returns c = any_says (λ word. is_shifted word (spelled c.args.style 0 c.args.name.now)) KEYWORDS c.args.words.now _ _ _ _ c.any_of.ensures c.is_shifted-alone.ensures c.is_any_shifted-keyword.ensures c.is_any_shifted-word.ensures
