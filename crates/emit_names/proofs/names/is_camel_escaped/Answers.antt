use Rattle.emit_names.specs.Letters.{camel}
use Rattle.emit_names.specs.Words.{KEYWORDS}
use Rattle.emit_names.specs.Names.{is_shifted}
use Rattle.emit_names.proofs.Reading.{any_says}
use Rattle.emit_names.proofs.names.is_camel_escaped.Goals as goal

pub returns : goal.returns
returns c = any_says (λ word. is_shifted word (camel c.args.name.now)) KEYWORDS c.args.words.now _ _ _ _ c.any_of.ensures c.is_camel_shifted-alone.ensures c.is_any_camel_shifted-keyword.ensures c.is_any_camel_shifted-word.ensures
