use Rattle.emit_names.specs.inner.Spellings.{spelling_text}
use Rattle.emit_names.proofs.Spellings.{ends_alike}
use Rattle.emit_names.proofs.spelling.+is_same.Goals as goal

pub returns-in-None : goal.returns-in-None
returns-in-None t c =
    ends_alike (spelling_text c.args.it) (spelling_text c.args.other) c.first_byte.result c.first_byte-in-None.result c.is_none.result c.first_byte.ensures c.in-None.is
    c.first_byte-in-None.ensures c.is_none.ensures
