use Rattle.std.proofs.Common.{◌++◌, ◌∙◌, ap}
use Rattle.emit_names.specs.Letters.{camel}
use Rattle.emit_names.specs.Words.{TYPE_WORDS}
use Rattle.emit_names.specs.Names.{escape_text, escaped}
use Rattle.base_io.proofs.Writing.{wrote_both, wrote_same}
use Rattle.emit_names.proofs.names.write_type.Goals as goal

pub returns : goal.returns
returns g c =
    wrote_same _ (ap (λ l. camel c.bytes-name.result.now ++ l) (c.escape_bytes.ensures ∙ ap escape_text c.is_camel_escaped.ensures) ∙ ap (λ name. escaped TYPE_WORDS (camel name)) c.bytes-name.ensures)
    (wrote_both c.in_ok-write_camel.ensures c.write_piece.ensures)
