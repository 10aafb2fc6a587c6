use Rattle.std.proofs.Common.{◌≡◌, ◌∙◌, length, arith}
use Rattle.emit_names.specs.Letters.{camel_from}
use Rattle.emit_names.specs.Names.{is_shifted}
use Rattle.emit_names.proofs.Reading.{at_end}
use Rattle.emit_names.proofs.names.+is_camel_shifted.Goals as goal

pub returns-in_default : goal.returns-in_default
returns-in_default t c =
    let none : length c.args.text.now ≡ 0 = omega (arith, c.in_default.len_below) in
    c.is_ended.ensures ∙ at_end (λ text. is_shifted c.args.word.now (camel_from c.args.raise text)) c.args.text.now none
