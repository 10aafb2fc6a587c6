use Rattle.logic_outline.proofs.NumberLemmas.{not_parsed, not_text, not_this}
use Rattle.logic_outline.proofs.numbers.value_of_word.Goals as goal

pub returns-else-is_text_of : goal.returns-else-is_text_of
returns-else-is_text_of c = not_this c.args.word.now c.in-Ok.number c.in-Ok.ensures.value.0 (not_text c.is_text_of.result c.in-Ok.number c.as_bytes.result.now c.args.word.now c.is_text_of.ensures c.as_bytes.ensures.value c.if-is_text_of.false)

pub returns-in-Err : goal.returns-in-Err
returns-in-Err c = not_parsed c.args.word.now c.in-Err.field-0 c.in-Err.ensures.value.0
