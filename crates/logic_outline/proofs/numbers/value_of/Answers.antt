use Rattle.logic_outline.proofs.NumberLemmas.{not_utf8}
use Rattle.logic_outline.proofs.numbers.value_of.Goals as goal

pub returns-in-Err : goal.returns-in-Err
returns-in-Err c = not_utf8 c.args.text.now c.in-Err.ensures.cases.0
