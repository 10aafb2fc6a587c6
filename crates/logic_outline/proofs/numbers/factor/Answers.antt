use Rattle.logic_outline.proofs.NumberLemmas.{signed, unsigned}
use Rattle.logic_outline.proofs.numbers.factor.Goals as goal

pub returns-in-Some : goal.returns-in-Some
returns-in-Some c = signed c.in-Some.digits.now c.args.bytes.now c.below_zero.result c.in-Some.ensures c.below_zero.ensures

pub returns-in-None : goal.returns-in-None
returns-in-None c = unsigned c.args.bytes.now c.from_zero.result c.in-None.ensures c.from_zero.ensures
