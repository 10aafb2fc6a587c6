use Rattle.emit_numbers.proofs.Expressions.{numbers_wide}
use Rattle.emit_numbers.proofs.Worked.{worked_worth}
use Rattle.emit_numbers.proofs.laws.printed_numbers_are_wide.Goals as goal

pub returns-clause-wide : goal.returns-clause-wide
returns-clause-wide c = numbers_wide

pub returns-clause-plain : goal.returns-clause-plain
returns-clause-plain c = worked_worth
