use Rattle.lang_monitor.proofs.Classes.{asserting, classes, numbers, order}
use Rattle.lang_monitor.proofs.laws.conditions_are_classes.Goals as goal

pub returns-clause-classes : goal.returns-clause-classes
returns-clause-classes c = classes

pub returns-clause-numbers : goal.returns-clause-numbers
returns-clause-numbers c = numbers

pub returns-clause-order : goal.returns-clause-order
returns-clause-order c = order

pub returns-clause-asserts : goal.returns-clause-asserts
returns-clause-asserts c = asserting
