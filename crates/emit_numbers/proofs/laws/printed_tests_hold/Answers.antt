use Rattle.emit_numbers.proofs.Tests.{shared_tests_hold, tests_hold}
use Rattle.emit_numbers.proofs.laws.printed_tests_hold.Goals as goal

pub returns-clause-own : goal.returns-clause-own
returns-clause-own c = tests_hold

pub returns-clause-shared : goal.returns-clause-shared
returns-clause-shared c = shared_tests_hold
