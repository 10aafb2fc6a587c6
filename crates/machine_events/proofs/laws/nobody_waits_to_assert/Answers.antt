use Rattle.machine_events.proofs.Waiting.{on_a_condition, asserts_nowhere}
use Rattle.machine_events.proofs.laws.nobody_waits_to_assert.Goals as goal

pub returns-clause-conditions : goal.returns-clause-conditions
returns-clause-conditions c = on_a_condition

pub returns-clause-methods : goal.returns-clause-methods
returns-clause-methods c = asserts_nowhere
