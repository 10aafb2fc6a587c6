use Rattle.emit_numbers.proofs.Starts.{starts_are_short}
use Rattle.emit_numbers.proofs.Steps.{bodies_step}
use Rattle.emit_numbers.proofs.laws.printed_bodies_step.Goals as goal

pub returns-clause-steps : goal.returns-clause-steps
returns-clause-steps c = bodies_step

pub returns-clause-starts : goal.returns-clause-starts
returns-clause-starts c = starts_are_short
