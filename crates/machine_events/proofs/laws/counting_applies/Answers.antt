use Rattle.machine_events.proofs.CountApplying.{counting_applies, guards_count}
use Rattle.machine_events.proofs.laws.counting_applies.Goals as goal

pub returns-clause-condition : goal.returns-clause-condition
returns-clause-condition c = counting_applies

pub returns-clause-plan : goal.returns-clause-plan
returns-clause-plan c = guards_count
