use Rattle.machine_events.proofs.Opened.{counting_stays, lawful_stays, plan_stays, system_stays}
use Rattle.machine_events.proofs.laws.lawful_for_every_choice.Goals as goal

pub returns-clause-systems : goal.returns-clause-systems
returns-clause-systems c = system_stays

pub returns-clause-fits : goal.returns-clause-fits
returns-clause-fits c = plan_stays

pub returns-clause-lawful : goal.returns-clause-lawful
returns-clause-lawful c = lawful_stays

pub returns-clause-counting : goal.returns-clause-counting
returns-clause-counting c = counting_stays
