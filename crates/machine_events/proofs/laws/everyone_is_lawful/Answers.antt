use Rattle.machine_events.proofs.Everyone.{everyone_fits, everyone_lawful}
use Rattle.machine_events.proofs.laws.everyone_is_lawful.Goals as goal

pub returns-clause-fits : goal.returns-clause-fits
returns-clause-fits c = everyone_fits

pub returns-clause-lawful : goal.returns-clause-lawful
returns-clause-lawful c = everyone_lawful
