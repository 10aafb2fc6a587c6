use Rattle.emit_code.proofs.Live.{live_fits, live_is_lawful}
use Rattle.emit_code.proofs.laws.live_plans_are_lawful.Goals as goal

pub returns-clause-fits : goal.returns-clause-fits
returns-clause-fits c = live_fits

pub returns-clause-lawful : goal.returns-clause-lawful
returns-clause-lawful c = live_is_lawful
