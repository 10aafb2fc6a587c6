use Rattle.plan_place.proofs.RelayedPlans.{omits_no_more, relayed_fits, relayed_lawful}
use Rattle.plan_place.proofs.laws.relayed_plans_are_lawful.Goals as goal

pub returns-clause-fits : goal.returns-clause-fits
returns-clause-fits c = relayed_fits

pub returns-clause-lawful : goal.returns-clause-lawful
returns-clause-lawful c = relayed_lawful

pub returns-clause-omits : goal.returns-clause-omits
returns-clause-omits c = omits_no_more
