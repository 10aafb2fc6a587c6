use Rattle.report_proofs.proofs.Fronts.{at_some}
use Rattle.front_help.proofs.claims.claims_slip.Goals as goal

pub slip_under-requires : goal.slip_under-requires
slip_under-requires c = (at_some _ _ c.in-Some.is c.in_ok-plan.ensures).holds
