use Rattle.plan_prune.proofs.HardClaims.{none_open}
use Rattle.plan_prune.proofs.laws.easy_monitors_have_no_open_claim.Goals as goal

pub returns : goal.returns
returns c = none_open
