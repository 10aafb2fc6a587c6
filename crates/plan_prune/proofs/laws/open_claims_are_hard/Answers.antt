use Rattle.plan_prune.proofs.HardClaims.{open_hard}
use Rattle.plan_prune.proofs.laws.open_claims_are_hard.Goals as goal

pub returns : goal.returns
returns c = open_hard
