use Rattle.plan_prune.proofs.HardClaims.{plain_not_hard}
use Rattle.plan_prune.proofs.laws.plain_claims_are_not_hard.Goals as goal

pub returns : goal.returns
returns c = plain_not_hard
