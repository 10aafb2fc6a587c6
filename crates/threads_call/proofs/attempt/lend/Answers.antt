use Rattle.std.proofs.Common.{Ok}
use Rattle.threads_call.proofs.Committing.{rested_waited, section_answers, waited_kept}
use Rattle.threads_call.proofs.attempt.lend.Goals as goal

pub returns-in-Made-clause-lent : goal.returns-in-Made-clause-lent
returns-in-Made-clause-lent g c = section_answers _ _ _ (Ok c.in-Made.receipt) _ c.reply_in.ensures c.in-Made.ensures.lends

pub returns-in-Rested-clause-lent : goal.returns-in-Rested-clause-lent
returns-in-Rested-clause-lent g c = rested_waited _ _ _ _ c.in-Rested.ensures.lends

pub returns-in-Kept-clause-lent : goal.returns-in-Kept-clause-lent
returns-in-Kept-clause-lent g c = waited_kept _ _ _ c.in-Kept.ensures.lends.0
