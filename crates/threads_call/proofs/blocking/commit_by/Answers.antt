use Rattle.std.proofs.Common.{◌∙◌}
use Rattle.threads_call.proofs.Committing.{commits_on, waited_on}
use Rattle.threads_call.proofs.blocking.commit_by.Goals as goal

pub returns-in-Some-attempt-clause-commits : goal.returns-in-Some-attempt-clause-commits
returns-in-Some-attempt-clause-commits g c =
    commits_on c.args.client c.args.caller.now.known c.loop.caller.known c.attempt.new.caller.known c.in-Some-attempt.end c.loop.invariant.1 c.in-Some-attempt.ensures.attempts

pub loop-preserved : goal.loop-preserved
loop-preserved g c =
    (c.attempt.ensures.own ∙ c.loop.invariant.0, waited_on c.args.client c.args.caller.now.known c.loop.caller.known c.attempt.new.caller.known c.loop.invariant.1 c.in-None-attempt.ensures.attempts)
