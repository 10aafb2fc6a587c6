use Rattle.std.proofs.Common.{sym, ◌∙◌}
use Rattle.plan_why.proofs.Solved.{beyond_limits}
use Rattle.plan_why.proofs.failing.failure_of.Goals as goal

pub returns-in-None : goal.returns-in-None
returns-in-None c =
    beyond_limits c.args.monitor.now c.args.query.now (sym c.in-None.is ∙ c.in_ok-negated.ensures.negated)
