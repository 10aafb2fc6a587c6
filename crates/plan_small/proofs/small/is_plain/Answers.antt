use Rattle.std.proofs.Common.{sym, ◌∙◌}
use Rattle.plan_small.proofs.Smallness.{claim_beyond, claim_within}
use Rattle.plan_small.proofs.small.is_plain.Goals as goal

pub returns-in-None : goal.returns-in-None
returns-in-None c =
    claim_beyond c.args.monitor.now c.args.all.now c.args.claim c.in_ok-query.query c.requires.all c.in_ok-query.ensures.made (sym c.in-None.is ∙ c.in_ok-negated.ensures.negated)

pub returns : goal.returns
returns c =
    claim_within c.args.monitor.now c.args.all.now c.args.claim c.in_ok-query.query c.in-Some.formula c.is_plain_formula.result c.requires.all c.in_ok-query.ensures.made
    (sym c.in-Some.is ∙ c.in_ok-negated.ensures.negated) c.is_plain_formula.ensures
