use Rattle.plan_counted.proofs.Answered.{answered}
use Rattle.plan_counted.proofs.asking.answer.Goals as goal

pub returns : goal.returns
returns c =
    answered c.args.monitor.now c.args.kept.now c.args.question c.in_ok-query.query c.certificate_of.result c.in_ok-query.ensures.made
    c.certificate_of.ensures.decided c.certificate_of.ensures.valid
