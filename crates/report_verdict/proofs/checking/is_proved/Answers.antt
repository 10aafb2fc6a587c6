use Rattle.std.proofs.Common.{sym, ◌∙◌}
use Rattle.report_verdict.proofs.Answered.{answer_none, answer_some}
use Rattle.report_verdict.proofs.checking.is_proved.Goals as goal

pub returns-in-Some : goal.returns-in-Some
returns-in-Some c =
    answer_some c.args.monitor.now c.args.kept.now c.args.claim c.args.cert.now c.in_ok-query.query c.in-Some.formula c.is_refuted.result c.in_ok-query.ensures.made
    (sym c.in_ok-formula.ensures.negated ∙ c.in-Some.is) c.is_refuted.ensures

pub returns : goal.returns
returns c =
    answer_none c.args.monitor.now c.args.kept.now c.args.claim c.args.cert.now c.in_ok-query.query c.in_ok-query.ensures.made (sym c.in_ok-formula.ensures.negated ∙ c.in-None.is)
